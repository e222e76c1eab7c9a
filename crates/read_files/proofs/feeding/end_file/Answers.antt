use Rattle.std.proofs.Common.{ap, sym, ◌∙◌}
use Rattle.mlr_event.specs.Verb.{is_part}
use Rattle.read_files.proofs.Events.{part-rest}
use Rattle.read_files.proofs.feeding.end_file.Goals as goal

pub returns-then-ends_in_fault : goal.returns-then-ends_in_fault
returns-then-ends_in_fault g c = λ source bytes represents part.
    let adds = c.in-Ok.ensures.adds source bytes represents in
    let known = g.R.ByteReader.fed source bytes in
    (adds, sym (c.ends_in_fault.ensures c.args.out.now adds.0 adds.2 c.len-before.ensures (part-rest known adds.0 (ap is_part (sym adds.1) ∙ part))) ∙ c.if-ends_in_fault.true)

pub returns : goal.returns
returns g c = λ source bytes represents part.
    let adds = c.in-Ok.ensures.adds source bytes represents in
    let known = g.R.ByteReader.fed source bytes in (
      adds,
      sym (c.ends_in_fault.ensures c.args.out.now adds.0 adds.2 c.len-before.ensures (part-rest known adds.0 (ap is_part (sym adds.1) ∙ part))) ∙ c.if-ends_in_fault.false,
      c.in-Ok.ensures.ctx source bytes represents,
      c.in-Ok.ensures.few source bytes represents,
    )

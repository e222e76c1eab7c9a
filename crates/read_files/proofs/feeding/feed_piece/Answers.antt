use Rattle.std.proofs.Common.{ap, sym, ◌∙◌}
use Rattle.mlr_event.specs.Verb.{is_part}
use Rattle.read_files.proofs.Events.{part-rest}
use Rattle.read_files.proofs.Results.{ok_holds}
use Rattle.read_files.proofs.feeding.feed_piece.Goals as goal

pub returns-then-ends_in_fault-clause-says : goal.returns-then-ends_in_fault-clause-says
returns-then-ends_in_fault-clause-says g c = λ source bytes represents part.
    let adds = ok_holds c.feed.result (sym c.is_err.ensures.value ∙ c.if-is_err.false) (c.feed.ensures.adds source bytes represents) in
    let known = g.R.ByteReader.fed source bytes in
    (adds, sym (c.ends_in_fault.ensures c.args.out.now adds.0 adds.2 c.len-before.ensures (part-rest known adds.0 (ap is_part (sym adds.1) ∙ part))) ∙ c.if-ends_in_fault.true)

pub returns-clause-says : goal.returns-clause-says
returns-clause-says g c = λ source bytes represents part.
    let adds = ok_holds c.feed.result (sym c.is_err.ensures.value ∙ c.if-is_err.false) (c.feed.ensures.adds source bytes represents) in
    let known = g.R.ByteReader.fed source bytes in
    (adds, sym (c.ends_in_fault.ensures c.args.out.now adds.0 adds.2 c.len-before.ensures (part-rest known adds.0 (ap is_part (sym adds.1) ∙ part))) ∙ c.if-ends_in_fault.false)

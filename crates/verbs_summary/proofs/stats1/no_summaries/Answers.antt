use Rattle.std.proofs.Common.{◌+◌, ◌<◌, ◌∷◌, ◌++◌, [], length, get_or, take, sym, subst, arith}
use Rattle.std.proofs.lemmas.List.{take_more}
use Rattle.verbs_summary.specs.KeptOfGroup.{KeepsEach, KeepsValues}
use Rattle.verbs_summary.proofs.Keeping.{keeps-push}
use Rattle.verbs_summary.proofs.stats1.no_summaries.Goals as goal

pub loop-preserved : goal.loop-preserved
loop-preserved c =
    let options = c.args.options.now in
    let i = c.loop.counter in
    let below : i < length options.names = omega (arith, c.loop-test.true, c.len-end.ensures) in
    let keeps = KeepsEach (KeepsValues options []) in
    subst (keeps (take (i + 1) options.names)) (sym c.in_ok-push.ensures.items)
    (subst (λ names. keeps names (c.loop.summaries.items ++ c.in_ok-new.field-0 ∷ [])) (sym (take_more options.names i [] below))
    (keeps-push (KeepsValues options []) (take i options.names) c.loop.summaries.items (get_or options.names i []) c.in_ok-new.field-0 c.loop.invariant c.in_ok-new.ensures))

use Rattle.std.proofs.Common.{[], ◌∷◌, ◌++◌, ap, ◌∙◌}
use Rattle.mlr_value.specs.Value.{tree_of}
use Rattle.verbs_state.proofs.Names.{names-more}
use Rattle.verbs_state.proofs.regularize.names_of.Goals as goal

pub loop-place-preserved : goal.loop-place-preserved
loop-place-preserved c =
    names-more c.loop-place.names c.push.new.self c.args.fields.now c.loop-place.place (c.entry.result.0.now, tree_of c.entry.result.1.now) c.entry.ensures
    (c.in_ok-push.ensures ∙ ap (λ name. c.loop-place.names ++ name ∷ []) c.in_ok-copy_of.ensures.copied)
    c.loop-place.invariant

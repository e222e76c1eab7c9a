use Rattle.std.proofs.Common.{[], ◌∷◌, map, ap, ◌∙◌}
use Rattle.std.proofs.lemmas.List.{map-append}
use Rattle.mlr_value.specs.Value.{tree_of}
use Rattle.verbs_state.proofs.Names.{names-more}
use Rattle.verbs_state.proofs.regularize.borrowed_names.Goals as goal

pub loop-place-preserved : goal.loop-place-preserved
loop-place-preserved c =
    names-more (map (λ name. name.now) c.loop-place.names.items) (map (λ name. name.now) c.push.new.self.items) c.args.fields.now c.loop-place.place (c.entry.result.0.now, tree_of c.entry.result.1.now) c.entry.ensures
    (ap (map (λ name. name.now)) c.in_ok-push.ensures.items ∙ map-append (λ name. name.now) c.loop-place.names.items (c.entry.result.0 ∷ []))
    c.loop-place.invariant

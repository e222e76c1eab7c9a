use Rattle.std.proofs.Common.{ℕ, List, sym, ◌∙◌}
use Rattle.mlr_event.specs.Reading.{is_among}
use Rattle.mlr_spec.specs.Tree.{Tree}
use Rattle.mlr_spec.proofs.Flattening.{any-here, any-later}
use Rattle.mlr_value.specs.Value.{tree_of}
use Rattle.verbs_values.specs.Flatten.{is_flattened}
use Rattle.verbs_values.proofs.flatten.has_flattened.Goals as goal

pub returns-then-is_flattened-clause-found : goal.returns-then-is_flattened-clause-found
returns-then-is_flattened-clause-found c =
    let entry : List ℕ × Tree = (c.entry.result.0.now, tree_of c.entry.result.1.now) in
    sym (any-here (is_flattened (is_among c.args.names.now)) c.args.from.now c.loop-place.place entry c.entry.ensures (sym c.if-is_flattened.ensures))
    ∙ c.loop-place.invariant

pub loop-place-preserved : goal.loop-place-preserved
loop-place-preserved c =
    let entry : List ℕ × Tree = (c.entry.result.0.now, tree_of c.entry.result.1.now) in
    any-later (is_flattened (is_among c.args.names.now)) c.args.from.now c.loop-place.place entry c.entry.ensures (sym c.if-is_flattened.ensures)
    ∙ c.loop-place.invariant

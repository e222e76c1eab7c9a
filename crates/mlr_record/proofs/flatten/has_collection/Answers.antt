use Rattle.std.proofs.Common.{ℕ, List, sym, ◌∙◌}
use Rattle.mlr_spec.specs.Tree.{Tree, is_collection}
use Rattle.mlr_spec.proofs.Flattening.{any-here, any-later}
use Rattle.mlr_value.specs.Value.{tree_of}
use Rattle.mlr_record.proofs.flatten.has_collection.Goals as goal

pub returns-then-is_collection-clause-found : goal.returns-then-is_collection-clause-found
returns-then-is_collection-clause-found c =
    let entry : List ℕ × Tree = (c.entry.result.0.now, tree_of c.entry.result.1.now) in
    sym (any-here (λ pair. is_collection pair.1) c.args.from.now c.loop-place.place entry c.entry.ensures (sym c.if-is_collection.ensures))
    ∙ c.loop-place.invariant

pub loop-place-preserved : goal.loop-place-preserved
loop-place-preserved c =
    let entry : List ℕ × Tree = (c.entry.result.0.now, tree_of c.entry.result.1.now) in
    any-later (λ pair. is_collection pair.1) c.args.from.now c.loop-place.place entry c.entry.ensures (sym c.if-is_collection.ensures)
    ∙ c.loop-place.invariant

use Rattle.std.proofs.Common.{ℕ, List, sym, ◌∙◌}
use Rattle.mlr_spec.specs.Tree.{Tree}
use Rattle.mlr_spec.proofs.Flattening.{any-here, any-later}
use Rattle.mlr_value.specs.Value.{tree_of}
use Rattle.mlr_record.specs.NamedPaths.{is_unflattened_named}
use Rattle.mlr_record.proofs.unflatten.has_named_path.Goals as goal

pub returns-then-is_named_path-clause-found : goal.returns-then-is_named_path-clause-found
returns-then-is_named_path-clause-found c =
    let entry : List ℕ × Tree = (c.entry.result.0.now, tree_of c.entry.result.1.now) in
    sym (any-here (is_unflattened_named c.args.separator.now c.args.names.now) c.args.from.now c.loop-place.place entry c.entry.ensures (sym c.if-is_named_path.ensures))
    ∙ c.loop-place.invariant

pub loop-place-preserved : goal.loop-place-preserved
loop-place-preserved c =
    let entry : List ℕ × Tree = (c.entry.result.0.now, tree_of c.entry.result.1.now) in
    any-later (is_unflattened_named c.args.separator.now c.args.names.now) c.args.from.now c.loop-place.place entry c.entry.ensures (sym c.if-is_named_path.ensures)
    ∙ c.loop-place.invariant

use Rattle.std.proofs.Common.{ap₂, ◌∙◌, is_ok}
use Rattle.mlr_spec.specs.Pairs.{value_at}
use Rattle.mlr_value.specs.Value.{tree_of}
use Rattle.mlr_value.specs.Collections.{pairs_of}
use Rattle.mlr_value.proofs.Places.{distinct-pushed}
use Rattle.mlr_value.proofs.map_value.MapValue.push.Goals as goal

pub invariant_of-self : goal.invariant_of-self
invariant_of-self c =
    let key = c.in_ok-key.key in
    let pairs = pairs_of c.self.inside.columns.pairs.items in (
      distinct-pushed (is_ok c.push_pair.result) key (tree_of c.args.value) pairs (pairs_of c.push_pair.new.columns.pairs.items)
          (ap₂ value_at c.in_ok-key.ensures.copied c.self.view_is ∙ c.requires) c.self.invariant.0 c.push_pair.ensures.pairs,
      c.push_pair.ensures.index,
    )

pub push_pair-requires-clause-absent : goal.push_pair-requires-clause-absent
push_pair-requires-clause-absent c = ap₂ value_at c.in_ok-key.ensures.copied c.self.view_is ∙ c.requires

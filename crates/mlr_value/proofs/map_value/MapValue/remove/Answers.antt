use Rattle.std.proofs.Common.{◌≡◌, true, sym, subst}
use Rattle.mlr_spec.specs.Pairs.{keys_of, are_distinct}
use Rattle.mlr_spec.proofs.Pairs.{are_distinct-remove}
use Rattle.mlr_value.specs.Collections.{pairs_of}
use Rattle.mlr_value.proofs.map_value.MapValue.remove.Goals as goal

pub invariant_of-self : goal.invariant_of-self
invariant_of-self c = (
  subst (λ pairs. are_distinct (keys_of pairs) ≡ true) (sym c.remove_pair.ensures.pairs)
      (are_distinct-remove c.args.key.now (pairs_of c.self.inside.columns.pairs.items) c.self.invariant.0),
  c.remove_pair.ensures.index,
)

use Rattle.std.proofs.Common.{ap, sym, subst, ◌∙◌, arith, is_some}
use Rattle.mlr_keys.proofs.Keyed.{map-remove}
use Rattle.mlr_spec.specs.Pairs.{keys_of}
use Rattle.mlr_keys.specs.Keys.{Knows}
use Rattle.mlr_value.specs.Collections.{pair_of, pairs_of, has_key}
use Rattle.mlr_value.proofs.Places.{value_at-absent, value_at-first, remove_at-absent, remove_at-first, first-below}
use Rattle.mlr_value.proofs.map_value.remove_pair.Goals as goal

pub returns-in_default-clause-found : goal.returns-in_default-clause-found
returns-in_default-clause-found c = ap is_some (sym (value_at-absent c.args.key.now c.args.columns.now.pairs.items c.in_default.ensures))

pub returns-in_default-clause-pairs : goal.returns-in_default-clause-pairs
returns-in_default-clause-pairs c = sym (remove_at-absent c.args.key.now c.args.columns.now.pairs.items c.in_default.ensures)

pub remove-requires : goal.remove-requires
remove-requires c =
    let pairs = c.args.columns.now.pairs in
    omega (arith, first-below (has_key c.args.key.now) pairs.items c.in-Some.place c.in-Some.ensures, pairs.ok.0)

pub returns-clause-found : goal.returns-clause-found
returns-clause-found c = ap is_some (sym (value_at-first c.args.key.now c.args.columns.now.pairs.items c.in-Some.place c.remove.result c.in-Some.ensures))

pub returns-clause-pairs : goal.returns-clause-pairs
returns-clause-pairs c = ap pairs_of c.remove.ensures.items ∙ sym (remove_at-first c.args.key.now c.args.columns.now.pairs.items c.in-Some.place c.in-Some.ensures)

pub returns-clause-index : goal.returns-clause-index
returns-clause-index c =
    let pairs = c.args.columns.now.pairs.items in
    let keys_removed = map-remove (λ pair. pair.0) (pairs_of pairs) c.in-Some.place in
    let pairs_removed = map-remove pair_of pairs c.in-Some.place in
    subst (Knows c.remove-2.new.self) (sym (ap (λ t. keys_of (pairs_of t)) c.remove.ensures.items ∙ ap keys_of pairs_removed ∙ keys_removed))
    (c.remove-2.ensures (keys_of (pairs_of pairs)) c.requires)

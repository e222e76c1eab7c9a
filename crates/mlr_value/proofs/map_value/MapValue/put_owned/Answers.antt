use Rattle.std.proofs.Common.{◌≡◌, ℕ, true, List, Option, Some, None, ap, ap₂, sym, subst, ◌∙◌, arith, cond, is_ok}
use Rattle.mlr_spec.specs.Pairs.{put_at, keys_of, are_distinct}
use Rattle.mlr_spec.proofs.Pairs.{put_at-none, are_distinct-put}
use Rattle.mlr_value.specs.Value.{tree_of}
use Rattle.mlr_keys.specs.Keys.{Knows}
use Rattle.mlr_value.specs.declared.map_value.Pair.{Pair}
use Rattle.mlr_value.specs.Collections.{pairs_of, has_key, IsPlaceOf}
use Rattle.mlr_value.proofs.Places.{value_at-absent, first-below, pairs_of-set, keys-set, distinct-pushed}
use Rattle.mlr_value.proofs.map_value.MapValue.put_owned.Goals as goal

-- a search for the slice of a key is a search for the key
found : (asked key : List ℕ) (pairs : List Pair) (place : Option ℕ) → asked ≡ key → IsPlaceOf asked pairs place → IsPlaceOf key pairs place
found asked key pairs place is at = subst (λ k. IsPlaceOf k pairs place) is at

pub index_mut-requires : goal.index_mut-requires
index_mut-requires c =
    let pairs = c.self.inside.columns.pairs in
    omega (arith, first-below (has_key c.args.key) pairs.items c.in-Some.place (found c.as_slice.result.now c.args.key c.self.inside.columns.pairs.items (Some c.in-Some.place) c.as_slice.ensures c.in-Some.ensures), pairs.ok.0)

pub invariant_of-self : goal.invariant_of-self
invariant_of-self c =
    let key = c.args.key in
    let pairs = c.self.inside.columns.pairs.items in
    let old = c.index_mut.result.now in
    let written = pairs_of-set key c.args.value pairs c.in-Some.place old c.index_mut.ensures.value (found c.as_slice.result.now c.args.key c.self.inside.columns.pairs.items (Some c.in-Some.place) c.as_slice.ensures c.in-Some.ensures) in (
      subst (λ x. are_distinct (keys_of x) ≡ true) (sym written) (are_distinct-put key (tree_of c.args.value) (pairs_of pairs) c.self.invariant.0),
      subst (Knows c.self.inside.columns.index) (sym (keys-set pairs c.in-Some.place old c.args.value c.index_mut.ensures.value)) c.self.invariant.1,
    )

pub push_pair-requires-clause-absent : goal.push_pair-requires-clause-absent
push_pair-requires-clause-absent c = value_at-absent c.args.key c.self.inside.columns.pairs.items (found c.as_slice.result.now c.args.key c.self.inside.columns.pairs.items None c.as_slice.ensures c.in-None.ensures)

pub invariant_of-self-in-None : goal.invariant_of-self-in-None
invariant_of-self-in-None c =
    let key = c.args.key in
    let pairs = c.self.inside.columns.pairs.items in (
      distinct-pushed (is_ok c.push_pair.result) key (tree_of c.args.value) (pairs_of pairs) (pairs_of c.push_pair.new.columns.pairs.items)
          (value_at-absent key pairs (found c.as_slice.result.now c.args.key c.self.inside.columns.pairs.items None c.as_slice.ensures c.in-None.ensures)) c.self.invariant.0 c.push_pair.ensures.pairs,
      c.push_pair.ensures.index,
    )

pub returns-in-Some : goal.returns-in-Some
returns-in-Some c =
    let key = c.args.key in
    pairs_of-set key c.args.value c.self.inside.columns.pairs.items c.in-Some.place c.index_mut.result.now c.index_mut.ensures.value (found c.as_slice.result.now c.args.key c.self.inside.columns.pairs.items (Some c.in-Some.place) c.as_slice.ensures c.in-Some.ensures)
    ∙ ap (put_at key (tree_of c.args.value)) c.self.view_is

pub returns-in-None : goal.returns-in-None
returns-in-None c =
    let key = c.args.key in
    let value = tree_of c.args.value in
    let pairs = c.self.inside.columns.pairs.items in
    let put = sym (put_at-none key value (pairs_of pairs) (value_at-absent key pairs (found c.as_slice.result.now c.args.key c.self.inside.columns.pairs.items None c.as_slice.ensures c.in-None.ensures))) ∙ ap (put_at key value) c.self.view_is in
    c.push_pair.ensures.pairs ∙ ap₂ (λ x y. cond (is_ok c.push_pair.result) x y) put c.self.view_is

use Rattle.std.proofs.Common.{◌≡◌, true, false, ◌++◌, ◌∷◌, [], map, ap, ap₂, sym, subst, ◌∙◌}
use Rattle.std.specs.List.{list_any}
use Rattle.std.specs.Str.{bytes_eq}
use Rattle.std.proofs.lemmas.List.{map-append}
use Rattle.mlr_spec.specs.Pairs.{keys_of, are_distinct}
use Rattle.mlr_value.specs.declared.map_value.Pair.{Pair}
use Rattle.mlr_value.specs.Collections.{pair_of, pairs_of}
use Rattle.mlr_keys.specs.Keys.{Knows}
use Rattle.mlr_value.proofs.Places.{any-absent, keys-are}
use Rattle.mlr_value.proofs.map_value.push_pair.Goals as goal
use Rattle.mlr_value.proofs.map_value.push_pair.Goals.{After-deref}

-- the keys that the index is asked of
asked : (c : After-deref) → map (λ pair. pair.key) c.deref.result.now ≡ keys_of (pairs_of c.args.columns.now.pairs.items)
asked c = ap (map (λ pair. pair.key)) (c.deref.ensures.value ∙ c.in_ok-reserve_pair.ensures.same) ∙ keys-are c.args.columns.now.pairs.items

pub add-requires-clause-knows : goal.add-requires-clause-knows
add-requires-clause-knows c = subst (Knows c.args.columns.now.index) (sym (asked (goal.at.add-requires-clause-knows c).After-deref)) c.requires.index

pub add-requires-clause-distinct : goal.add-requires-clause-distinct
add-requires-clause-distinct c = subst (λ keys. are_distinct keys ≡ true) (sym (asked (goal.at.add-requires-clause-distinct c).After-deref)) c.requires.distinct

pub add-requires-clause-absent : goal.add-requires-clause-absent
add-requires-clause-absent c =
    subst (λ keys. list_any (bytes_eq c.as_slice.result.now) keys ≡ false) (sym (asked (goal.at.add-requires-clause-absent c).After-deref))
    (subst (λ key. list_any (bytes_eq key) (keys_of (pairs_of c.args.columns.now.pairs.items)) ≡ false) (sym c.as_slice.ensures)
    (any-absent c.args.key (pairs_of c.args.columns.now.pairs.items) c.requires.absent))

pub returns-in_err-add-clause-index : goal.returns-in_err-add-clause-index
returns-in_err-add-clause-index c =
    subst (Knows c.add.new.self)
    (asked (goal.at.returns-in_err-add-clause-index c).After-deref ∙ sym (ap (λ pairs. keys_of (pairs_of pairs)) c.in_ok-reserve_pair.ensures.same)) c.in_err-add.ensures.err

pub returns-clause-index : goal.returns-clause-index
returns-clause-index c =
    let pairs = c.args.columns.now.pairs.items in
    let pair : Pair = record { key = c.args.key; value = c.args.value } in
    let pushed = ap (λ t. keys_of (pairs_of t)) (c.push_reserved.ensures.items ∙ ap (λ t. t ++ pair ∷ []) c.in_ok-reserve_pair.ensures.same)
    ∙ ap keys_of (map-append pair_of pairs (pair ∷ [])) ∙ map-append (λ p. p.0) (pairs_of pairs) (pair_of pair ∷ []) in
    subst (Knows c.add.new.self) (ap₂ (λ keys key. keys ++ key ∷ []) (asked (goal.at.returns-clause-index c).After-deref) c.as_slice.ensures ∙ sym pushed) c.in_ok-add.ensures.ok

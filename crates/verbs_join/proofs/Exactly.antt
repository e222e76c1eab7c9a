-- What `join` gives, by the texts in the join fields.
use Rattle.std.proofs.Common.{◌≡◌, ℕ, Bool, true, false, cond, not, List, [], ◌∷◌, map, Option, Some, None, refl, ap, sym, subst, ◌∙◌}
use Rattle.std.specs.List.{Contains, list_any}
use Rattle.std.proofs.lemmas.Bool.{not-true, not_from_false, true≢false}
use Rattle.mlr_event.specs.declared.event.Ctx.{Ctx}
use Rattle.mlr_groups.specs.Grouping.{group_of, is_in, texts_eq}
use Rattle.mlr_groups.specs.declared.group_by.GroupBy.TheVariants.{Texts}
use Rattle.mlr_groups.proofs.KeyTexts.{texts_eq-Decides}
use Rattle.verbs_base.specs.Records.{Fields, Row, records}
use Rattle.verbs_join.specs.Join.{join, join_gives, pair_of, pairs_with, partners, unpaired}
use Rattle.verbs_join.specs.Paired.{HaveSameTexts, IsAlone, IsPairOf}
use Rattle.verbs_join.specs.declared.join.Join.{Join}
use Rattle.verbs_join.proofs.Belonging.{In, any-in, contains-in, filter-in, in-contains, in-filter, in-map, map-in, none-in}

-- two records pair exactly if they have the same texts
pub same-pairs : (options : Join) (left right : Fields) → HaveSameTexts options left right → pairs_with options left right ≡ true
same-pairs options left right same =
    ap (λ own. elim own [ Some texts ↦ is_in (Texts options.left) texts left | None ↦ false ]) same.2
    ∙ ap (λ own. elim own [ Some own ↦ texts_eq same.0 own | None ↦ false ]) same.1
    ∙ (texts_eq-Decides same.0 same.0).1 refl

pub pairs-same : (options : Join) (left right : Fields) → pairs_with options left right ≡ true → HaveSameTexts options left right
pairs-same options left right pairs = of (group_of options.right right) (group_of options.left left) refl refl pairs
  where
    of : (own other : Option (List (List ℕ))) → group_of options.right right ≡ own → group_of options.left left ≡ other
        → (elim own [ Some texts ↦ (elim other [ Some own ↦ texts_eq texts own | None ↦ false ]) | None ↦ false ]) ≡ true → HaveSameTexts options left right
    of None other is that same = absurd (true≢false (sym same))
    of (Some texts) None is that same = absurd (true≢false (sym same))
    of (Some texts) (Some others) is that same = (texts, that ∙ ap Some (sym ((texts_eq-Decides texts others).0 same)), is)

module _ (options : Join) (lefts : List Fields) where
  module _ (right : Fields) where
    -- what a right record gives with a partner, and without one
    gives-pairs : list_any (λ left. pairs_with options left right) lefts ≡ true → options.pairs ≡ true → join_gives options lefts right ≡ map (λ left. pair_of options left right) (partners options lefts right)
    gives-pairs some pairs = rw some (rw pairs refl)

    pub pairs-given : (left : Fields) → options.pairs ≡ true → Contains lefts left → HaveSameTexts options left right → Contains (join_gives options lefts right) (pair_of options left right)
    pairs-given left pairs there same =
        let at = contains-in lefts left there in
        let passes = same-pairs options left right same in
        let some = any-in (λ left. pairs_with options left right) lefts left at passes in
        in-contains (join_gives options lefts right) (pair_of options left right)
        (subst (In (pair_of options left right)) (sym (gives-pairs some pairs))
        (in-map (λ left. pair_of options left right) (partners options lefts right) left (in-filter (λ left. pairs_with options left right) lefts left at passes)))

    of-partners : (made : Fields) → In made (map (λ left. pair_of options left right) (partners options lefts right)) → IsPairOf options lefts right made
    of-partners made there =
        let at = map-in (λ left. pair_of options left right) (partners options lefts right) made there in
        let one = filter-in (λ left. pairs_with options left right) lefts at.0 at.1 in
        (at.0, in-contains lefts at.0 one.0, pairs-same options at.0 right one.1, at.2)

    pub only-pairs : (made : Fields) → options.right_unpaired ≡ false → Contains (join_gives options lefts right) made → IsPairOf options lefts right made
    only-pairs made without there =
        of (list_any (λ left. pairs_with options left right) lefts) options.pairs options.right_unpaired without (contains-in (join_gives options lefts right) made there)
      where
        of : (some pairs unpaired : Bool) → unpaired ≡ false
            → In made (cond some (cond pairs (map (λ left. pair_of options left right) (partners options lefts right)) []) (cond unpaired (right ∷ []) [])) → IsPairOf options lefts right made
        of true true unpaired without there = of-partners made there
        of true false unpaired without there = absurd there
        of false pairs true without there = absurd (true≢false without)
        of false pairs false without there = absurd there

  module _ (rows : List Row) (ctx : Ctx) where
    -- whether a left record pairs with no right one
    abbrev alone : Fields → Bool
    alone left = not (list_any (pairs_with options left) (records rows))

    pub late-given : (left : Fields) → options.left_unpaired ≡ true → Contains lefts left → IsAlone options (records rows) left → Contains ((join options lefts).late rows ctx) (left, ctx)
    late-given left late there without =
        let none = none-in (pairs_with options left) (records rows) (λ right at pairs. without right (in-contains (records rows) right at) (pairs-same options left right pairs)) in
        let kept = in-filter alone lefts left (contains-in lefts left there) (not_from_false _ none) in
        in-contains ((join options lefts).late rows ctx) (left, ctx)
        (subst (In (left, ctx)) (sym (ap (λ t. cond t (map (λ left. (left, ctx)) (unpaired options lefts (records rows))) []) late))
        (in-map (λ left. (left, ctx)) (unpaired options lefts (records rows)) left kept))

    pub only-late : (given : Row) → Contains ((join options lefts).late rows ctx) given → Contains lefts given.0 × IsAlone options (records rows) given.0 × (given.1 ≡ ctx)
    only-late given there = of options.left_unpaired (contains-in ((join options lefts).late rows ctx) given there)
      where
        of : (t : Bool) → In given (cond t (map (λ left. (left, ctx)) (unpaired options lefts (records rows))) []) → Contains lefts given.0 × IsAlone options (records rows) given.0 × (given.1 ≡ ctx)
        of false there = absurd there
        of true there =
            let at = map-in (λ left. (left, ctx)) (unpaired options lefts (records rows)) given there in
            let one = filter-in alone lefts at.0 at.1 in
            let none = not-true (list_any (pairs_with options at.0) (records rows)) one.1 in
            subst (λ row. Contains lefts row.0 × IsAlone options (records rows) row.0 × (row.1 ≡ ctx)) (sym at.2) (
              in-contains lefts at.0 one.0,
              λ right come same. true≢false (sym (any-in (pairs_with options at.0) (records rows) right (contains-in (records rows) right come) (same-pairs options at.0 right same)) ∙ none),
              refl,
            )

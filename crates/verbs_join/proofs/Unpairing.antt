-- Whether a left record has been paired, by its group.
use Rattle.std.proofs.Common.{◌≡◌, ℕ, Bool, true, false, not, List, [], ◌∷◌, ◌++◌, map, Option, Some, None, slice_get, refl, ap, sym, ◌∙◌, inl, inr}
use Rattle.std.specs.List.{list_any, filter_map}
use Rattle.std.specs.Option.{option_map}
use Rattle.std.proofs.lemmas.Bool.{true≢false}
use Rattle.std.proofs.lemmas.List.{map-append}
use Rattle.std.proofs.lemmas.List.Elements.{filter-append}
use Rattle.std.proofs.lemmas.Option.{slice_get-map}
use Rattle.mlr_groups.specs.Grouping.{common_in, group_of, groups_in, is_in, texts_eq}
use Rattle.mlr_groups.specs.declared.group_by.GroupBy.TheVariants.{Texts}
use Rattle.mlr_groups.proofs.KeyTexts.{texts_eq-Decides}
use Rattle.mlr_groups.proofs.Once.{any-once, eq-swap}
use Rattle.mlr_spec.proofs.Splitting.{cases_Option}
use Rattle.mlr_event.specs.declared.event.Ctx.{Ctx}
use Rattle.mlr_event.specs.declared.event.Event.TheVariants.{Rec}
use Rattle.verbs_base.specs.Records.{Fields, events_of, with_context}
use Rattle.verbs_join.specs.Join.{pairs_with, unpaired}
use Rattle.verbs_join.specs.Represents.{have_come}
use Rattle.verbs_join.specs.declared.join.Join.{Join}
use Rattle.verbs_join.proofs.Members.{any-members, any-never, any-passes}

-- whether the texts of a record, if it has any, are these
abbrev are_texts : List (List ℕ) → Option (List (List ℕ)) → Bool
are_texts texts own = elim own [ Some own ↦ texts_eq texts own | None ↦ false ]

module _ (options : Join) (left : Fields) where
  -- whether the left record pairs with a right one of these texts
  abbrev pairs_texts : Option (List (List ℕ)) → Bool
  pairs_texts own = elim own [ Some texts ↦ is_in (Texts options.left) texts left | None ↦ false ]

  -- a left record pairs with a right one by its own texts
  by-texts : (texts : List (List ℕ)) → group_of options.left left ≡ Some texts → (own : Option (List (List ℕ))) → are_texts texts own ≡ pairs_texts own
  by-texts texts is None = refl
  by-texts texts is (Some own) = eq-swap texts_eq texts_eq-Decides texts own ∙ sym (ap (are_texts own) is)

  -- without a join field it pairs with none
  pairs-never : group_of options.left left ≡ None → (own : Option (List (List ℕ))) → pairs_texts own ≡ false
  pairs-never none None = refl
  pairs-never none (Some own) = ap (are_texts own) none

  module _ (lefts rights : List Fields) where
    -- its group is at a place
    pub paired-at : (p : ℕ) (texts : List (List ℕ)) → group_of options.left left ≡ Some texts → slice_get (groups_in (Texts options.left) lefts) p ≡ Some texts
        → slice_get (have_come options lefts rights) p ≡ Some (list_any (pairs_with options left) rights)
    paired-at p texts is at =
        let same = λ (right : Fields). by-texts texts is (group_of options.right right) in
        slice_get-map (λ texts. list_any (is_in (Texts options.right) texts) rights) (groups_in (Texts options.left) lefts) p
        ∙ ap (option_map (λ texts. list_any (is_in (Texts options.right) texts) rights)) at
        ∙ (λ i. Some (list_any (λ right. same right i) rights))

    -- it is in no group
    pub paired-none : (place : ℕ) → slice_get lefts place ≡ Some left
        → ((own : List (List ℕ)) → group_of options.left left ≡ Some own → list_any (texts_eq own) (groups_in (Texts options.left) lefts) ≡ false)
        → list_any (pairs_with options left) rights ≡ false
    paired-none place here missing =
        elim (cases_Option (group_of options.left left)) as (λ _. list_any (pairs_with options left) rights ≡ false) [
          | inl none ↦ any-never (pairs_with options left) rights (λ right. pairs-never none (group_of options.right right))
          | inr has ↦
              let own : is_in (Texts options.left) has.0 left ≡ true = ap (are_texts has.0) has.1 ∙ (texts_eq-Decides has.0 has.0).1 refl in
              let there = any-once texts_eq texts_eq-Decides has.0 (filter_map (common_in (Texts options.left)) lefts)
              ∙ sym (any-members (common_in (Texts options.left)) has.0 lefts)
              ∙ any-passes (is_in (Texts options.left) has.0) lefts place left here own in
              absurd (true≢false (sym there ∙ missing has.0 has.1))
        ]

-- records with one context, as rows and as events
pub late-context : (ctx : Ctx) (given : List Fields) → events_of (map (λ left. (left, ctx)) given) ≡ with_context ctx given
late-context ctx [] = refl
late-context ctx (left ∷ given) = ap (λ events. Rec left ctx ∷ events) (late-context ctx given)

-- a left record, and those after it
pub unpaired-next : (options : Join) (ctx : Ctx) (rights : List Fields) (left : Fields) (lefts : List Fields)
    → with_context ctx (unpaired options (left ∷ lefts) rights) ≡ with_context ctx (unpaired options (left ∷ []) rights) ++ with_context ctx (unpaired options lefts rights)
unpaired-next options ctx rights left lefts =
    ap (with_context ctx) (filter-append (λ left. not (list_any (pairs_with options left) rights)) (left ∷ []) lefts)
    ∙ map-append (λ fields. Rec fields ctx) (unpaired options (left ∷ []) rights) (unpaired options lefts rights)

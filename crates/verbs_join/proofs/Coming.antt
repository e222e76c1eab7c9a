-- One more right record: the left records that it pairs with, and which groups have come.
use Rattle.std.proofs.Common.{◌≡◌, ℕ, ◌<◌, Bool, true, false, ◌||◌, List, [], ◌∷◌, ◌++◌, map, set, length, Option, Some, None, Vec, Global, slice_get, refl, ap, sym, ◌∙◌, inl, inr, arith}
use Rattle.std.specs.List.{list_any, filter, filter_map}
use Rattle.std.proofs.lemmas.Bool.{or_right}
use Rattle.std.proofs.lemmas.List.{length-map}
use Rattle.std.proofs.lemmas.Option.{slice_get_within}
use Rattle.std.proofs.lemmas.List.Folds.{list_any-append}
use Rattle.mlr_groups.specs.Grouping.{common_in, group_of, groups_in, is_in, texts_eq}
use Rattle.mlr_groups.specs.declared.group_by.GroupBy.TheVariants.{Texts}
use Rattle.mlr_groups.proofs.KeyTexts.{texts_eq-Decides}
use Rattle.mlr_groups.proofs.Once.{any-at, any-once, each_once-apart, eq-swap, map-one, map-same}
use Rattle.mlr_spec.proofs.Splitting.{cases_Option}
use Rattle.verbs_base.specs.Records.{Fields}
use Rattle.verbs_join.specs.Join.{pairs_with, partners}
use Rattle.verbs_join.specs.Places.{in_buckets}
use Rattle.verbs_join.specs.Represents.{have_come, of_each_group}
use Rattle.verbs_join.specs.declared.join.Join.{Join}
use Rattle.verbs_join.proofs.Entering.{as-many, group-at}
use Rattle.verbs_join.proofs.Members.{any-members, any-never}

-- whether a left record pairs with a right one, by the right one's texts
with-texts : (options : Join) (left right : Fields) (own : Option (List (List ℕ))) → group_of options.right right ≡ own
    → pairs_with options left right ≡ elim own [ Some texts ↦ is_in (Texts options.left) texts left | None ↦ false ]
with-texts options left right own is = ap (λ own. elim own [ Some texts ↦ is_in (Texts options.left) texts left | None ↦ false ]) is

or-false : (b : Bool) → (b || false) ≡ b
or-false true = refl
or-false false = refl

module _ (options : Join) (lefts : List Fields) (right : Fields) where
  -- whether some left record pairs with it
  any-pairs : (texts : List (List ℕ)) → group_of options.right right ≡ Some texts → list_any (λ left. pairs_with options left right) lefts ≡ list_any (texts_eq texts) (groups_in (Texts options.left) lefts)
  any-pairs texts is =
      let same = λ (left : Fields). with-texts options left right (Some texts) is in
      (λ i. list_any (λ left. same left i) lefts)
      ∙ any-members (common_in (Texts options.left)) texts lefts
      ∙ sym (any-once texts_eq texts_eq-Decides texts (filter_map (common_in (Texts options.left)) lefts))

  -- no group has its texts
  pub pairs-none : ((own : List (List ℕ)) → group_of options.right right ≡ Some own → list_any (texts_eq own) (groups_in (Texts options.left) lefts) ≡ false)
      → list_any (λ left. pairs_with options left right) lefts ≡ false
  pairs-none missing =
      elim (cases_Option (group_of options.right right)) as (λ _. list_any (λ left. pairs_with options left right) lefts ≡ false) [
        | inl none ↦ any-never (λ left. pairs_with options left right) lefts (λ left. with-texts options left right None none)
        | inr has ↦ any-pairs has.0 has.1 ∙ missing has.0 has.1
      ]

  -- a group has its texts
  module _ (p : ℕ) (texts : List (List ℕ)) (is : group_of options.right right ≡ Some texts) (at : slice_get (groups_in (Texts options.left) lefts) p ≡ Some texts) where
    pub pairs-some : list_any (λ left. pairs_with options left right) lefts ≡ true
    pairs-some = any-pairs texts is ∙ any-at texts_eq texts_eq-Decides (groups_in (Texts options.left) lefts) p texts at

    pub partners-at : (buckets : List (Vec ℕ Global)) → in_buckets lefts buckets ≡ of_each_group options.left lefts → slice_get (in_buckets lefts buckets) p ≡ Some (map Some (partners options lefts right))
    partners-at buckets are =
        let same = λ (left : Fields). with-texts options left right (Some texts) is in
        group-at options.left lefts lefts buckets are p texts at
        ∙ sym (λ i. Some (map Some (filter (λ left. same left i) lefts)))

  module _ (rights : List Fields) where
    -- whether the texts of a group came, with one more right record
    comes : (group : List (List ℕ)) → list_any (is_in (Texts options.right) group) (rights ++ right ∷ []) ≡ (list_any (is_in (Texts options.right) group) rights || is_in (Texts options.right) group right)
    comes group =
        list_any-append (is_in (Texts options.right) group) rights (right ∷ [])
        ∙ ap (λ t. list_any (is_in (Texts options.right) group) rights || t) (or-false (is_in (Texts options.right) group right))

    stays : (group : List (List ℕ)) → is_in (Texts options.right) group right ≡ false → list_any (is_in (Texts options.right) group) (rights ++ right ∷ []) ≡ list_any (is_in (Texts options.right) group) rights
    stays group apart = comes group ∙ ap (λ t. list_any (is_in (Texts options.right) group) rights || t) apart ∙ or-false (list_any (is_in (Texts options.right) group) rights)

    -- the group of other texts
    own-apart : (texts group : List (List ℕ)) → group_of options.right right ≡ Some texts → texts_eq texts group ≡ false → is_in (Texts options.right) group right ≡ false
    own-apart texts group is apart =
        ap (λ own. elim own [ Some own ↦ texts_eq group own | None ↦ false ]) is ∙ eq-swap texts_eq texts_eq-Decides group texts ∙ apart

    pub come-none : ((own : List (List ℕ)) → group_of options.right right ≡ Some own → list_any (texts_eq own) (groups_in (Texts options.left) lefts) ≡ false)
        → have_come options lefts (rights ++ right ∷ []) ≡ have_come options lefts rights
    come-none missing =
        elim (cases_Option (group_of options.right right)) as (λ _. have_come options lefts (rights ++ right ∷ []) ≡ have_come options lefts rights) [
          | inl none ↦
              let same = λ (group : List (List ℕ)). stays group (ap (λ own. elim own [ Some own ↦ texts_eq group own | None ↦ false ]) none) in
              λ i. map (λ group. same group i) (groups_in (Texts options.left) lefts)
          | inr has ↦
              map-same texts_eq texts_eq-Decides (λ group. list_any (is_in (Texts options.right) group) rights) (λ group. list_any (is_in (Texts options.right) group) (rights ++ right ∷ [])) has.0
              (groups_in (Texts options.left) lefts) (missing has.0 has.1) (λ group apart. stays group (own-apart has.0 group has.1 apart))
        ]

    pub come-at : (p : ℕ) (texts : List (List ℕ)) → group_of options.right right ≡ Some texts → slice_get (groups_in (Texts options.left) lefts) p ≡ Some texts
        → have_come options lefts (rights ++ right ∷ []) ≡ set (have_come options lefts rights) p true
    come-at p texts is at =
        let own : is_in (Texts options.right) texts right ≡ true = ap (λ own. elim own [ Some own ↦ texts_eq texts own | None ↦ false ]) is ∙ (texts_eq-Decides texts texts).1 refl in
        let now : list_any (is_in (Texts options.right) texts) (rights ++ right ∷ []) ≡ true = comes texts ∙ or_right (list_any (is_in (Texts options.right) texts) rights) (is_in (Texts options.right) texts right) own in
        map-one texts_eq texts_eq-Decides (λ group. list_any (is_in (Texts options.right) group) rights) (λ group. list_any (is_in (Texts options.right) group) (rights ++ right ∷ []))
        (groups_in (Texts options.left) lefts) p texts (each_once-apart texts_eq texts_eq-Decides (filter_map (common_in (Texts options.left)) lefts)) at
        (λ group apart. stays group (own-apart texts group is apart))
        ∙ ap (set (have_come options lefts rights) p) now

false-alike : {A B : Type 0} (xs : List A) (ys : List B) → length xs ≡ length ys → map (λ x. false) xs ≡ map (λ y. false) ys
false-alike [] [] same = refl
false-alike [] (y ∷ ys) same = absurd (omega (arith, same))
false-alike (x ∷ xs) [] same = absurd (omega (arith, same))
false-alike (x ∷ xs) (y ∷ ys) same = ap (λ tests. false ∷ tests) (false-alike xs ys (omega (arith, same)))

-- before the first right record no group has come
pub come-first : (options : Join) (lefts : List Fields) (buckets : List (Vec ℕ Global)) → in_buckets lefts buckets ≡ of_each_group options.left lefts → map (λ bucket. false) buckets ≡ have_come options lefts []
come-first options lefts buckets are = false-alike buckets (groups_in (Texts options.left) lefts) (as-many options.left lefts lefts buckets are)

-- a group's place is one of those that tell whether it has come
pub come-within : (options : Join) (lefts rights : List Fields) (p : ℕ) (texts : List (List ℕ)) → slice_get (groups_in (Texts options.left) lefts) p ≡ Some texts → p < length (have_come options lefts rights)
come-within options lefts rights p texts at =
    let within = slice_get_within (groups_in (Texts options.left) lefts) p texts at in
    omega (arith, within, length-map (groups_in (Texts options.left) lefts) (λ texts. list_any (is_in (Texts options.right) texts) rights))

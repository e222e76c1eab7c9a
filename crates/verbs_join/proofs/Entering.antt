-- A left record is entered in the bucket of its group.
use Rattle.std.proofs.Common.{◌≡◌, ℕ, zero, suc, ◌<◌, ◌≤◌, List, [], ◌∷◌, ◌++◌, map, set, length, Option, Some, None, Vec, Global, slice_get, get_or, ap, ap₂, sym, ◌∙◌, arith}
use Rattle.std.specs.Option.{option_map}
use Rattle.std.proofs.lemmas.List.{length-map, map-append, map-set}
use Rattle.std.proofs.lemmas.Option.{slice_get-map}
use Rattle.mlr_groups.specs.Grouping.{IsGroupPlace, common_in, groups_in, members}
use Rattle.mlr_groups.specs.declared.group_by.GroupBy.TheVariants.{Texts}
use Rattle.mlr_groups.proofs.PerGroup.{place-known, place-new, states-known, states-new, states-none}
use Rattle.verbs_base.specs.Records.{Fields}
use Rattle.verbs_join.specs.Places.{at_places, in_buckets}
use Rattle.verbs_join.specs.Represents.{of_each_group}

-- the records at the places of a bucket
pub bucket-at : (lefts : List Fields) (buckets : List (Vec ℕ Global)) (p : ℕ) (found : List (Option Fields)) → slice_get (in_buckets lefts buckets) p ≡ Some found
    → (any : Vec ℕ Global) → at_places lefts (get_or buckets p any).items ≡ found
bucket-at lefts [] p found at any = absurd (let e : None ≡ Some found = at in cc)
bucket-at lefts (first ∷ buckets) zero found at any = let e : Some (at_places lefts first.items) ≡ Some found = at in cc
bucket-at lefts (first ∷ buckets) (suc p) found at any = bucket-at lefts buckets p found at any

module _ (names : List (List ℕ)) (lefts before : List Fields) (buckets : List (Vec ℕ Global)) (are : in_buckets lefts buckets ≡ of_each_group names before) where
  -- as many buckets as groups
  pub as-many : length buckets ≡ length (groups_in (Texts names) before)
  as-many =
      sym (length-map buckets (λ bucket. at_places lefts bucket.items)) ∙ ap length are
      ∙ length-map (groups_in (Texts names) before) (λ texts. map Some (members (Texts names) texts before))

  -- the bucket of a group
  pub group-at : (p : ℕ) (texts : List (List ℕ)) → slice_get (groups_in (Texts names) before) p ≡ Some texts → slice_get (in_buckets lefts buckets) p ≡ Some (map Some (members (Texts names) texts before))
  group-at p texts at =
      ap (λ found. slice_get found p) are
      ∙ slice_get-map (λ texts. map Some (members (Texts names) texts before)) (groups_in (Texts names) before) p
      ∙ ap (option_map (λ texts. map Some (members (Texts names) texts before))) at

  module _ (left : Fields) where
    pub enters-none : common_in (Texts names) left ≡ None → in_buckets lefts buckets ≡ of_each_group names (before ++ left ∷ [])
    enters-none none = are ∙ sym (states-none (common_in (Texts names)) before left (map Some) none)

    module _ (place : ℕ) (here : slice_get lefts place ≡ Some left) (p : ℕ) (at : IsGroupPlace (Texts names) (before ++ left ∷ []) left (Some p)) where
      -- a known group
      pub enters-known : p < length buckets → (old : List ℕ) (any new : Vec ℕ Global) → old ≡ (get_or buckets p any).items → new.items ≡ old ++ place ∷ []
          → in_buckets lefts (set buckets p new) ≡ of_each_group names (before ++ left ∷ [])
      enters-known below old any new was is =
          let there = place-known (common_in (Texts names)) before left at.0 at.1 p at.2 (omega (arith, below, as-many)) in
          map-set (λ (bucket : Vec ℕ Global). at_places lefts bucket.items) buckets p new
          ∙ ap₂ (λ all one. set all p one) are
          (ap (at_places lefts) is
          ∙ map-append (slice_get lefts) old (place ∷ [])
          ∙ ap₂ (λ xs x. xs ++ x ∷ []) (ap (at_places lefts) was ∙ bucket-at lefts buckets p _ (group-at p at.0 there) any) here
          ∙ sym (map-append Some (members (Texts names) at.0 before) (left ∷ [])))
          ∙ sym (states-known (common_in (Texts names)) before left at.0 at.1 (map Some) p there)

      -- a new group
      pub enters-new : length buckets ≤ p → (new : Vec ℕ Global) → new.items ≡ place ∷ [] → in_buckets lefts (buckets ++ new ∷ []) ≡ of_each_group names (before ++ left ∷ [])
      enters-new following new is =
          let free = place-new (common_in (Texts names)) before left at.0 at.1 p at.2 (omega (arith, following, as-many)) in
          map-append (λ (bucket : Vec ℕ Global). at_places lefts bucket.items) buckets (new ∷ [])
          ∙ ap₂ (λ xs x. xs ++ x ∷ []) are (ap (at_places lefts) is ∙ ap (λ x. x ∷ []) here)
          ∙ sym (states-new (common_in (Texts names)) before left at.0 at.1 (map Some) free)

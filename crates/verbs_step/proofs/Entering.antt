-- The tracks of a record's group, by its place among the groups.
use Rattle.std.proofs.Common.{◌≡◌, ℕ, zero, suc, ◌<◌, ◌≤◌, List, [], ◌∷◌, ◌++◌, set, length, false, Some, None, slice_get, get_or, Vec, Global, refl, ap, sym, ◌∙◌, arith}
use Rattle.std.specs.List.{filter_map, list_any}
use Rattle.std.specs.Option.{option_map}
use Rattle.std.proofs.Math.Seq.{set-append_seam}
use Rattle.std.proofs.lemmas.List.{length-append, length-map}
use Rattle.std.proofs.lemmas.Option.{slice_get-map, slice_get_within}
use Rattle.mlr_groups.specs.Grouping.{IsGroupPlace, common_in, groups_in, members, texts_eq}
use Rattle.mlr_groups.proofs.Grouping.{groups-new}
use Rattle.mlr_groups.proofs.KeyTexts.{texts_eq-Decides}
use Rattle.mlr_groups.proofs.Once.{any-once}
use Rattle.mlr_groups.proofs.PerGroup.{members-none, place-known, place-new, states-known, states-new, states-none}
use Rattle.verbs_base.specs.Records.{Fields}
use Rattle.verbs_step.specs.Kept.{Kept}
use Rattle.verbs_step.specs.Represents.{GroupTracks, kept_in, kept_in_groups, kept_of_all, kept_of_group}
use Rattle.verbs_step.specs.Step.{step_groups}
use Rattle.verbs_step.specs.declared.step.Step.{Step}
use Rattle.verbs_step.specs.declared.track.Track.{Track}

slice_get-last : {A : Type 0} (xs : List A) (x : A) → slice_get (xs ++ x ∷ []) (length xs) ≡ Some x
slice_get-last [] x = refl
slice_get-last (first ∷ xs) x = slice_get-last xs x

-- what the tracks at a place keep
pub kept-at : (tracks : GroupTracks) (p : ℕ) (keeps : List (List Kept)) → slice_get (kept_in_groups tracks) p ≡ Some keeps → (any : Vec (Vec Track Global) Global) → kept_in (get_or tracks p any).items ≡ keeps
kept-at [] p keeps at any = absurd (let e : None ≡ Some keeps = at in cc)
kept-at (first ∷ tracks) zero keeps at any = let e : Some (kept_in first.items) ≡ Some keeps = at in cc
kept-at (first ∷ tracks) (suc p) keeps at any = kept-at tracks p keeps at any

pub kept-set : (tracks : GroupTracks) (p : ℕ) (new : Vec (Vec Track Global) Global) → kept_in_groups (set tracks p new) ≡ set (kept_in_groups tracks) p (kept_in new.items)
kept-set [] p new = refl
kept-set (first ∷ tracks) zero new = refl
kept-set (first ∷ tracks) (suc p) new = ap (λ keeps. kept_in first.items ∷ keeps) (kept-set tracks p new)

module _ (options : Step) (before : List Fields) (fields : Fields) (states : List (List (List Kept))) (are : states ≡ kept_of_all options before) where
  -- a record in no group
  pub kept-none : common_in (step_groups options) fields ≡ None → states ≡ kept_of_all options (before ++ fields ∷ [])
  kept-none none = are ∙ sym (states-none (common_in (step_groups options)) before fields (kept_of_group options) none)

  as-many : length states ≡ length (groups_in (step_groups options) before)
  as-many = ap length are ∙ length-map (groups_in (step_groups options) before) _

  module _ (p : ℕ) (at : IsGroupPlace (step_groups options) (before ++ fields ∷ []) fields (Some p)) where
    -- the tracks at the place keep the earlier records of the group, and with the record they are those of all records
    abbrev pub Has : List (List (List Kept)) → Type 0
    Has states =
        (slice_get states p ≡ Some (kept_of_group options (members (step_groups options) at.0 before)))
        × (set states p (kept_of_group options (members (step_groups options) at.0 before ++ fields ∷ [])) ≡ kept_of_all options (before ++ fields ∷ []))

    -- a known group
    pub kept-known : p < length states → Has states
    kept-known below =
        let by = step_groups options in
        let there = place-known (common_in by) before fields at.0 at.1 p at.2 (omega (arith, below, as-many)) in (
          ap (λ states. slice_get states p) are
              ∙ slice_get-map (λ texts. kept_of_group options (members by texts before)) (groups_in by before) p ∙ ap (option_map (λ texts. kept_of_group options (members by texts before))) there,
          ap (λ states. set states p (kept_of_group options (members by at.0 before ++ fields ∷ []))) are
              ∙ sym (states-known (common_in by) before fields at.0 at.1 (kept_of_group options) p there),
        )

    module _ (following : length states ≤ p) where
      free : list_any (texts_eq at.0) (groups_in (step_groups options) before) ≡ false
      free = place-new (common_in (step_groups options)) before fields at.0 at.1 p at.2 (omega (arith, following, as-many))

      last : p ≡ length states
      last =
          let by = step_groups options in
          let longer = ap length (groups-new (common_in by) before fields at.0 at.1 free) ∙ length-append (groups_in by before) (at.0 ∷ []) in
          let within = slice_get_within (groups_in by (before ++ fields ∷ [])) p at.0 at.2 in
          omega (arith, following, as-many, longer, within)

      none : members (step_groups options) at.0 before ≡ []
      none = members-none (common_in (step_groups options)) at.0 before (sym (any-once texts_eq texts_eq-Decides at.0 (filter_map (common_in (step_groups options)) before)) ∙ free)

      -- a new group
      pub kept-new : Has (states ++ kept_of_group options [] ∷ [])
      kept-new =
          let fresh = kept_of_group options [] in (
            ap (slice_get (states ++ fresh ∷ [])) last ∙ slice_get-last states fresh ∙ ap (λ records. Some (kept_of_group options records)) (sym none),
            ap (λ records. set (states ++ fresh ∷ []) p (kept_of_group options (records ++ fields ∷ []))) none
                ∙ ap (λ place. set (states ++ fresh ∷ []) place (kept_of_group options (fields ∷ []))) last
                ∙ set-append_seam states fresh [] (kept_of_group options (fields ∷ []))
                ∙ ap (λ states. states ++ kept_of_group options (fields ∷ []) ∷ []) are
                ∙ sym (states-new (common_in (step_groups options)) before fields at.0 at.1 (kept_of_group options) free),
          )

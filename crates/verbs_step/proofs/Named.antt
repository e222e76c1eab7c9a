-- What the named fields of a record make, name by name.
use Rattle.std.proofs.Common.{◌≡◌, ℕ, ◌+◌, ◌<◌, ◌≤◌, List, [], ◌∷◌, ◌++◌, map, length, take, drop, set, get_or, Option, Vec, Global, refl, ap, ap₂, sym, ◌∙◌, arith, append_assoc}
use Rattle.std.proofs.lemmas.List.{append-nil, map-append, take_all, take_more, drop_more, take_more_set, drop-set-lt}
use Rattle.mlr_spec.specs.Tree.{Tree}
use Rattle.mlr_value.specs.declared.value.Value.{Value}
use Rattle.stat_base.specs.Values.{present, values_of}
use Rattle.stat_base.specs.declared.stepper.Stepper.{Stepper}
use Rattle.verbs_base.specs.Records.{Fields}
use Rattle.verbs_step.specs.Kept.{Kept, kept, kept_of}
use Rattle.verbs_step.specs.Made.{kept_by, made_after, made_by, made_in, present_at, trees_of}
use Rattle.verbs_step.specs.Represents.{FieldTracks, kept_for, kept_in}
use Rattle.verbs_step.specs.declared.track.Track.{Track}
use Rattle.verbs_step.proofs.Keeping.{kept-field, made-field, present-more}

-- the state after the first `place` of the names
pub record Making (steppers : List Stepper) (names : List (List ℕ)) (before : List Fields) (fields : Fields) (start : List (Option Value)) (place : ℕ) (tracks : FieldTracks) (made : List (Option Value)) : Type 0 where
  pub values : trees_of made ≡ trees_of start ++ made_in steppers (take place names) before fields
  pub done : kept_in (take place tracks) ≡ kept_for steppers (take place names) (before ++ fields ∷ [])
  pub left : kept_in (drop place tracks) ≡ kept_for steppers (drop place names) before

module _ (steppers : List Stepper) (names : List (List ℕ)) (before : List Fields) (fields : Fields) (start : List (Option Value)) where
  -- what is kept of a field, and what is made of it
  abbrev kept_at : List Fields → List ℕ → List Kept
  kept_at before name = map (λ stepper. kept_of stepper (present (values_of name before))) steppers

  abbrev made_at : List ℕ → List (Option Tree)
  made_at name = made_after steppers (present (values_of name before)) (present_at name fields)

  pub making-none : (tracks : FieldTracks) → kept_in tracks ≡ kept_for steppers names before → Making steppers names before fields start 0 tracks start
  making-none tracks same = record { values = sym (append-nil (trees_of start)); done = refl; left = same }

  made-last : (names : List (List ℕ)) (name : List ℕ) → made_in steppers (names ++ name ∷ []) before fields ≡ made_in steppers names before fields ++ made_at name
  made-last [] name = append-nil (made_at name)
  made-last (first ∷ names) name = ap (λ more. made_at first ++ more) (made-last names name) ∙ sym (append_assoc (made_at first) (made_in steppers names before fields) (made_at name))

  module _ (place : ℕ) (name : List ℕ) (tracks : FieldTracks) (made : List (Option Value)) (any : Vec Track Global)
      (named : name ≡ get_or names place name) (below : place < length names) (room : place < length tracks)
      (so_far : Making steppers names before fields start place tracks made) where
    split : map kept (get_or tracks place any).items ∷ kept_in (drop (place + 1) tracks) ≡ kept_at before name ∷ kept_for steppers (drop (place + 1) names) before
    split =
        sym (ap kept_in (drop_more tracks place any room))
        ∙ so_far.left
        ∙ ap (λ names. kept_for steppers names before) (drop_more names place name below)
        ∙ ap (λ n. kept_at before n ∷ kept_for steppers (drop (place + 1) names) before) (sym named)

    kept-old : map kept (get_or tracks place any).items ≡ kept_at before name
    kept-old = let e = split in cc

    names-more : take (place + 1) names ≡ take place names ++ name ∷ []
    names-more = take_more names place name below ∙ ap (λ n. take place names ++ n ∷ []) (sym named)

    -- one more name
    pub making-more : (new : Vec Track Global) (after : List (Option Value))
        → trees_of after ≡ trees_of made ++ made_by (present_at name fields) (map kept (get_or tracks place any).items)
        → map kept new.items ≡ kept_by (present_at name fields) (map kept (get_or tracks place any).items)
        → Making steppers names before fields start (place + 1) (set tracks place new) after
    making-more new after makes keeps =
        let values = present (values_of name before) in
        let now : map kept new.items ≡ kept_at (before ++ fields ∷ []) name =
        keeps ∙ ap (kept_by (present_at name fields)) kept-old ∙ kept-field steppers values (present_at name fields)
        ∙ ap (λ values. map (λ stepper. kept_of stepper values) steppers) (sym (present-more name before fields)) in
        let makes-at : made_by (present_at name fields) (map kept (get_or tracks place any).items) ≡ made_at name =
        ap (made_by (present_at name fields)) kept-old ∙ made-field steppers values (present_at name fields) in
        record {
          values =
              makes
              ∙ ap₂ (λ xs ys. xs ++ ys) so_far.values makes-at
              ∙ append_assoc (trees_of start) (made_in steppers (take place names) before fields) (made_at name)
              ∙ ap (λ more. trees_of start ++ more) (sym (made-last (take place names) name))
              ∙ ap (λ names. trees_of start ++ made_in steppers names before fields) (sym names-more);
          done =
              ap kept_in (take_more_set tracks place new room)
              ∙ map-append (λ (field : Vec Track Global). map kept field.items) (take place tracks) (new ∷ [])
              ∙ ap₂ (λ xs x. xs ++ x ∷ []) so_far.done now
              ∙ sym (map-append (kept_at (before ++ fields ∷ [])) (take place names) (name ∷ []))
              ∙ ap (λ names. kept_for steppers names (before ++ fields ∷ [])) (sym names-more);
          left = ap kept_in (drop-set-lt (place + 1) tracks place new (omega arith)) ∙ (let e = split in cc);
        }

  -- all names
  pub making-done : (place : ℕ) (tracks : FieldTracks) (made : List (Option Value)) → length names ≤ place → length tracks ≡ length names → Making steppers names before fields start place tracks made
      → (trees_of made ≡ trees_of start ++ made_in steppers names before fields) × (kept_in tracks ≡ kept_for steppers names (before ++ fields ∷ []))
  making-done place tracks made ended places so_far =
      let names-all = take_all place names ended in
      let tracks-all = take_all place tracks (omega arith) in (
        so_far.values ∙ ap (λ names. trees_of start ++ made_in steppers names before fields) names-all,
        ap kept_in (sym tracks-all) ∙ so_far.done ∙ ap (λ names. kept_for steppers names (before ++ fields ∷ [])) names-all,
      )

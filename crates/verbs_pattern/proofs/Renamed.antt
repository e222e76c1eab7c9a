-- Renaming by one rule, on a whole record.
use Rattle.std.proofs.Common.{◌≡◌, ℕ, Bool, true, false, not, cond, ◌||◌, List, [], ◌∷◌, ◌++◌, map, refl, sym, ap, ap₂, ◌∙◌, subst, append_assoc, inl, inr}
use Rattle.std.specs.Str.{bytes_eq}
use Rattle.std.proofs.lemmas.Bool.{and_parts, cases_Bool, cond-false, cond-true, not-true, or_from, or_left, or_parts, or_right, true≢false}
use Rattle.std.proofs.lemmas.List.{append-nil, map-append}
use Rattle.std.proofs.lemmas.List.Folds.{list_any-append}
use Rattle.std.proofs.lemmas.Slice.Eq.{bytes_eq-Decides}
use Rattle.mlr_spec.specs.Pairs.{remove_at, keys_of, are_distinct}
use Rattle.mlr_spec.specs.Tree.{Tree}
use Rattle.mlr_event.specs.Reading.{is_among}
use Rattle.verbs_pattern.specs.Renaming.{renamed_from}
use Rattle.verbs_pattern.specs.Renamed.{last_of_each, reached, under_new_name}
use Rattle.verbs_pattern.proofs.Renaming.{removed-absent}

abbrev Pair : Type 0
Pair = List ℕ × Tree

last-absent : (key : List ℕ) (pairs : List Pair) → is_among (keys_of pairs) key ≡ false → is_among (keys_of (last_of_each pairs)) key ≡ false
last-absent key [] absent = refl
last-absent key (p ∷ pairs) absent =
    let parts = or_parts (bytes_eq key p.0) (is_among (keys_of pairs) key) absent in
    let rest = last-absent key pairs parts.1 in
    elim (cases_Bool (is_among (keys_of pairs) p.0)) as (λ _. is_among (keys_of (last_of_each (p ∷ pairs))) key ≡ false) [
      | inl again ↦ ap (λ l. is_among (keys_of l) key) (cond-true (is_among (keys_of pairs) p.0) (last_of_each pairs) (p ∷ last_of_each pairs) again) ∙ rest
      | inr last ↦
          ap (λ l. is_among (keys_of l) key) (cond-false (is_among (keys_of pairs) p.0) (last_of_each pairs) (p ∷ last_of_each pairs) last)
          ∙ or_from (bytes_eq key p.0) _ parts.0 rest
    ]

last-distinct : (pairs : List Pair) → are_distinct (keys_of pairs) ≡ true → last_of_each pairs ≡ pairs
last-distinct [] distinct = refl
last-distinct (p ∷ pairs) distinct =
    let parts = and_parts (not (is_among (keys_of pairs) p.0)) (are_distinct (keys_of pairs)) distinct in
    cond-false (is_among (keys_of pairs) p.0) (last_of_each pairs) (p ∷ last_of_each pairs) (not-true _ parts.0)
    ∙ ap (λ l. p ∷ l) (last-distinct pairs parts.1)

among-more : (pairs : List Pair) (q : Pair) (key : List ℕ) → is_among (keys_of (pairs ++ q ∷ [])) key ≡ (is_among (keys_of pairs) key || (bytes_eq key q.0 || false))
among-more pairs q key =
    ap (λ names. is_among names key) (map-append (λ (pair : Pair). pair.0) pairs (q ∷ []))
    ∙ list_any-append (bytes_eq key) (keys_of pairs) (q.0 ∷ [])

-- appending a field removes an earlier one with its name from the last ones
last-more : (pairs : List Pair) (q : Pair) → last_of_each (pairs ++ q ∷ []) ≡ remove_at q.0 (last_of_each pairs) ++ q ∷ []
last-more [] q = refl
last-more (p ∷ pairs) q =
    let rest = last-more pairs q in
    let now = is_among (keys_of (pairs ++ q ∷ [])) p.0 in
    let was = is_among (keys_of pairs) p.0 in
    let longer = last_of_each (pairs ++ q ∷ []) in
    let lasts = last_of_each pairs in
    elim (cases_Bool was) as (λ _. last_of_each (p ∷ pairs ++ q ∷ []) ≡ remove_at q.0 (last_of_each (p ∷ pairs)) ++ q ∷ []) [
      | inl again ↦
          cond-true now longer (p ∷ longer) (among-more pairs q p.0 ∙ or_left was _ again)
          ∙ rest
          ∙ sym (ap (λ l. remove_at q.0 l ++ q ∷ []) (cond-true was lasts (p ∷ lasts) again))
      | inr last ↦
          elim (cases_Bool (bytes_eq p.0 q.0)) as (λ _. last_of_each (p ∷ pairs ++ q ∷ []) ≡ remove_at q.0 (last_of_each (p ∷ pairs)) ++ q ∷ []) [
            | inl same ↦
                let absent = last-absent q.0 pairs (subst (λ key. is_among (keys_of pairs) key ≡ false) ((bytes_eq-Decides p.0 q.0).0 same) last) in
                cond-true now longer (p ∷ longer) (among-more pairs q p.0 ∙ or_right was _ (or_left _ false same))
                ∙ rest
                ∙ ap (λ l. l ++ q ∷ []) (removed-absent q.0 lasts absent)
                ∙ sym (ap (λ l. remove_at q.0 l ++ q ∷ []) (cond-false was lasts (p ∷ lasts) last)
                ∙ ap (λ l. l ++ q ∷ []) (cond-true (bytes_eq p.0 q.0) lasts (p ∷ remove_at q.0 lasts) same))
            | inr other ↦
                cond-false now longer (p ∷ longer) (among-more pairs q p.0 ∙ or_from was _ last (or_from _ false other refl))
                ∙ ap (λ l. p ∷ l) rest
                ∙ sym (ap (λ l. remove_at q.0 l ++ q ∷ []) (cond-false was lasts (p ∷ lasts) last)
                ∙ ap (λ l. l ++ q ∷ []) (cond-false (bytes_eq p.0 q.0) lasts (p ∷ remove_at q.0 lasts) other))
          ]
    ]

module _ (new_name : List ℕ → List ℕ) where
  abbrev moved : List Pair → List Pair
  moved pairs = map (under_new_name new_name) pairs

  -- `given` has exactly the new names of the fields that were reached, and so, for the names of the remaining
  -- fields, has `made`
  abbrev Given : List Pair → List (List ℕ) → Type 0
  Given before given = (key : List ℕ) → is_among given key ≡ is_among (keys_of (moved before)) key

  abbrev Made : List (List ℕ) → List (List ℕ) → List Pair → Type 0
  Made made given todo = (key : List ℕ) → is_among (keys_of todo) key ≡ true → is_among made key ≡ is_among given key

  given-more : (before : List Pair) (given : List (List ℕ)) (p : Pair) → Given before given → Given (before ++ p ∷ []) (new_name p.0 ∷ given)
  given-more before given p is key =
      ap (λ t. bytes_eq key (new_name p.0) || t) (is key)
      ∙ swapped (bytes_eq key (new_name p.0)) (is_among (keys_of (moved before)) key)
      ∙ sym (ap (λ l. is_among (keys_of l) key) (map-append (under_new_name new_name) before (p ∷ [])) ∙ among-more (moved before) (under_new_name new_name p) key)
    where
      swapped : (s t : Bool) → (s || t) ≡ (t || (s || false))
      swapped true true = refl
      swapped true false = refl
      swapped false true = refl
      swapped false false = refl

  -- a name of a later field differs from the name of this field
  following-other : (p : Pair) (todo : List Pair) (key : List ℕ) → is_among (keys_of todo) p.0 ≡ false → is_among (keys_of todo) key ≡ true → bytes_eq key p.0 ≡ false
  following-other p todo key absent among =
      elim (cases_Bool (bytes_eq key p.0)) as (λ _. bytes_eq key p.0 ≡ false) [
        | inl same ↦ absurd (true≢false (sym (subst (λ k. is_among (keys_of todo) k ≡ true) ((bytes_eq-Decides key p.0).0 same) among) ∙ absent))
        | inr other ↦ other
      ]

  moved-more : (before : List Pair) (p : Pair) →
      remove_at (new_name p.0) (last_of_each (moved before)) ++ under_new_name new_name p ∷ [] ≡ last_of_each (moved (before ++ p ∷ []))
  moved-more before p =
      sym (ap last_of_each (map-append (under_new_name new_name) before (p ∷ [])) ∙ last-more (moved before) (under_new_name new_name p))

  renamed-on : (before : List Pair) (made given : List (List ℕ)) (todo : List Pair) → are_distinct (keys_of todo) ≡ true →
      Given before given → Made made given todo →
      renamed_from new_name (last_of_each (moved before)) made todo ≡ last_of_each (moved (before ++ reached new_name given todo))
  renamed-on before made given [] distinct is_given is_made = ap (λ l. last_of_each (moved l)) (sym (append-nil before))
  renamed-on before made given (p ∷ todo) distinct is_given is_made =
      let parts = and_parts (not (is_among (keys_of todo) p.0)) (are_distinct (keys_of todo)) distinct in
      let here : is_among made p.0 ≡ is_among given p.0 = is_made p.0 (or_left _ _ ((bytes_eq-Decides p.0 p.0).1 refl)) in
      let later : Made made given todo = λ key among. is_made key (or_right _ _ among) in
      let done = last_of_each (moved before) in
      let skips = renamed_from new_name done made todo in
      let keeps = renamed_from new_name (done ++ p ∷ []) made todo in
      let renames = renamed_from new_name (remove_at (new_name p.0) done ++ under_new_name new_name p ∷ []) (new_name p.0 ∷ made) todo in
      let goes_on = cond (bytes_eq (new_name p.0) p.0) keeps renames in
      let passes = reached new_name given todo in
      let reaches = p ∷ reached new_name (new_name p.0 ∷ given) todo in
      let longer = before ++ p ∷ [] in
      let wanted = last_of_each (moved (before ++ reached new_name given (p ∷ todo))) in
      elim (cases_Bool (is_among given p.0)) as (λ _. renamed_from new_name done made (p ∷ todo) ≡ wanted) [
        | inl passed ↦
            cond-true (is_among made p.0) skips goes_on (here ∙ passed)
            ∙ renamed-on before made given todo parts.1 is_given later
            ∙ sym (ap (λ l. last_of_each (moved (before ++ l))) (cond-true (is_among given p.0) passes reaches passed))
        | inr free ↦
            let more : Given longer (new_name p.0 ∷ given) = given-more before given p is_given in
            let end : last_of_each (moved (longer ++ reached new_name (new_name p.0 ∷ given) todo)) ≡ wanted
            = ap (λ l. last_of_each (moved l)) (append_assoc before (p ∷ []) (reached new_name (new_name p.0 ∷ given) todo))
            ∙ sym (ap (λ l. last_of_each (moved (before ++ l))) (cond-false (is_among given p.0) passes reaches free)) in
            cond-false (is_among made p.0) skips goes_on (here ∙ free)
            ∙ (elim (cases_Bool (bytes_eq (new_name p.0) p.0)) as (λ _. goes_on ≡ wanted) [
              | inl same ↦
                  let is : new_name p.0 ≡ p.0 = (bytes_eq-Decides (new_name p.0) p.0).0 same in
                  let absent = last-absent (new_name p.0) (moved before) (sym (is_given (new_name p.0)) ∙ ap (is_among given) is ∙ free) in
                  cond-true (bytes_eq (new_name p.0) p.0) keeps renames same
                  ∙ ap (λ l. renamed_from new_name l made todo)
                  (ap₂ (λ prefix name. prefix ++ (name, p.1) ∷ []) (sym (removed-absent (new_name p.0) done absent)) (sym is) ∙ moved-more before p)
                  ∙ renamed-on longer made (new_name p.0 ∷ given) todo parts.1 more
                  (λ key among. later key among
                  ∙ sym (ap (λ t. t || is_among given key) (ap (bytes_eq key) is ∙ following-other p todo key (not-true _ parts.0) among)))
                  ∙ end
              | inr other ↦
                  cond-false (bytes_eq (new_name p.0) p.0) keeps renames other
                  ∙ ap (λ l. renamed_from new_name l (new_name p.0 ∷ made) todo) (moved-more before p)
                  ∙ renamed-on longer (new_name p.0 ∷ made) (new_name p.0 ∷ given) todo parts.1 more
                  (λ key among. ap (λ t. bytes_eq key (new_name p.0) || t) (later key among))
                  ∙ end
            ])
      ]

  pub renamed-kept : (pairs : List Pair) → are_distinct (keys_of pairs) ≡ true →
      renamed_from new_name [] [] pairs ≡ last_of_each (moved (reached new_name [] pairs))
  renamed-kept pairs distinct = renamed-on [] [] [] pairs distinct (λ key. refl) (λ key among. refl)

  -- no field gets the name of another
  abbrev Apart : List Pair → Type 0
  Apart pairs = (name : List ℕ) → is_among (keys_of pairs) name ≡ true → is_among (keys_of pairs) (new_name name) ≡ true → new_name name ≡ name

  all-reached : (given : List (List ℕ)) (pairs : List Pair) → are_distinct (keys_of pairs) ≡ true → Apart pairs →
      ((key : List ℕ) → is_among (keys_of pairs) key ≡ true → is_among given key ≡ false) → reached new_name given pairs ≡ pairs
  all-reached given [] distinct apart free = refl
  all-reached given (p ∷ pairs) distinct apart free =
      let parts = and_parts (not (is_among (keys_of pairs) p.0)) (are_distinct (keys_of pairs)) distinct in
      let here : is_among (keys_of (p ∷ pairs)) p.0 ≡ true = or_left _ _ ((bytes_eq-Decides p.0 p.0).1 refl) in
      cond-false (is_among given p.0) (reached new_name given pairs) (p ∷ reached new_name (new_name p.0 ∷ given) pairs) (free p.0 here)
      ∙ ap (λ l. p ∷ l) (all-reached (new_name p.0 ∷ given) pairs parts.1 (λ name among new. apart name (or_right _ _ among) (or_right _ _ new))
      (λ key among. or_from (bytes_eq key (new_name p.0)) _
      (elim (cases_Bool (bytes_eq key (new_name p.0))) as (λ _. bytes_eq key (new_name p.0) ≡ false) [
        | inl same ↦
            let is : key ≡ new_name p.0 = (bytes_eq-Decides key (new_name p.0)).0 same in
            let own : new_name p.0 ≡ p.0 = apart p.0 here (or_right _ _ (subst (λ k. is_among (keys_of pairs) k ≡ true) is among)) in
            absurd (true≢false (sym (subst (λ k. is_among (keys_of pairs) k ≡ true) (is ∙ own) among) ∙ not-true _ parts.0))
        | inr other ↦ other
      ])
      (free key (or_right _ _ among))))

  pub renamed-apart : (pairs : List Pair) → are_distinct (keys_of pairs) ≡ true → Apart pairs → renamed_from new_name [] [] pairs ≡ last_of_each (moved pairs)
  renamed-apart pairs distinct apart =
      renamed-kept pairs distinct ∙ ap (λ l. last_of_each (moved l)) (all-reached [] pairs distinct apart (λ key among. refl))

  pub renamed-distinct : (pairs : List Pair) → are_distinct (keys_of pairs) ≡ true → Apart pairs → are_distinct (keys_of (moved pairs)) ≡ true →
      renamed_from new_name [] [] pairs ≡ moved pairs
  renamed-distinct pairs distinct apart new = renamed-apart pairs distinct apart ∙ last-distinct (moved pairs) new

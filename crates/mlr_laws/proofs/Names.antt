-- Names that are distinct stay as they are.
use Rattle.std.proofs.Common.{◌≡◌, ℕ, Bool, true, false, not, ◌||◌, List, [], ◌∷◌, ◌++◌, refl, ap, ap₂, ◌∙◌}
use Rattle.std.specs.List.{list_all, list_any}
use Rattle.std.specs.Str.{bytes_eq}
use Rattle.std.proofs.lemmas.Bool.{and_parts, and_from, not-true, or_parts}
use Rattle.std.proofs.lemmas.List.Folds.{list_any-append}
use Rattle.mlr_spec.specs.Pairs.{are_distinct}
use Rattle.mlr_event.specs.Reading.{distinct_after, distinct_names, is_among}
use Rattle.mlr_event.proofs.Distinct.{bytes_eq-swap, free_name-untaken}

abbrev is_new : List (List ℕ) → List ℕ → Bool
is_new before name = not (is_among before name)

still-new : (before : List (List ℕ)) (name : List ℕ) (names : List (List ℕ)) → list_all (is_new before) names ≡ true → list_any (bytes_eq name) names ≡ false → list_all (is_new (before ++ name ∷ [])) names ≡ true
still-new before name [] new apart = refl
still-new before name (next ∷ names) new apart =
    let parts = and_parts (is_new before next) (list_all (is_new before) names) new in
    let apart_2 = or_parts (bytes_eq name next) (list_any (bytes_eq name) names) apart in
    let other : bytes_eq next name ≡ false = bytes_eq-swap next name ∙ apart_2.0 in
    let among : is_among (before ++ name ∷ []) next ≡ false =
    list_any-append (bytes_eq next) before (name ∷ []) ∙ ap₂ (λ t u. t || (u || false)) (not-true (is_among before next) parts.0) other in
    and_from (is_new (before ++ name ∷ []) next) (list_all (is_new (before ++ name ∷ [])) names) (ap not among) (still-new before name names parts.1 apart_2.1)

stay : (before names : List (List ℕ)) → are_distinct names ≡ true → list_all (is_new before) names ≡ true → distinct_after before names ≡ names
stay before [] distinct new = refl
stay before (name ∷ names) distinct new =
    let parts = and_parts (not (list_any (bytes_eq name) names)) (are_distinct names) distinct in
    let new_2 = and_parts (is_new before name) (list_all (is_new before) names) new in
    let free = free_name-untaken before name (not-true (is_among before name) new_2.0) in
    ap (λ n. n ∷ distinct_after (before ++ n ∷ []) names) free
    ∙ ap (λ more. name ∷ more) (stay (before ++ name ∷ []) names parts.1 (still-new before name names new_2.1 (not-true (list_any (bytes_eq name) names) parts.0)))

all-new : (names : List (List ℕ)) → list_all (is_new []) names ≡ true
all-new [] = refl
all-new (name ∷ names) = all-new names

pub distinct-stay : (names : List (List ℕ)) → are_distinct names ≡ true → distinct_names names ≡ names
distinct-stay names distinct = stay [] names distinct (all-new names)

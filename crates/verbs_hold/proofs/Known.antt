-- The names of some records are among the names of all of them.
use Rattle.std.proofs.Common.{◌≡◌, ℕ, Bool, true, ◌||◌, ◌&&◌, List, [], ◌∷◌, ◌++◌, refl, ap, ap₂, sym, ◌∙◌, append_assoc}
use Rattle.std.specs.List.{flat_map, list_all}
use Rattle.std.specs.Str.{bytes_eq}
use Rattle.std.proofs.lemmas.Bool.{and_from, and_parts, or_right}
use Rattle.std.proofs.lemmas.List.Folds.{list_all-append, list_any-append}
use Rattle.std.proofs.lemmas.Slice.Eq.{bytes_eq-Decides}
use Rattle.mlr_event.specs.Reading.{is_among}
use Rattle.mlr_groups.proofs.Once.{any-once}
use Rattle.mlr_spec.specs.Pairs.{keys_of}
use Rattle.verbs_base.specs.Choosing.{once}
use Rattle.verbs_base.specs.Records.{Fields, Row, events_of}
use Rattle.verbs_hold.specs.ByPlace.{has_all_in, has_all_of}
use Rattle.verbs_hold.specs.Unsparsify.{all_names}
use Rattle.verbs_hold.proofs.Names.{once-each}

all-same : {A : Type 0} (p q : A → Bool) (xs : List A) → ((x : A) → p x ≡ q x) → list_all p xs ≡ list_all q xs
all-same p q [] same = refl
all-same p q (x ∷ xs) same = ap₂ (λ a b. a && b) (same x) (all-same p q xs same)

among-once : (names : List (List ℕ)) (name : List ℕ) → is_among names name ≡ is_among (once names) name
among-once names name = sym (any-once bytes_eq bytes_eq-Decides name names) ∙ ap (λ names. is_among names name) (sym (once-each names))

among-last : (before names : List (List ℕ)) → list_all (is_among (before ++ names)) names ≡ true
among-last before [] = refl
among-last before (name ∷ names) =
    let here : is_among (before ++ name ∷ names) name ≡ true =
    list_any-append (bytes_eq name) before (name ∷ names)
    ∙ or_right (is_among before name) (is_among (name ∷ names) name) (ap (λ t. t || is_among names name) ((bytes_eq-Decides name name).1 refl)) in
    and_from _ _ here (ap (λ all. list_all (is_among all) names) (sym (append_assoc before (name ∷ []) names)) ∙ among-last (before ++ name ∷ []) names)

has-all : (names : List (List ℕ)) (fields : Fields) → has_all_of names fields ≡ list_all (is_among names) (keys_of fields)
has-all names [] = refl
has-all names (pair ∷ fields) = ap (λ t. is_among names pair.0 && t) (has-all names fields)

known-among : (names : List (List ℕ)) (rows : List Row) → list_all (is_among names) (flat_map (λ row. keys_of row.0) rows) ≡ true → list_all (has_all_in names) (events_of rows) ≡ true
known-among names [] known = refl
known-among names (row ∷ rows) known =
    let parts = and_parts (list_all (is_among names) (keys_of row.0)) (list_all (is_among names) (flat_map (λ row. keys_of row.0) rows)) (sym (list_all-append (is_among names) (keys_of row.0) (flat_map (λ (row : Row). keys_of row.0) rows)) ∙ known) in
    and_from _ _ (has-all names row.0 ∙ parts.0) (known-among names rows parts.1)

pub known-rows : (rows : List Row) → list_all (has_all_in (all_names rows)) (events_of rows) ≡ true
known-rows rows =
    let names = flat_map (λ (row : Row). keys_of row.0) rows in
    known-among (all_names rows) rows (sym (all-same (is_among names) (is_among (once names)) names (among-once names)) ∙ among-last [] names)

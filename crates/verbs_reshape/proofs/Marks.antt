-- Keys that are marked where a record has them, and the others appended to it.
use Rattle.std.proofs.Common.{◌≡◌, ℕ, zero, suc, ◌+◌, ◌<◌, Bool, true, false, not, ◌||◌, cond, List, [], ◌∷◌, ◌++◌, map, length, take, set, get_or, replicate, Some, None, slice_get, refl, ap, sym, ◌∙◌, append_assoc, add-one, arith}
use Rattle.std.specs.List.{filter, list_any}
use Rattle.std.specs.Str.{bytes_eq}
use Rattle.std.proofs.lemmas.Bool.{and_parts, cond_both, not-true, or_from, or_left, or_parts, or_right}
use Rattle.std.proofs.lemmas.List.{append-nil, map-append}
use Rattle.std.proofs.lemmas.List.Elements.{filter-append}
use Rattle.std.proofs.lemmas.List.Folds.{list_any-append}
use Rattle.std.proofs.lemmas.Slice.Eq.{bytes_eq-Decides}
use Rattle.mlr_event.specs.Reading.{is_among}
use Rattle.mlr_event.proofs.Distinct.{bytes_eq-swap}
use Rattle.mlr_event.proofs.Putting.{value_at-free}
use Rattle.mlr_groups.proofs.Once.{AreApart, map-one, map-same}
use Rattle.mlr_keys.proofs.Keyed.{none-before, take-more}
use Rattle.mlr_record.specs.Fields.{pairs_of}
use Rattle.mlr_record.specs.declared.record.Field.{Field}
use Rattle.mlr_spec.specs.Pairs.{are_distinct, keys_of, value_at}
use Rattle.mlr_spec.specs.Tree.{Tree, empty}
use Rattle.verbs_base.specs.Records.{Fields}
use Rattle.verbs_reshape.specs.ToWide.{filled}

apart-distinct : (keys : List (List ℕ)) → are_distinct keys ≡ true → AreApart bytes_eq bytes_eq-Decides keys
apart-distinct [] distinct = tt
apart-distinct (key ∷ keys) distinct =
    let parts = and_parts (not (list_any (bytes_eq key) keys)) (are_distinct keys) distinct in
    (not-true _ parts.0, apart-distinct keys parts.1)

-- one more name marks its key alone
module _ (names : List (List ℕ)) (name : List ℕ) where
  own-key : is_among (names ++ name ∷ []) name ≡ true
  own-key = list_any-append (bytes_eq name) names (name ∷ []) ∙ or_right (is_among names name) _ (or_left _ _ ((bytes_eq-Decides name name).1 refl))

  other-key : (key : List ℕ) → bytes_eq name key ≡ false → is_among (names ++ name ∷ []) key ≡ is_among names key
  other-key key apart =
      list_any-append (bytes_eq key) names (name ∷ [])
      ∙ ap (λ t. is_among names key || (t || false)) (bytes_eq-swap key name ∙ apart)
      ∙ or-none (is_among names key)
    where
      or-none : (t : Bool) → (t || false) ≡ t
      or-none true = refl
      or-none false = refl

  module _ (keys : List (List ℕ)) where
    pub marked : (place : ℕ) → are_distinct keys ≡ true → slice_get keys place ≡ Some name → set (map (is_among names) keys) place true ≡ map (is_among (names ++ name ∷ [])) keys
    marked place distinct at =
        ap (set (map (is_among names) keys) place) (sym own-key)
        ∙ sym (map-one bytes_eq bytes_eq-Decides (is_among names) (is_among (names ++ name ∷ [])) keys place name (apart-distinct keys distinct) at other-key)

    pub unmarked : is_among keys name ≡ false → map (is_among names) keys ≡ map (is_among (names ++ name ∷ [])) keys
    unmarked absent = sym (map-same bytes_eq bytes_eq-Decides (is_among names) (is_among (names ++ name ∷ [])) name keys absent other-key)

pub none-marked : (keys : List (List ℕ)) → replicate (length keys) false ≡ map (is_among []) keys
none-marked [] = refl
none-marked (key ∷ keys) = ap (λ marks. false ∷ marks) (none-marked keys)

-- the names of the first fields, with one more
names-from : (fields : List Field) (i : ℕ) (field : Field) → i < length fields → field ≡ get_or fields i field → take i (keys_of (pairs_of fields)) ++ field.name ∷ [] ≡ take (suc i) (keys_of (pairs_of fields))
names-from [] i field below is = absurd (omega (arith, below))
names-from (f ∷ fields) zero field below is = ap (λ (f : Field). f.name ∷ []) is
names-from (f ∷ fields) (suc i) field below is = ap (λ names. f.name ∷ names) (names-from fields i field (omega (arith, below)) is)

pub names-next : (fields : List Field) (i : ℕ) (field : Field) → i < length fields → field ≡ get_or fields i field → take i (keys_of (pairs_of fields)) ++ field.name ∷ [] ≡ take (i + 1) (keys_of (pairs_of fields))
names-next fields i field below is = names-from fields i field below is ∙ ap (λ n. take n (keys_of (pairs_of fields))) (sym (add-one i))

-- the mark of the key at a place
pub mark-at : (test : List ℕ → Bool) (keys : List (List ℕ)) (place : ℕ) (d : Bool) (key : List ℕ) → slice_get keys place ≡ Some key → get_or (map test keys) place d ≡ test key
mark-at test [] place d key at = absurd (let e : None ≡ Some key = at in cc)
mark-at test (k ∷ keys) zero d key at = let same : k ≡ key = cc in ap test same
mark-at test (k ∷ keys) (suc place) d key at = mark-at test keys place d key at

pub key-at : (keys : List (List ℕ)) (place : ℕ) → place < length keys → (key : List ℕ) × (slice_get keys place ≡ Some key)
key-at [] place below = absurd (omega (arith, below))
key-at (key ∷ keys) zero below = (key, refl)
key-at (key ∷ keys) (suc place) below = key-at keys place (omega (arith, below))

-- a key is appended where the record lacks it
abbrev with_empty : List ℕ → List ℕ × Tree
with_empty key = (key, empty)

keys-empty : (keys : List (List ℕ)) → keys_of (map with_empty keys) ≡ keys
keys-empty [] = refl
keys-empty (key ∷ keys) = ap (λ keys. key ∷ keys) (keys-empty keys)

any-left : (test keep : List ℕ → Bool) (names : List (List ℕ)) → list_any test names ≡ false → list_any test (filter keep names) ≡ false
any-left test keep [] none = none
any-left test keep (name ∷ names) none =
    let parts = or_parts (test name) (list_any test names) none in
    let rest = any-left test keep names parts.1 in
    cond_both (keep name) (name ∷ filter keep names) (filter keep names) (λ left. list_any test left ≡ false) (λ _. or_from _ _ parts.0 rest) (λ _. rest)

module _ (fields : Fields) (keys : List (List ℕ)) (place : ℕ) (key : List ℕ) (at : slice_get keys place ≡ Some key) where
  abbrev lacks : List ℕ → Bool
  lacks key = not (is_among (keys_of fields) key)

  abbrev lacking : List (List ℕ)
  lacking = filter lacks (take place keys)

  pub next-lacking : is_among (keys_of fields) key ≡ false → filled (take place keys) fields ++ (key, empty) ∷ [] ≡ filled (take (place + 1) keys) fields
  next-lacking absent =
      append_assoc fields (map with_empty lacking) ((key, empty) ∷ [])
      ∙ ap (λ more. fields ++ more) (sym (map-append with_empty lacking (key ∷ [])))
      ∙ ap (λ t. fields ++ map with_empty (lacking ++ cond t (key ∷ []) [])) (sym (ap not absent))
      ∙ ap (λ left. fields ++ map with_empty left) (sym (filter-append lacks (take place keys) (key ∷ [])))
      ∙ ap (λ keys. filled keys fields) (sym (take-more keys place key at))

  pub next-had : is_among (keys_of fields) key ≡ true → filled (take place keys) fields ≡ filled (take (place + 1) keys) fields
  next-had had =
      ap (λ left. fields ++ map with_empty left) (sym (append-nil lacking))
      ∙ ap (λ t. fields ++ map with_empty (lacking ++ cond t (key ∷ []) [])) (sym (ap not had))
      ∙ ap (λ left. fields ++ map with_empty left) (sym (filter-append lacks (take place keys) (key ∷ [])))
      ∙ ap (λ keys. filled keys fields) (sym (take-more keys place key at))

  -- a key that the record lacks isn't there yet
  pub key-free : are_distinct keys ≡ true → is_among (keys_of fields) key ≡ false → value_at key (filled (take place keys) fields) ≡ None
  key-free distinct absent =
      value_at-free key (filled (take place keys) fields) (
      ap (λ names. is_among names key) (map-append (λ (pair : List ℕ × Tree). pair.0) fields (map with_empty lacking) ∙ ap (λ names. keys_of fields ++ names) (keys-empty lacking))
      ∙ list_any-append (bytes_eq key) (keys_of fields) lacking
      ∙ or_from _ _ absent (any-left (bytes_eq key) lacks (take place keys) (none-before keys place key at distinct)))

-- Records that flattening and unflattening leave as they are, and each of them one field after another.
use Rattle.std.proofs.Common.{◌≡◌, ℕ, zero, suc, ◌+◌, Bool, true, false, ◌||◌, List, [], ◌∷◌, ◌++◌, length, drop, Some, None, slice_get, is_none, refl, ap, ap₂, sym, ◌∙◌, arith, inl, inr, append_assoc, add-one}
use Rattle.std.specs.List.{flat_map, list_any}
use Rattle.std.specs.Prelude.{codes}
use Rattle.std.specs.Fmt.{decimal}
use Rattle.std.proofs.lemmas.List.{append-nil}
use Rattle.std.proofs.lemmas.Bool.{or_parts, true≢false}
use Rattle.mlr_spec.specs.Tree.{Tree, absent, empty, string, int, fraction, wide, boolean, mapping, array, error, fields_of, trees_of, map_of, array_of, is_collection}
use Rattle.mlr_spec.specs.Pairs.{keys_of, are_distinct, value_at, put_at, put_each}
use Rattle.mlr_spec.specs.Flatten.{leaves_of, leaves_of_pairs, leaves_of_items, flat}
use Rattle.mlr_spec.proofs.Splitting.{cases_Option}
use Rattle.mlr_spec.proofs.Pairs.{put_at-none, any_key-found, are_distinct-twice}

module _ {V : Type 0} where
  pub put_each-append : (pairs prefix following : List (List ℕ × V)) → put_each pairs (prefix ++ following) ≡ put_each (put_each pairs prefix) following
  put_each-append pairs [] following = refl
  put_each-append pairs (p ∷ prefix) following = put_each-append (put_at p.0 p.1 pairs) prefix following

  keys_of-append : (prefix following : List (List ℕ × V)) → keys_of (prefix ++ following) ≡ keys_of prefix ++ keys_of following
  keys_of-append [] following = refl
  keys_of-append (p ∷ prefix) following = ap (λ keys. p.0 ∷ keys) (keys_of-append prefix following)

  -- a key that follows others is none of them
  pub absent-before : (prefix : List (List ℕ × V)) (p : List ℕ × V) (following : List (List ℕ × V)) → are_distinct (keys_of (prefix ++ p ∷ following)) ≡ true → value_at p.0 prefix ≡ None
  absent-before prefix p following distinct =
      elim (cases_Option (value_at p.0 prefix)) as (λ _. value_at p.0 prefix ≡ None) [
        | inl none ↦ none
        | inr found ↦
            let twice = are_distinct-twice p.0 (keys_of prefix) (keys_of following) (any_key-found p.0 prefix (ap is_none found.1)) in
            absurd (true≢false (sym distinct ∙ ap are_distinct (keys_of-append prefix (p ∷ following)) ∙ twice))
      ]

  -- pairs whose keys are distinct, appended to others, are added unchanged
  pub put_each-distinct : (prefix pairs : List (List ℕ × V)) → are_distinct (keys_of (prefix ++ pairs)) ≡ true → put_each prefix pairs ≡ prefix ++ pairs
  put_each-distinct prefix [] distinct = sym (append-nil prefix)
  put_each-distinct prefix (p ∷ pairs) distinct =
      let last : put_at p.0 p.1 prefix ≡ prefix ++ p ∷ [] = put_at-none p.0 p.1 prefix (absent-before prefix p pairs distinct) in
      let together : (prefix ++ p ∷ []) ++ pairs ≡ prefix ++ p ∷ pairs = append_assoc prefix (p ∷ []) pairs in
      ap (λ x. put_each x pairs) last ∙ put_each-distinct (prefix ++ p ∷ []) pairs (ap (λ x. are_distinct (keys_of x)) together ∙ distinct) ∙ together

  drop-next : (entries : List V) (place : ℕ) (entry : V) → slice_get entries place ≡ Some entry → drop place entries ≡ entry ∷ drop (suc place) entries
  drop-next [] place entry at = absurd (let e : None ≡ Some entry = at in cc)
  drop-next (x ∷ entries) zero entry at =
      let same : x ≡ entry = cc in
      ap (λ y. y ∷ entries) same
  drop-next (x ∷ entries) (suc place) entry at = drop-next entries place entry at

  -- the rest of a list from a place on is the entry there, and the rest after it
  pub drop-more : (entries : List V) (place : ℕ) (entry : V) → slice_get entries place ≡ Some entry → drop place entries ≡ entry ∷ drop (place + 1) entries
  drop-more entries place entry at = rw add-one (drop-next entries place entry at)

  -- one more entry of a list that is copied
  pub copied-more : (into after from : List V) (place : ℕ) (entry : V) → slice_get from place ≡ Some entry → into ++ drop place from ≡ from → after ≡ into ++ entry ∷ [] → after ++ drop (place + 1) from ≡ from
  copied-more into after from place entry at so_far pushed =
      ap (λ x. x ++ drop (place + 1) from) pushed ∙ append_assoc into (entry ∷ []) (drop (place + 1) from)
      ∙ sym (ap (λ left. into ++ left) (drop-more from place entry at)) ∙ so_far

  -- a test of each entry from a place on, where the entry there passes it, and where it doesn't
  module _ (test : V → Bool) (entries : List V) (place : ℕ) (entry : V) (at : slice_get entries place ≡ Some entry) where
    pub any-here : test entry ≡ true → list_any test (drop place entries) ≡ true
    any-here passes = ap (list_any test) (drop-more entries place entry at) ∙ ap (λ t. t || list_any test (drop (place + 1) entries)) passes

    pub any-later : test entry ≡ false → list_any test (drop (place + 1) entries) ≡ list_any test (drop place entries)
    any-later fails =
        sym (ap (list_any test) (drop-more entries place entry at) ∙ ap (λ t. t || list_any test (drop (place + 1) entries)) fails)

-- the key of the pair that is copied next isn't there so far
pub absent-so-far : {V : Type 0} (into from : List (List ℕ × V)) (place : ℕ) (entry : List ℕ × V) → slice_get from place ≡ Some entry → into ++ drop place from ≡ from → are_distinct (keys_of from) ≡ true → value_at entry.0 into ≡ None
absent-so-far into from place entry at so_far distinct =
    absent-before into entry (drop (place + 1) from)
    (ap (λ x. are_distinct (keys_of x)) (sym (ap (λ left. into ++ left) (drop-more from place entry at)) ∙ so_far) ∙ distinct)

module _ (separator : List ℕ) where
  leaves_of-plain : (name : List ℕ) (tree : Tree) → is_collection tree ≡ false → leaves_of separator name tree ≡ (name, tree) ∷ []
  leaves_of-plain name absent plain = refl
  leaves_of-plain name empty plain = refl
  leaves_of-plain name (string text) plain = refl
  leaves_of-plain name (int n spelling) plain = refl
  leaves_of-plain name (fraction text) plain = refl
  leaves_of-plain name (wide text) plain = refl
  leaves_of-plain name (boolean b) plain = refl
  leaves_of-plain name (mapping pairs) plain = absurd (true≢false plain)
  leaves_of-plain name (array items) plain = absurd (true≢false plain)
  leaves_of-plain name error plain = refl

  all_leaves-plain : (pairs : List (List ℕ × Tree)) → list_any (λ pair. is_collection pair.1) pairs ≡ false → flat_map (λ pair. leaves_of separator pair.0 pair.1) pairs ≡ pairs
  all_leaves-plain [] plain = refl
  all_leaves-plain (p ∷ pairs) plain =
      let parts = or_parts (is_collection p.1) (list_any (λ pair. is_collection pair.1) pairs) plain in
      ap₂ (λ x y. x ++ y) (leaves_of-plain p.0 p.1 parts.0) (all_leaves-plain pairs parts.1)

  -- a record without maps and arrays is flat
  pub flat-plain : (pairs : List (List ℕ × Tree)) → are_distinct (keys_of pairs) ≡ true → list_any (λ pair. is_collection pair.1) pairs ≡ false → flat separator pairs ≡ pairs
  flat-plain pairs distinct plain = ap (put_each []) (all_leaves-plain pairs plain) ∙ put_each-distinct [] pairs distinct

  -- a map and an array that hold something have the leaves of what they hold
  pub leaves_of-pairs : (name : List ℕ) (pairs : List (List ℕ × Tree)) → (length pairs ≡ 0 → ⊥) → leaves_of separator name (map_of pairs) ≡ leaves_of_pairs separator name (fields_of pairs)
  leaves_of-pairs name [] some = absurd (some refl)
  leaves_of-pairs name (p ∷ pairs) some = refl

  pub leaves_of-items : (name : List ℕ) (items : List Tree) → (length items ≡ 0 → ⊥) → leaves_of separator name (array_of items) ≡ leaves_of_items separator name 1 (trees_of items)
  leaves_of-items name [] some = absurd (some refl)
  leaves_of-items name (item ∷ items) some = refl

  pub leaves_of-no_pairs : (name : List ℕ) (pairs : List (List ℕ × Tree)) → length pairs ≡ 0 → leaves_of separator name (map_of pairs) ≡ (name, string (codes "{}")) ∷ []
  leaves_of-no_pairs name [] none = refl
  leaves_of-no_pairs name (p ∷ pairs) none = absurd (omega arith)

  pub leaves_of-no_items : (name : List ℕ) (items : List Tree) → length items ≡ 0 → leaves_of separator name (array_of items) ≡ (name, string (codes "[]")) ∷ []
  leaves_of-no_items name [] none = refl
  leaves_of-no_items name (item ∷ items) none = absurd (omega arith)

  -- the leaves of one more field, pair or item, before those of the remaining ones
  module _ (into after : List (List ℕ × Tree)) (place : ℕ) where
    pub fields-more : (pairs : List (List ℕ × Tree)) (name : List ℕ) (value : Tree) → slice_get pairs place ≡ Some (name, value)
        → after ≡ put_each into (leaves_of separator name value)
        → put_each after (flat_map (λ pair. leaves_of separator pair.0 pair.1) (drop (place + 1) pairs)) ≡ put_each into (flat_map (λ pair. leaves_of separator pair.0 pair.1) (drop place pairs))
    fields-more pairs name value at put =
        ap (λ x. put_each x (flat_map (λ pair. leaves_of separator pair.0 pair.1) (drop (place + 1) pairs))) put
        ∙ sym (put_each-append into (leaves_of separator name value) (flat_map (λ pair. leaves_of separator pair.0 pair.1) (drop (place + 1) pairs)))
        ∙ sym (ap (λ left. put_each into (flat_map (λ pair. leaves_of separator pair.0 pair.1) left)) (drop-more pairs place (name, value) at))

    pub pairs-more : (pairs : List (List ℕ × Tree)) (name key : List ℕ) (value : Tree) → slice_get pairs place ≡ Some (key, value)
        → after ≡ put_each into (leaves_of separator (name ++ separator ++ key) value)
        → put_each after (leaves_of_pairs separator name (fields_of (drop (place + 1) pairs))) ≡ put_each into (leaves_of_pairs separator name (fields_of (drop place pairs)))
    pairs-more pairs name key value at put =
        ap (λ x. put_each x (leaves_of_pairs separator name (fields_of (drop (place + 1) pairs)))) put
        ∙ sym (put_each-append into (leaves_of separator (name ++ separator ++ key) value) (leaves_of_pairs separator name (fields_of (drop (place + 1) pairs))))
        ∙ sym (ap (λ left. put_each into (leaves_of_pairs separator name (fields_of left))) (drop-more pairs place (key, value) at))

    pub items-more : (items : List Tree) (name : List ℕ) (item : Tree) → slice_get items place ≡ Some item
        → after ≡ put_each into (leaves_of separator (name ++ separator ++ decimal (place + 1)) item)
        → put_each after (leaves_of_items separator name (place + 1 + 1) (trees_of (drop (place + 1) items))) ≡ put_each into (leaves_of_items separator name (place + 1) (trees_of (drop place items)))
    items-more items name item at put =
        ap (λ x. put_each x (leaves_of_items separator name (place + 1 + 1) (trees_of (drop (place + 1) items)))) put
        ∙ sym (put_each-append into (leaves_of separator (name ++ separator ++ decimal (place + 1)) item) (leaves_of_items separator name (place + 1 + 1) (trees_of (drop (place + 1) items))))
        ∙ sym (ap (λ left. put_each into (leaves_of_items separator name (place + 1) (trees_of left))) (drop-more items place item at))

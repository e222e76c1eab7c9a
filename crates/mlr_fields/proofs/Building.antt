-- Records built field by field, and the index of their names.
use Rattle.std.proofs.Common.{◌≡◌, ℕ, zero, suc, ◌+◌, ◌≤◌, Bool, true, false, not, ◌||◌, List, [], ◌∷◌, ◌++◌, length, take, get_or, set, Some, None, slice_get, Option, Result, Ok, Err, OnOk, IfSome, is_ok, if◌then◌else◌, refl, ap, sym, ◌∙◌, inl, inr, add-one, append_assoc}
use Rattle.std.specs.List.{list_any}
use Rattle.std.specs.Str.{bytes_eq}
use Rattle.std.proofs.lemmas.Bool.{and_parts, cases_Bool, not-true, or_from, true≢false}
use Rattle.std.proofs.lemmas.List.{append-nil, map-append}
use Rattle.std.proofs.lemmas.Slice.Eq.{bytes_eq-Decides}
use Rattle.mlr_spec.specs.Tree.{Tree}
use Rattle.mlr_spec.specs.Pairs.{are_distinct, keys_of, put_at}
use Rattle.mlr_spec.proofs.Pairs.{put_at-none}
use Rattle.mlr_event.proofs.Distinct.{bytes_eq-swap, free_name-untaken}
use Rattle.mlr_event.proofs.Putting.{value_at-free}
use Rattle.mlr_event.specs.Reading.{free_name, is_among}
use Rattle.mlr_event.specs.Rows.{with_field}
use Rattle.mlr_fields.specs.Prefixes.{IsPrefix}

abbrev Pairs : Type 0
Pairs = List (List ℕ × Tree)

-- a field that is appended
pub keys-pushed : (pairs : Pairs) (name : List ℕ) (value : Tree) → keys_of (pairs ++ (name, value) ∷ []) ≡ keys_of pairs ++ name ∷ []
keys-pushed pairs name value = map-append (λ (pair : List ℕ × Tree). pair.0) pairs ((name, value) ∷ [])

keys-put : (name : List ℕ) (value : Tree) (pairs : Pairs) → IsPrefix (keys_of pairs) (keys_of (put_at name value pairs))
keys-put name value [] = (name ∷ [], refl)
keys-put name value (pair ∷ pairs) =
    elim (cases_Bool (bytes_eq pair.0 name)) as (λ _. IsPrefix (keys_of (pair ∷ pairs)) (keys_of (put_at name value (pair ∷ pairs)))) [
      | inl here ↦ rw here ([], sym (append-nil (keys_of (pair ∷ pairs))))
      | inr other ↦ rw other (let rest = keys-put name value pairs in (rest.0, ap (λ keys. pair.0 ∷ keys) rest.1))
    ]

-- the names that a record has stay its first names
pub keys-with_field : (dedupe : Bool) (name : List ℕ) (value : Tree) (pairs : Pairs) → IsPrefix (keys_of pairs) (keys_of (with_field dedupe name value pairs))
keys-with_field true name value pairs = (free_name (keys_of pairs) name ∷ [], keys-pushed pairs (free_name (keys_of pairs) name) value)
keys-with_field false name value pairs = keys-put name value pairs

among-at : (names : List (List ℕ)) (place : ℕ) (name : List ℕ) → slice_get names place ≡ Some name → list_any (bytes_eq name) names ≡ true
among-at [] place name at = absurd (let e : None ≡ Some name = at in cc)
among-at (n ∷ names) zero name at =
    let same : n ≡ name = let e : Some n ≡ Some name = at in cc in
    ap (λ t. t || list_any (bytes_eq name) names) ((bytes_eq-Decides name n).1 (sym same))
among-at (n ∷ names) (suc place) name at =
    elim (cases_Bool (bytes_eq name n)) as (λ _. list_any (bytes_eq name) (n ∷ names) ≡ true) [
      | inl here ↦ ap (λ t. t || list_any (bytes_eq name) names) here
      | inr other ↦ ap (λ t. t || list_any (bytes_eq name) names) other ∙ among-at names place name at
    ]

-- a value that is set at the place of its name
pub put-at-place : (pairs : Pairs) (place : ℕ) (name : List ℕ) (value : Tree) (d : List ℕ × Tree) → are_distinct (keys_of pairs) ≡ true → slice_get (keys_of pairs) place ≡ Some name
    → set pairs place ((get_or pairs place d).0, value) ≡ put_at name value pairs
put-at-place [] place name value d distinct at = absurd (let e : None ≡ Some name = at in cc)
put-at-place (pair ∷ pairs) zero name value d distinct at =
    let same : pair.0 ≡ name = let e : Some pair.0 ≡ Some name = at in cc in
    rw ((bytes_eq-Decides pair.0 name).1 same) refl
put-at-place (pair ∷ pairs) (suc place) name value d distinct at =
    let parts = and_parts (not (list_any (bytes_eq pair.0) (keys_of pairs))) (are_distinct (keys_of pairs)) distinct in
    elim (cases_Bool (bytes_eq pair.0 name)) as (λ _. set (pair ∷ pairs) (suc place) ((get_or (pair ∷ pairs) (suc place) d).0, value) ≡ put_at name value (pair ∷ pairs)) [
      | inl here ↦
          let there : list_any (bytes_eq pair.0) (keys_of pairs) ≡ true =
          ap (λ t. list_any (bytes_eq t) (keys_of pairs)) ((bytes_eq-Decides pair.0 name).0 here) ∙ among-at (keys_of pairs) place name at in
          absurd (true≢false (sym there ∙ not-true (list_any (bytes_eq pair.0) (keys_of pairs)) parts.0))
      | inr other ↦ rw other (ap (λ rest. pair ∷ rest) (put-at-place pairs place name value d parts.1 at))
    ]

keys-at : (pairs : Pairs) (place : ℕ) (pair : List ℕ × Tree) → slice_get pairs place ≡ Some pair → slice_get (keys_of pairs) place ≡ Some pair.0
keys-at [] place pair at = absurd (let e : None ≡ Some pair = at in cc)
keys-at (p ∷ pairs) zero pair at = let same : p ≡ pair = let e : Some p ≡ Some pair = at in cc in ap (λ q. Some q.0) same
keys-at (p ∷ pairs) (suc place) pair at = keys-at pairs place pair at

-- the name at a place is none of those before it
pub new-at-place : (pairs : Pairs) (place : ℕ) (pair : List ℕ × Tree) → are_distinct (keys_of pairs) ≡ true → slice_get pairs place ≡ Some pair → is_among (take place (keys_of pairs)) pair.0 ≡ false
new-at-place [] place pair distinct at = absurd (let e : None ≡ Some pair = at in cc)
new-at-place (p ∷ pairs) zero pair distinct at = refl
new-at-place (p ∷ pairs) (suc place) pair distinct at =
    let parts = and_parts (not (list_any (bytes_eq p.0) (keys_of pairs))) (are_distinct (keys_of pairs)) distinct in
    let apart : bytes_eq pair.0 p.0 ≡ false =
    elim (cases_Bool (bytes_eq pair.0 p.0)) as (λ _. bytes_eq pair.0 p.0 ≡ false) [
      | inl here ↦
          let there : list_any (bytes_eq p.0) (keys_of pairs) ≡ true =
          ap (λ t. list_any (bytes_eq t) (keys_of pairs)) (sym ((bytes_eq-Decides pair.0 p.0).0 here)) ∙ among-at (keys_of pairs) place pair.0 (keys-at pairs place pair at) in
          absurd (true≢false (sym there ∙ not-true (list_any (bytes_eq p.0) (keys_of pairs)) parts.0))
      | inr other ↦ other
    ] in
    or_from (bytes_eq pair.0 p.0) (is_among (take place (keys_of pairs)) pair.0) apart (new-at-place pairs place pair parts.1 at)

keys-next : (pairs : Pairs) (place : ℕ) (pair : List ℕ × Tree) → slice_get pairs place ≡ Some pair → take place (keys_of pairs) ++ pair.0 ∷ [] ≡ take (suc place) (keys_of pairs)
keys-next [] place pair at = absurd (let e : None ≡ Some pair = at in cc)
keys-next (p ∷ pairs) zero pair at = let same : p ≡ pair = let e : Some p ≡ Some pair = at in cc in ap (λ q. q.0 ∷ []) (sym same)
keys-next (p ∷ pairs) (suc place) pair at = ap (λ keys. p.0 ∷ keys) (keys-next pairs place pair at)

pub keys-to-place : (pairs : Pairs) (place : ℕ) (pair : List ℕ × Tree) → slice_get pairs place ≡ Some pair → take place (keys_of pairs) ++ pair.0 ∷ [] ≡ take (place + 1) (keys_of pairs)
keys-to-place pairs place pair at = keys-next pairs place pair at ∙ ap (λ n. take n (keys_of pairs)) (sym (add-one place))

-- a prefix is the first elements
pub prefix-taken : {A : Type 0} (prefix xs : List A) → IsPrefix prefix xs → prefix ≡ take (length prefix) xs
prefix-taken prefix xs is = sym (ap (take (length prefix)) is.1 ∙ take-append prefix is.0)
  where
    take-append : {A : Type 0} (xs ys : List A) → take (length xs) (xs ++ ys) ≡ xs
    take-append [] ys = refl
    take-append (x ∷ xs) ys = ap (λ rest. x ∷ rest) (take-append xs ys)

-- an index that has enough of the first names keeps them when a field is appended
abbrev HasMany : ℕ → Pairs → List (List ℕ) → Type 0
HasMany few pairs index = IsPrefix index (keys_of pairs) × (few ≤ length index)

pub many-pushed : (few : ℕ) (index : Option (List (List ℕ))) (old new : Pairs) (ok : Bool) (name : List ℕ) (value : Tree) → new ≡ (if ok then old ++ (name, value) ∷ [] else old)
    → IfSome index (HasMany few old) → IfSome index (HasMany few new)
many-pushed few None old new ok name value is many = many
many-pushed few (Some index) old new true name value is many =
    ((many.0.0 ++ name ∷ [], ap keys_of is ∙ keys-pushed old name value ∙ ap (λ keys. keys ++ name ∷ []) many.0.1 ∙ append_assoc index many.0.0 (name ∷ [])), many.1)
many-pushed few (Some index) old new false name value is many = ((many.0.0, ap keys_of is ∙ many.0.1), many.1)

-- a record after a field that may have been set
pub set-on-ok : {T E : Type 0} (result : Result T E) (old new with other : Pairs) → new ≡ (if is_ok result then with else old) → with ≡ other → OnOk result (new ≡ other)
set-on-ok (Ok t) old new with other is same = is ∙ same
set-on-ok (Err e) old new with other is same = tt

-- a field under a free name, and one under a name that isn't there
pub with_field-free : (dedupe : Bool) → dedupe ≡ true → (pairs : Pairs) (name free : List ℕ) (value : Tree) → free ≡ free_name (keys_of pairs) name → pairs ++ (free, value) ∷ [] ≡ with_field dedupe name value pairs
with_field-free dedupe is pairs name free value same = ap (λ k. pairs ++ (k, value) ∷ []) same ∙ ap (λ d. with_field d name value pairs) (sym is)

pub with_field-new : (dedupe : Bool) → dedupe ≡ false → (pairs : Pairs) (name : List ℕ) (value : Tree) → is_among (keys_of pairs) name ≡ false → pairs ++ (name, value) ∷ [] ≡ with_field dedupe name value pairs
with_field-new dedupe is pairs name value new = sym (put_at-none name value pairs (value_at-free name pairs new)) ∙ ap (λ d. with_field d name value pairs) (sym is)

pub with_field-set : (dedupe : Bool) → dedupe ≡ false → (pairs : Pairs) (place : ℕ) (name : List ℕ) (value : Tree) (d : List ℕ × Tree) → are_distinct (keys_of pairs) ≡ true → slice_get (keys_of pairs) place ≡ Some name
    → set pairs place ((get_or pairs place d).0, value) ≡ with_field dedupe name value pairs
with_field-set dedupe is pairs place name value d distinct at = put-at-place pairs place name value d distinct at ∙ ap (λ d. with_field d name value pairs) (sym is)

pub with_field-lacked : (dedupe : Bool) (pairs : Pairs) (name : List ℕ) (value : Tree) → is_among (keys_of pairs) name ≡ false → pairs ++ (name, value) ∷ [] ≡ with_field dedupe name value pairs
with_field-lacked true pairs name value new = with_field-free true refl pairs name name value (sym (free_name-untaken (keys_of pairs) name new))
with_field-lacked false pairs name value new = with_field-new false refl pairs name value new

-- a field under a name that isn't there, appended where there is memory
pub put-lacked : {T E : Type 0} (result : Result T E) (old new : Pairs) (dedupe : Bool) (name : List ℕ) (value tree : Tree) → is_among (keys_of old) name ≡ false → value ≡ tree
    → OnOk result (new ≡ old ++ (name, value) ∷ []) → OnOk result (new ≡ with_field dedupe name tree old)
put-lacked (Ok t) old new dedupe name value tree lacked same is = is ∙ with_field-lacked dedupe old name value lacked ∙ ap (λ v. with_field dedupe name v old) same
put-lacked (Err e) old new dedupe name value tree lacked same is = tt

pub put-free : {T E : Type 0} (result : Result T E) (old new with other : Pairs) → OnOk result (new ≡ with) → with ≡ other → OnOk result (new ≡ other)
put-free (Ok t) old new with other is same = is ∙ same
put-free (Err e) old new with other is same = tt

-- a value that is set under a name that is there changes no name
keys-set : (name : List ℕ) (value : Tree) (pairs : Pairs) → is_among (keys_of pairs) name ≡ true → keys_of (put_at name value pairs) ≡ keys_of pairs
keys-set name value [] there = absurd (true≢false (sym there))
keys-set name value (pair ∷ pairs) there =
    elim (cases_Bool (bytes_eq pair.0 name)) as (λ _. keys_of (put_at name value (pair ∷ pairs)) ≡ keys_of (pair ∷ pairs)) [
      | inl here ↦ rw here refl
      | inr other ↦
          let rest : is_among (keys_of pairs) name ≡ true = sym (ap (λ t. t || is_among (keys_of pairs) name) (bytes_eq-swap name pair.0 ∙ other)) ∙ there in
          rw other (ap (λ keys. pair.0 ∷ keys) (keys-set name value pairs rest))
    ]

pub keys-set-ok : (ok : Bool) (name : List ℕ) (value : Tree) (old new : Pairs) → is_among (keys_of old) name ≡ true → new ≡ (if ok then put_at name value old else old) → keys_of new ≡ keys_of old
keys-set-ok true name value old new there is = ap keys_of is ∙ keys-set name value old there
keys-set-ok false name value old new there is = ap keys_of is

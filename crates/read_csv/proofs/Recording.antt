-- Records made of a header and values.
use Rattle.std.proofs.Common.{◌≡◌, ℕ, zero, suc, ◌+◌, ◌-◌, ◌^◌, ◌<◌, ◌≤◌, Bool, true, false, ◌||◌, List, [], ◌∷◌, ◌++◌, map, length, get_or, set, take, drop, None, refl, ap, ap₂, sym, ◌∙◌, append_assoc, arith, inl, inr, add-one, length-take, length-append, take_all}
use Rattle.std.proofs.lemmas.List.{append-nil, take_more, take_more_set, drop_all, length-map, map-set}
use Rattle.std.proofs.Math.Seq.{map-set_same}
use Rattle.std.specs.Fmt.{decimal}
use Rattle.std.specs.List.{zip}
use Rattle.std.proofs.lemmas.List.{take-append-drop}
use Rattle.std.proofs.lemmas.Bool.{cases_Bool, cases_lt}
use Rattle.std.specs.Str.{bytes_eq}
use Rattle.mlr_spec.specs.Pairs.{are_distinct, value_at, put_at, keys_of}
use Rattle.mlr_spec.specs.Tree.{Tree}
use Rattle.mlr_spec.proofs.Flattening.{put_each-distinct}
use Rattle.mlr_value.specs.Value.{tree_of}
use Rattle.mlr_record.specs.declared.record.Field.{Field as NamedField}
use Rattle.mlr_record.specs.Fields.{pairs_of}
use Rattle.mlr_event.specs.Reading.{is_among, free_name, distinct_after, distinct_names, record_of}
use Rattle.mlr_event.specs.Rows.{with_field, with_fields}
use Rattle.mlr_event.proofs.Distinct.{are_distinct-names, free_name-free, length-distinct}
use Rattle.mlr_event.proofs.Putting.{with_fields-more, with_fields-none, value_at-free, record_of-is}
use Rattle.read_csv.specs.OpenRow.{value_in, values_in}
use Rattle.read_csv.specs.Rows.{positions_from, row_keys}

pub take-distinct : (before names : List (List ℕ)) (n : ℕ) → distinct_after before (take n names) ≡ take n (distinct_after before names)
take-distinct before [] zero = refl
take-distinct before [] (suc n) = refl
take-distinct before (name ∷ names) zero = refl
take-distinct before (name ∷ names) (suc n) = ap (λ more. free_name before name ∷ more) (take-distinct (before ++ free_name before name ∷ []) names n)

-- a distinct name is the first free form of the name after the names before it
distinct-at : (before names : List (List ℕ)) (place : ℕ) (name key : List ℕ) → place < length names
    → get_or (distinct_after before names) place key ≡ free_name (before ++ take place (distinct_after before names)) (get_or names place name)
distinct-at before [] place name key below = absurd (omega arith)
distinct-at before (n ∷ names) zero name key below = ap (λ b. free_name b n) (sym (append-nil before))
distinct-at before (n ∷ names) (suc place) name key below =
    let free = free_name before n in
    distinct-at (before ++ free ∷ []) names place name key (omega arith)
    ∙ ap (λ b. free_name b (get_or names place name)) (append_assoc before (free ∷ []) (take place (distinct_after (before ++ free ∷ []) names)))

keys-paired : (names : List (List ℕ)) (values : List Tree) → length names ≡ length values → keys_of (zip names values) ≡ names
keys-paired [] values same = refl
keys-paired (name ∷ names) [] same = absurd (omega arith)
keys-paired (name ∷ names) (value ∷ values) same = ap (λ more. name ∷ more) (keys-paired names values (omega arith))

-- the keys of a record with the first names
pub keys-so-far : (header : List (List ℕ)) (values : List Tree) (place : ℕ) → place ≤ length header → place ≤ length values
    → keys_of (with_fields true [] (take place header) (take place values)) ≡ take place (distinct_names header)
keys-so-far header values place low low_2 =
    keys-paired (distinct_names (take place header)) (take place values)
    (omega (arith, length-distinct [] (take place header), length-take place header, length-take place values))
    ∙ take-distinct [] header place

-- under distinct names, setting a field is the same as appending it
pub fields-distinct : (dedupe distinct : Bool) (header : List (List ℕ)) (values : List Tree) (n : ℕ) → n ≤ length header → n ≤ length values → length header < 2 ^ 62
    → (distinct ≡ true → distinct_names header ≡ header) → with_fields (dedupe || distinct) [] (take n header) (take n values) ≡ with_fields dedupe [] (take n header) (take n values)
fields-distinct true distinct header values n low low_2 few is = refl
fields-distinct false false header values n low low_2 few is = refl
fields-distinct false true header values n low low_2 few is =
    let names = take n header in
    let same : distinct_names names ≡ names = take-distinct [] header n ∙ ap (take n) (is refl) in
    let pairs = zip names (take n values) in
    let keys : keys_of pairs ≡ names = keys-paired names (take n values) (omega (arith, length-take n header, length-take n values)) in
    ap (λ k. zip k (take n values)) same
    ∙ sym (put_each-distinct [] pairs (ap are_distinct (keys ∙ sym same) ∙ are_distinct-names names (omega (arith, length-take n header))))

-- fields, and then more fields
pub with_fields-append : (dedupe : Bool) (pairs : List (List ℕ × Tree)) (names more : List (List ℕ)) (values rest : List Tree) → length names ≡ length values
    → with_fields dedupe (with_fields dedupe pairs names values) more rest ≡ with_fields dedupe pairs (names ++ more) (values ++ rest)
with_fields-append dedupe pairs [] more [] rest same = ap (λ p. with_fields dedupe p more rest) (with_fields-none dedupe pairs)
with_fields-append dedupe pairs [] more (value ∷ values) rest same = absurd (omega arith)
with_fields-append dedupe pairs (name ∷ names) more [] rest same = absurd (omega arith)
with_fields-append dedupe pairs (name ∷ names) more (value ∷ values) rest same =
    ap (λ p. with_fields dedupe p more rest) (sym (with_fields-more dedupe pairs name names value values))
    ∙ with_fields-append dedupe (with_field dedupe name value pairs) names more values rest (omega arith)
    ∙ with_fields-more dedupe pairs name (names ++ more) value (values ++ rest)

-- one more field
pub with_fields-one : (dedupe : Bool) (header : List (List ℕ)) (values : List Tree) (place : ℕ) (name : List ℕ) (value : Tree) → place < length header → place < length values
    → with_field dedupe (get_or header place name) (get_or values place value) (with_fields dedupe [] (take place header) (take place values))
    ≡ with_fields dedupe [] (take (place + 1) header) (take (place + 1) values)
with_fields-one dedupe header values place name value below below_2 =
    let so_far = with_fields dedupe [] (take place header) (take place values) in
    sym (with_fields-none dedupe (with_field dedupe (get_or header place name) (get_or values place value) so_far))
    ∙ with_fields-more dedupe so_far (get_or header place name) [] (get_or values place value) []
    ∙ with_fields-append dedupe [] (take place header) (get_or header place name ∷ []) (take place values) (get_or values place value ∷ []) (omega (arith, length-take place header, length-take place values))
    ∙ ap₂ (with_fields dedupe []) (sym (take_more header place name below)) (sym (take_more values place value below_2))

module _ (header : List (List ℕ)) (pairs : List (List ℕ × Tree)) (place : ℕ) (below : place < length header) (few : length header < 2 ^ 62) (keys : keys_of pairs ≡ take place (distinct_names header)) where
  -- before its own place, a key of the header isn't in the record
  pub key-is : (key : List ℕ) → key ≡ get_or (distinct_names header) place key → key ≡ free_name (keys_of pairs) (get_or header place [])
  key-is key is = is ∙ distinct-at [] header place [] key below ∙ ap (λ k. free_name k (get_or header place [])) (sym keys)

  pub key-free : (key : List ℕ) → key ≡ get_or (distinct_names header) place key → value_at key pairs ≡ None
  key-free key is =
      value_at-free key pairs
      (ap (is_among (keys_of pairs)) (key-is key is)
      ∙ free_name-free (keys_of pairs) (get_or header place []) (omega (arith, ap length keys, length-take place (distinct_names header), length-distinct [] header)))

-- one more position
pub positions-more : (n count : ℕ) → positions_from n (count + 1) ≡ positions_from n count ++ decimal (n + count) ∷ []
positions-more n zero = ap (λ k. decimal k ∷ []) (omega arith)
positions-more n (suc count) =
    ap (positions_from n) (add-one (suc count))
    ∙ ap (λ more. decimal n ∷ positions_from (n + 1) more) (sym (add-one count))
    ∙ ap (λ more. decimal n ∷ more) (positions-more (n + 1) count)
    ∙ ap (λ k. decimal n ∷ positions_from (n + 1) count ++ decimal k ∷ []) (omega arith)

pub positions-first : (n count : ℕ) → 0 < count → positions_from n count ≡ decimal n ∷ positions_from (n + 1) (count - 1)
positions-first n zero some = absurd (omega arith)
positions-first n (suc count) some = ap (λ k. decimal n ∷ positions_from (n + 1) k) (omega arith)

-- an item that was moved out
pub drop-at : {A : Type 0} (xs : List A) (place : ℕ) (x : A) (rest : List A) → drop place xs ≡ x ∷ rest → (drop (place + 1) xs ≡ rest) × ((d : A) → get_or xs place d ≡ x)
drop-at [] zero x rest is = absurd (cc)
drop-at [] (suc place) x rest is = absurd (cc)
drop-at (y ∷ xs) zero x rest is = let same : y ≡ x = cc in let more : xs ≡ rest = cc in (more, λ d. same)
drop-at (y ∷ xs) (suc place) x rest is =
    let more = drop-at xs place x rest is in
    (ap (λ k. drop k (y ∷ xs)) (add-one (suc place)) ∙ ap (λ k. drop k xs) (sym (add-one place)) ∙ more.0, more.1)

-- a field that was appended, and one that was set
pub pushed-is : (dedupe : Bool) → dedupe ≡ true → (pairs : List (List ℕ × Tree)) (name key : List ℕ) (value : Tree) → key ≡ free_name (keys_of pairs) name → pairs ++ (key, value) ∷ [] ≡ with_field dedupe name value pairs
pushed-is dedupe is pairs name key value free = ap (λ k. pairs ++ (k, value) ∷ []) free ∙ ap (λ d. with_field d name value pairs) (sym is)

pub put-is : (dedupe : Bool) → dedupe ≡ false → (pairs : List (List ℕ × Tree)) (name : List ℕ) (value : Tree) → put_at name value pairs ≡ with_field dedupe name value pairs
put-is dedupe is pairs name value = ap (λ d. with_field d name value pairs) (sym is)

module _ (dedupe : Bool) (header : List (List ℕ)) (values : List Tree) (place : ℕ) (below : place < length header) (below_2 : place < length values) (pairs : List (List ℕ × Tree))
    (fields : pairs ≡ with_fields dedupe [] (take place header) (take place values)) where
  pub keys-now : dedupe ≡ true → keys_of pairs ≡ take place (distinct_names header)
  keys-now is = ap keys_of (fields ∙ ap (λ d. with_fields d [] (take place header) (take place values)) is) ∙ keys-so-far header values place (omega arith) (omega arith)

  pub one-more : (name : List ℕ) (value : Tree) → with_field dedupe (get_or header place name) (get_or values place value) pairs ≡ with_fields dedupe [] (take (place + 1) header) (take (place + 1) values)
  one-more name value = ap (with_field dedupe (get_or header place name) (get_or values place value)) fields ∙ with_fields-one dedupe header values place name value below below_2

-- a field makes a record longer by at most one
length-put_at : (key : List ℕ) (value : Tree) (pairs : List (List ℕ × Tree)) → length (put_at key value pairs) ≤ length pairs + 1
length-put_at key value [] = omega arith
length-put_at key value (pair ∷ pairs) =
    elim (cases_Bool (bytes_eq pair.0 key)) as (λ _. length (put_at key value (pair ∷ pairs)) ≤ length (pair ∷ pairs) + 1) [
      | inl here ↦ rw here (omega arith)
      | inr other ↦ rw other (omega (arith, length-put_at key value pairs))
    ]

pub length-with_field : (dedupe : Bool) (key : List ℕ) (value : Tree) (pairs : List (List ℕ × Tree)) → length (with_field dedupe key value pairs) ≤ length pairs + 1
length-with_field true key value pairs = omega (arith, length-append pairs ((free_name (keys_of pairs) key, value) ∷ []))
length-with_field false key value pairs = length-put_at key value pairs

pub length-with_fields : (dedupe : Bool) (pairs : List (List ℕ × Tree)) (names : List (List ℕ)) (values : List Tree) → length names ≡ length values
    → length (with_fields dedupe pairs names values) ≤ length pairs + length names
length-with_fields dedupe pairs [] [] same = omega (arith, ap length (with_fields-none dedupe pairs))
length-with_fields dedupe pairs [] (value ∷ values) same = absurd (omega arith)
length-with_fields dedupe pairs (name ∷ names) [] same = absurd (omega arith)
length-with_fields dedupe pairs (name ∷ names) (value ∷ values) same =
    omega (arith, ap length (with_fields-more dedupe pairs name names value values), length-with_fields dedupe (with_field dedupe name value pairs) names values (omega arith), length-with_field dedupe name value pairs)

-- one more value after those of the header
pub surplus-more : (dedupe : Bool) (pairs : List (List ℕ × Tree)) (place count : ℕ) (value : Tree) (values : List Tree) → place < count
    → with_fields dedupe (with_field dedupe (decimal (place + 1)) value pairs) (positions_from (place + 1 + 1) (count - (place + 1))) values
    ≡ with_fields dedupe pairs (positions_from (place + 1) (count - place)) (value ∷ values)
surplus-more dedupe pairs place count value values below =
    with_fields-more dedupe pairs (decimal (place + 1)) (positions_from (place + 1 + 1) (count - (place + 1))) value values
    ∙ ap (λ k. with_fields dedupe pairs (decimal (place + 1) ∷ positions_from (place + 1 + 1) k) (value ∷ values)) (let e : count - (place + 1) ≡ count - place - 1 = omega arith in e)
    ∙ ap (λ names. with_fields dedupe pairs names (value ∷ values)) (sym (positions-first (place + 1) (count - place) (omega arith)))

pub surplus-none : (dedupe : Bool) (pairs : List (List ℕ × Tree)) (n count : ℕ) (values : List Tree) → count ≡ 0 → values ≡ [] → with_fields dedupe pairs (positions_from n count) values ≡ pairs
surplus-none dedupe pairs n count values none empty = ap₂ (λ k vs. with_fields dedupe pairs (positions_from n k) vs) none empty ∙ with_fields-none dedupe pairs

-- the names of the header and the positions are the keys of a row
keys-named : (header : List (List ℕ)) (n named : ℕ) → named ≤ n → named ≤ length header → (named < n → named ≡ length header) → take named header ++ positions_from (named + 1) (n - named) ≡ row_keys header n
keys-named header n named low low_2 full =
    elim (cases_lt named n) as (λ _. take named header ++ positions_from (named + 1) (n - named) ≡ row_keys header n) [
      | inl less ↦
          let is = full less in
          let whole : take (length header) header ≡ take n header = take_all (length header) header (omega arith) ∙ sym (take_all n header (omega arith)) in
          ap (λ k. take k header ++ positions_from (k + 1) (n - k)) is ∙ ap (λ prefix. prefix ++ positions_from (length header + 1) (n - length header)) whole
      | inr more ↦
          let is : named ≡ n = omega arith in
          ap₂ (λ k count. take k header ++ positions_from (k + 1) count) is (let e : n - named ≡ 0 = omega arith in e)
          ∙ ap (λ count. take n header ++ positions_from (length header + 1) count) (let e : 0 ≡ n - length header = omega arith in e)
    ]

pub row-made : (dedupe : Bool) (header : List (List ℕ)) (values : List Tree) (named : ℕ) → named ≤ length values → named ≤ length header → (named < length values → named ≡ length header)
    → with_fields dedupe (with_fields dedupe [] (take named header) (take named values)) (positions_from (named + 1) (length values - named)) (drop named values)
    ≡ record_of dedupe (row_keys header (length values)) values
row-made dedupe header values named low low_2 full =
    with_fields-append dedupe [] (take named header) (positions_from (named + 1) (length values - named)) (take named values) (drop named values)
    (omega (arith, length-take named header, length-take named values))
    ∙ ap₂ (with_fields dedupe []) (keys-named header (length values) named low low_2 full) (take-append-drop named values)
    ∙ sym (record_of-is dedupe (row_keys header (length values)) values)

-- a record with a value for each name
pub full-made : (dedupe distinct : Bool) (header : List (List ℕ)) (values : List Tree) → length values ≡ length header → length header < 2 ^ 62 → (dedupe || distinct) ≡ true
    → (distinct ≡ true → distinct_names header ≡ header) → zip (distinct_names header) values ≡ record_of dedupe (row_keys header (length values)) values
full-made dedupe distinct header values full few pushed is =
    let n = length header in
    ap (λ d. with_fields d [] header values) (sym pushed)
    ∙ ap₂ (with_fields (dedupe || distinct) []) (sym (take_all n header (omega arith))) (sym (take_all n values (omega arith)))
    ∙ fields-distinct dedupe distinct header values n (omega arith) (omega arith) few is
    ∙ sym (surplus-none dedupe (with_fields dedupe [] (take n header) (take n values)) (n + 1) (length values - n) (drop n values) (omega arith) (drop_all n values (omega arith)))
    ∙ row-made dedupe header values n (omega arith) (omega arith) (λ less. refl)

-- the names and the values of fields
abbrev pub names_in : List NamedField → List (List ℕ)
names_in fields = map (λ field. field.name) fields

pub pairs-zip : (fields : List NamedField) → pairs_of fields ≡ zip (names_in fields) (values_in fields)
pairs-zip [] = refl
pairs-zip (field ∷ fields) = ap (λ more. (field.name, tree_of field.value) ∷ more) (pairs-zip fields)

-- a field that got its name
module _ (fields : List NamedField) (place : ℕ) (d : NamedField) (name : List ℕ) where
  pub names-more : place < length fields
      → take (place + 1) (names_in (set fields place (record { name = name; value = (get_or fields place d).value }))) ≡ take place (names_in fields) ++ name ∷ []
  names-more below =
      ap (take (place + 1)) (map-set (λ (field : NamedField). field.name) fields place (record { name = name; value = (get_or fields place d).value }))
      ∙ take_more_set (names_in fields) place name (omega (arith, below, length-map fields (λ (field : NamedField). field.name)))

  pub values-same : values_in (set fields place (record { name = name; value = (get_or fields place d).value })) ≡ values_in fields
  values-same = map-set_same value_in fields place (record { name = name; value = (get_or fields place d).value }) d refl

-- Pairs whose two sides share no name.
use Rattle.std.proofs.Common.{◌≡◌, ℕ, Bool, true, false, cond, not, ◌&&◌, ◌||◌, List, [], ◌∷◌, ◌++◌, map, Option, Some, slice_get, refl, ap, ap₂, sym, ◌∙◌, subst, inl, inr}
use Rattle.std.specs.Prelude.{if◌then◌else◌}
use Rattle.std.specs.Option.{is_some, unwrap_or}
use Rattle.std.specs.Str.{bytes_eq}
use Rattle.std.proofs.lemmas.Bool.{cases_Bool, cond_both, false≢true, or_parts, true≢false}
use Rattle.std.proofs.lemmas.List.{map-append}
use Rattle.std.proofs.lemmas.Slice.Eq.{bytes_eq-Decides}
use Rattle.mlr_event.proofs.Distinct.{bytes_eq-swap}
use Rattle.mlr_event.specs.Reading.{is_among}
use Rattle.mlr_spec.specs.Pairs.{are_distinct, keys_of, put_at, put_each, value_at}
use Rattle.mlr_spec.specs.Tree.{Tree}
use Rattle.mlr_spec.proofs.Flattening.{put_each-append, put_each-distinct}
use Rattle.verbs_base.specs.Choosing.{dropped}
use Rattle.verbs_base.proofs.Picking.{are_distinct-append}
use Rattle.verbs_base.specs.Records.{Fields}
use Rattle.verbs_join.specs.Join.{joined, pair_of, prefix_for, prefixed}
use Rattle.verbs_join.specs.Places.{at_places}
use Rattle.verbs_join.specs.Sharing.{shares_name}
use Rattle.verbs_join.specs.declared.join.Join.{Join}
use Rattle.verbs_join.proofs.Among.{dropped-join, dropped-other}

or-true : (b : Bool) → (b || true) ≡ true
or-true true = refl
or-true false = refl

same-bytes : (text : List ℕ) → bytes_eq text text ≡ true
same-bytes text = (bytes_eq-Decides text text).1 refl

-- a name is among those of a record exactly where the record has a value for it
pub among-keys : (fields : Fields) (key : List ℕ) → is_among (keys_of fields) key ≡ is_some (value_at key fields)
among-keys [] key = refl
among-keys (field ∷ fields) key = ap (λ t. t || is_among (keys_of fields) key) (bytes_eq-swap key field.0) ∙ by (bytes_eq field.0 key) (among-keys fields key)
  where
    by : (b : Bool) → is_among (keys_of fields) key ≡ is_some (value_at key fields) → (b || is_among (keys_of fields) key) ≡ is_some (cond b (Some field.1) (value_at key fields))
    by true rest = refl
    by false rest = rest

-- what a record has stays there as more is put
some-either : (b : Bool) (v w : Tree) (rest : Option Tree) → is_some (cond b (Some v) rest) ≡ is_some (cond b (Some w) rest)
some-either true v w rest = refl
some-either false v w rest = refl

some-next : (b : Bool) (v : Tree) (rest next : Option Tree) → (is_some rest ≡ true → is_some next ≡ true) → is_some (cond b (Some v) rest) ≡ true → is_some (cond b (Some v) next) ≡ true
some-next true v rest next follows has = refl
some-next false v rest next follows has = follows has

has-put : (key name : List ℕ) (value : Tree) (fields : Fields) → is_some (value_at key fields) ≡ true → is_some (value_at key (put_at name value fields)) ≡ true
has-put key name value [] has = absurd (false≢true has)
has-put key name value (field ∷ fields) has =
    cond_both (bytes_eq field.0 name) ((field.0, value) ∷ fields) (field ∷ put_at name value fields) (λ made. is_some (value_at key made) ≡ true)
    (λ _. some-either (bytes_eq field.0 key) value field.1 (value_at key fields) ∙ has)
    (λ _. some-next (bytes_eq field.0 key) field.1 (value_at key fields) (value_at key (put_at name value fields)) (has-put key name value fields) has)

has-each : (key : List ℕ) (fields more : Fields) → is_some (value_at key fields) ≡ true → is_some (value_at key (put_each fields more)) ≡ true
has-each key fields [] has = has
has-each key fields (field ∷ more) has = has-each key (put_at field.0 field.1 fields) more (has-put key field.0 field.1 fields has)

-- and what is put is there
has-own : (name : List ℕ) (value : Tree) (fields : Fields) → is_some (value_at name (put_at name value fields)) ≡ true
has-own name value [] = ap (λ t. is_some (cond t (Some value) (value_at {V = Tree} name []))) (same-bytes name)
has-own name value (field ∷ fields) =
    cond_both (bytes_eq field.0 name) ((field.0, value) ∷ fields) (field ∷ put_at name value fields) (λ made. is_some (value_at name made) ≡ true)
    (λ same. ap (λ t. is_some (cond t (Some value) (value_at name fields))) same)
    (λ other. ap (λ t. is_some (cond t (Some field.1) (value_at name (put_at name value fields)))) other ∙ has-own name value fields)

has-more : (key : List ℕ) (fields more : Fields) → is_among (keys_of more) key ≡ true → is_some (value_at key (put_each fields more)) ≡ true
has-more key fields [] is = absurd (false≢true is)
has-more key fields (field ∷ more) is = elim (cases_Bool (bytes_eq key field.0)) [
  | inl same ↦
      has-each key (put_at field.0 field.1 fields) more
      (subst (λ k. is_some (value_at k (put_at field.0 field.1 fields)) ≡ true) (sym ((bytes_eq-Decides key field.0).0 same)) (has-own field.0 field.1 fields))
  | inr other ↦ has-more key (put_at field.0 field.1 fields) more (ap (λ t. t || is_among (keys_of more) key) (sym other) ∙ is)
]

-- a record that shares no name with another has no value for the names of its other fields
none-shared : (made : Fields) (join : List (List ℕ)) (other : Fields) (key : List ℕ) → shares_name made join other ≡ false → is_among (keys_of (dropped join other)) key ≡ true → is_some (value_at key made) ≡ false
none-shared made join [] key none is = absurd (false≢true is)
none-shared made join (field ∷ other) key none is =
    let parts = or_parts (not (is_among join field.0) && is_some (value_at field.0 made)) (shares_name made join other) none in
    elim (cases_Bool (is_among join field.0)) [
      | inl joins ↦ none-shared made join other key parts.1 (ap (λ fields. is_among (keys_of fields) key) (sym (dropped-join join field other joins)) ∙ is)
      | inr free ↦
          let own : is_some (value_at field.0 made) ≡ false = ap (λ t. not t && is_some (value_at field.0 made)) (sym free) ∙ parts.0 in
          let there : (bytes_eq key field.0 || is_among (keys_of (dropped join other)) key) ≡ true = ap (λ fields. is_among (keys_of fields) key) (sym (dropped-other join field other free)) ∙ is in
          elim (cases_Bool (bytes_eq key field.0)) [
            | inl same ↦ subst (λ k. is_some (value_at k made) ≡ false) (sym ((bytes_eq-Decides key field.0).0 same)) own
            | inr apart ↦ none-shared made join other key parts.1 (ap (λ t. t || is_among (keys_of (dropped join other)) key) (sym apart) ∙ there)
          ]
    ]

-- no prefix changes nothing
pub prefixed-same : (prefix : List ℕ → List ℕ) (fields : Fields) → ((key : List ℕ) → is_among (keys_of fields) key ≡ true → prefix key ≡ []) → prefixed prefix fields ≡ fields
prefixed-same prefix [] none = refl
prefixed-same prefix (field ∷ fields) none =
    let own : (bytes_eq field.0 field.0 || is_among (keys_of fields) field.0) ≡ true = ap (λ t. t || is_among (keys_of fields) field.0) (same-bytes field.0) in
    ap₂ (λ f fs. f ∷ fs) (ap (λ p. (p ++ field.0, field.1)) (none field.0 own))
    (prefixed-same prefix fields (λ key is. none key (ap (λ t. bytes_eq key field.0 || t) is ∙ or-true (bytes_eq key field.0))))

module _ (options : Join) (left right made : Fields) (made_is : made ≡ put_each [] (joined options left ++ dropped options.left left)) (none : shares_name made options.right right ≡ false) where
  abbrev lefts : Fields
  lefts = dropped options.left left

  abbrev rights : Fields
  rights = dropped options.right right

  in-made : (key : List ℕ) → is_among (keys_of lefts) key ≡ true → is_some (value_at key made) ≡ true
  in-made key is =
      subst (λ m. is_some (value_at key m) ≡ true) (sym (made_is ∙ put_each-append [] (joined options left) lefts)) (has-more key (put_each [] (joined options left)) lefts is)

  -- the names of the two sides
  pub not-right : (key : List ℕ) → is_some (value_at key made) ≡ true → is_among (keys_of rights) key ≡ false
  not-right key has = elim (cases_Bool (is_among (keys_of rights) key)) [
    | inl is ↦ absurd (true≢false (sym has ∙ none-shared made options.right right key none is))
    | inr free ↦ free
  ]

  not-left : (key : List ℕ) → is_among (keys_of rights) key ≡ true → is_among (keys_of lefts) key ≡ false
  not-left key is = elim (cases_Bool (is_among (keys_of lefts) key)) [
    | inl there ↦ absurd (true≢false (sym is ∙ not-right key (in-made key there)))
    | inr free ↦ free
  ]

  pub made-apart : (key : List ℕ) → is_among (keys_of made) key ≡ true → is_among (keys_of rights) key ≡ false
  made-apart key is = not-right key (sym (among-keys made key) ∙ is)

  -- a pair is then the one side after the other
  pub pair-apart : are_distinct (keys_of (made ++ rights)) ≡ true → pair_of options left right ≡ made ++ rights
  pair-apart distinct =
      ap₂ (λ l r. put_each [] (joined options left ++ l ++ r))
      (prefixed-same (prefix_for options.left_prefix rights) lefts (λ key is. ap (λ t. if t then unwrap_or options.left_prefix [] else []) (not-right key (in-made key is))))
      (prefixed-same (prefix_for options.right_prefix lefts) rights (λ key is. ap (λ t. if t then unwrap_or options.right_prefix [] else []) (not-left key is)))
      ∙ put_each-append [] (joined options left ++ lefts) rights
      ∙ ap (λ m. put_each m rights) (sym made_is)
      ∙ put_each-distinct made rights distinct

-- names of two records that share none
pub both-distinct : (made rest : Fields) → are_distinct (keys_of made) ≡ true → are_distinct (keys_of rest) ≡ true → ((key : List ℕ) → is_among (keys_of made) key ≡ true → is_among (keys_of rest) key ≡ false)
    → are_distinct (keys_of (made ++ rest)) ≡ true
both-distinct made rest first second apart = ap are_distinct (map-append (λ pair. pair.0) made rest) ∙ are_distinct-append (keys_of made) (keys_of rest) first second apart

-- the records at some places, before the last of them and at it
pub found-last : (lefts : List Fields) (places : List ℕ) (last : ℕ) (found : List Fields) → at_places lefts (places ++ last ∷ []) ≡ map Some found
    → (before : List Fields) × (left : Fields) × (found ≡ before ++ left ∷ []) × (at_places lefts places ≡ map Some before) × (slice_get lefts last ≡ Some left)
found-last lefts [] last [] are = absurd (let e : slice_get lefts last ∷ [] ≡ [] = are in cc)
found-last lefts [] last (left ∷ []) are = let e : slice_get lefts last ∷ [] ≡ Some left ∷ [] = are in ([], left, refl, refl, (let h : slice_get lefts last ≡ Some left = cc in h))
found-last lefts [] last (left ∷ next ∷ found) are = absurd (let e : slice_get lefts last ∷ [] ≡ Some left ∷ Some next ∷ map Some found = are in cc)
found-last lefts (place ∷ places) last [] are = absurd (let e : slice_get lefts place ∷ at_places lefts (places ++ last ∷ []) ≡ [] = are in cc)
found-last lefts (place ∷ places) last (left ∷ found) are =
    let e : slice_get lefts place ∷ at_places lefts (places ++ last ∷ []) ≡ Some left ∷ map Some found = are in
    let first : slice_get lefts place ≡ Some left = cc in
    let rest : at_places lefts (places ++ last ∷ []) ≡ map Some found = cc in
    let next = found-last lefts places last found rest in
    (left ∷ next.0, next.1, ap (λ fs. left ∷ fs) next.2, ap₂ (λ x xs. x ∷ xs) first next.3, next.4)

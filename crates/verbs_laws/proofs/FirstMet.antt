-- The names that `stats1` meets, in the order of their first records.
use Rattle.std.proofs.Common.{◌≡◌, ℕ, Bool, true, false, not, cond, ◌&&◌, ◌||◌, List, [], ◌∷◌, ◌++◌, is_some, refl, ap, ap₂, sym, ◌∙◌, inl, inr}
use Rattle.std.specs.List.{filter, flat_map, list_any}
use Rattle.std.specs.Str.{bytes_eq}
use Rattle.std.proofs.lemmas.Bool.{cases_Bool, and_parts}
use Rattle.std.proofs.lemmas.Grind.{flat_map-append}
use Rattle.std.proofs.lemmas.List.{append-nil}
use Rattle.std.proofs.lemmas.List.Elements.{filter-append}
use Rattle.std.proofs.lemmas.List.Folds.{list_any-append}
use Rattle.std.proofs.lemmas.Slice.Eq.{bytes_eq-Decides}
use Rattle.mlr_spec.proofs.Splitting.{cases_Option}
use Rattle.mlr_spec.specs.Pairs.{are_distinct, value_at}
use Rattle.mlr_event.specs.Reading.{is_among}
use Rattle.mlr_event.proofs.Distinct.{bytes_eq-swap}
use Rattle.mlr_stats.specs.Kept.{is_nil}
use Rattle.stat_base.specs.Values.{values_of}
use Rattle.verbs_base.specs.Choosing.{once}
use Rattle.verbs_base.specs.Records.{Fields}
use Rattle.verbs_summary.specs.Stats1.{is_newly_met, met, met_after, newly_met}

abbrev Name : Type 0
Name = List ℕ

abbrev lacking : List Name → List Name → List Name
lacking there names = filter (λ name. not (is_among there name)) names

abbrev others : Name → List Name → List Name
others name names = filter (λ other. not (bytes_eq name other)) names

-- two filters one after another
both-filters : (p q r : Name → Bool) → ((x : Name) → (p x && q x) ≡ r x) → (xs : List Name) → filter p (filter q xs) ≡ filter r xs
both-filters p q r are [] = refl
both-filters p q r are (x ∷ xs) =
    elim (cases_Bool (q x)) as (λ _. filter p (filter q (x ∷ xs)) ≡ filter r (x ∷ xs)) [
      | inl passes ↦
          elim (cases_Bool (p x)) as (λ _. filter p (filter q (x ∷ xs)) ≡ filter r (x ∷ xs)) [
            | inl also ↦ let all : r x ≡ true = sym (are x) ∙ ap₂ (λ s t. s && t) also passes in rw passes (rw also (rw all (ap (λ more. x ∷ more) (both-filters p q r are xs))))
            | inr isnt ↦ let none : r x ≡ false = sym (are x) ∙ ap₂ (λ s t. s && t) isnt passes in rw passes (rw isnt (rw none (both-filters p q r are xs)))
          ]
      | inr fails ↦ let none : r x ≡ false = sym (are x) ∙ ap₂ (λ s t. s && t) refl fails ∙ never (p x) in rw fails (rw none (both-filters p q r are xs))
    ]
  where
    never : (b : Bool) → (b && false) ≡ false
    never true = refl
    never false = refl

-- filters that agree on the names of a list
agreeing : (p q : Name → Bool) (xs : List Name) → ((x : Name) → is_among xs x ≡ true → p x ≡ q x) → filter p xs ≡ filter q xs
agreeing p q [] agree = refl
agreeing p q (x ∷ xs) agree =
    let here : p x ≡ q x = agree x (ap (λ t. t || is_among xs x) ((bytes_eq-Decides x x).1 refl)) in
    let rest : filter p xs ≡ filter q xs = agreeing p q xs (λ y among. agree y (ap (λ t. bytes_eq y x || t) among ∙ either (bytes_eq y x))) in
    ap₂ (λ t more. cond t (x ∷ more) more) here rest
  where
    either : (b : Bool) → (b || true) ≡ true
    either true = refl
    either false = refl

not-or : (a b : Bool) → (not a && not b) ≡ not (a || b)
not-or true b = refl
not-or false b = refl

lacking-both : (there more : List Name) (names : List Name) → lacking there (lacking more names) ≡ lacking (there ++ more) names
lacking-both there more names =
    both-filters _ _ _ (λ name. not-or (is_among there name) (is_among more name) ∙ ap not (sym (list_any-append (bytes_eq name) there more))) names

others-lacking : (name : Name) (there names : List Name) → others name (lacking there names) ≡ lacking (name ∷ there) names
others-lacking name there names =
    both-filters _ _ _ (λ other. not-or (bytes_eq name other) (is_among there other) ∙ ap (λ t. not (t || is_among there other)) (bytes_eq-swap name other)) names

lacking-none : (names : List Name) → lacking [] names ≡ names
lacking-none [] = refl
lacking-none (name ∷ names) = ap (λ more. name ∷ more) (lacking-none names)

-- each name of two lists once
once-append : (xs ys : List Name) → once (xs ++ ys) ≡ once xs ++ lacking xs (once ys)
once-append [] ys = sym (lacking-none (once ys))
once-append (x ∷ xs) ys =
    ap (λ more. x ∷ more) (
    ap (others x) (once-append xs ys)
    ∙ filter-append (λ other. not (bytes_eq x other)) (once xs) (lacking xs (once ys))
    ∙ ap (λ more. others x (once xs) ++ more) (others-lacking x xs (once ys)))

-- distinct names, of which a filter leaves some, are there once
others-all : (name : Name) (names : List Name) → list_any (bytes_eq name) names ≡ false → others name names ≡ names
others-all name [] none = refl
others-all name (other ∷ names) none =
    elim (cases_Bool (bytes_eq name other)) as (λ _. others name (other ∷ names) ≡ other ∷ names) [
      | inl same ↦ absurd (let no : true ≡ false = sym (ap (λ t. t || list_any (bytes_eq name) names) same) ∙ none in cc)
      | inr apart ↦ rw apart (ap (λ more. other ∷ more) (others-all name names (sym (ap (λ t. t || list_any (bytes_eq name) names) apart) ∙ none)))
    ]

none-left : (name : Name) (p : Name → Bool) (names : List Name) → list_any (bytes_eq name) names ≡ false → list_any (bytes_eq name) (filter p names) ≡ false
none-left name p [] none = refl
none-left name p (other ∷ names) none =
    elim (cases_Bool (bytes_eq name other)) as (λ _. list_any (bytes_eq name) (filter p (other ∷ names)) ≡ false) [
      | inl same ↦ absurd (let no : true ≡ false = sym (ap (λ t. t || list_any (bytes_eq name) names) same) ∙ none in cc)
      | inr apart ↦
          let rest = none-left name p names (sym (ap (λ t. t || list_any (bytes_eq name) names) apart) ∙ none) in
          elim (cases_Bool (p other)) as (λ _. list_any (bytes_eq name) (filter p (other ∷ names)) ≡ false) [
            | inl kept ↦ rw kept (rw apart rest)
            | inr gone ↦ rw gone rest
          ]
    ]

not-back : (b : Bool) → not b ≡ true → b ≡ false
not-back true is = absurd (let no : false ≡ true = is in cc)
not-back false is = refl

once-kept : (p : Name → Bool) (names : List Name) → are_distinct names ≡ true → once (filter p names) ≡ filter p names
once-kept p [] distinct = refl
once-kept p (name ∷ names) distinct =
    let parts = and_parts (not (list_any (bytes_eq name) names)) (are_distinct names) distinct in
    let rest = once-kept p names parts.1 in
    elim (cases_Bool (p name)) as (λ _. once (filter p (name ∷ names)) ≡ filter p (name ∷ names)) [
      | inl kept ↦
          rw kept (ap (λ more. name ∷ more) (ap (others name) rest ∙ others-all name (filter p names) (none-left name p names (not-back _ parts.0))))
      | inr gone ↦ rw gone rest
    ]

-- the names of the fields that a record has
abbrev had : List Name → Fields → List Name
had names fields = filter (λ name. is_some (value_at name fields)) names

-- a name of a list is left by a filter that it passes
among-left : (p : Name → Bool) (names : List Name) (name : Name) → is_among names name ≡ true → is_among (filter p names) name ≡ p name
among-left p [] name among = absurd (let no : false ≡ true = among in cc)
among-left p (other ∷ names) name among =
    elim (cases_Bool (bytes_eq name other)) as (λ _. is_among (filter p (other ∷ names)) name ≡ p name) [
      | inl same ↦
          let is : name ≡ other = (bytes_eq-Decides name other).0 same in
          elim (cases_Bool (p other)) as (λ _. is_among (filter p (other ∷ names)) name ≡ p name) [
            | inl kept ↦ rw kept (ap (λ t. t || is_among (filter p names) name) same ∙ sym (ap p is ∙ kept))
            | inr gone ↦ rw gone (gone-too p names name (ap p is ∙ gone) ∙ sym (ap p is ∙ gone))
          ]
      | inr apart ↦
          let rest = among-left p names name (sym (ap (λ t. t || is_among names name) apart) ∙ among) in
          elim (cases_Bool (p other)) as (λ _. is_among (filter p (other ∷ names)) name ≡ p name) [
            | inl kept ↦ rw kept (ap (λ t. t || is_among (filter p names) name) apart ∙ rest)
            | inr gone ↦ rw gone rest
          ]
    ]
  where
    gone-too : (p : Name → Bool) (names : List Name) (name : Name) → p name ≡ false → is_among (filter p names) name ≡ false
    gone-too p [] name gone = refl
    gone-too p (other ∷ names) name gone =
        elim (cases_Bool (p other)) as (λ _. is_among (filter p (other ∷ names)) name ≡ false) [
          | inl kept ↦
              elim (cases_Bool (bytes_eq name other)) as (λ _. is_among (filter p (other ∷ names)) name ≡ false) [
                | inl same ↦ absurd (let no : true ≡ false = sym (ap p ((bytes_eq-Decides name other).0 same) ∙ kept) ∙ gone in cc)
                | inr apart ↦ rw kept (ap (λ t. t || is_among (filter p names) name) apart ∙ gone-too p names name gone)
              ]
          | inr out ↦ rw out (gone-too p names name gone)
        ]

module _ (names : List Name) where
  -- a name is among those that some records have, unless there are no values of it
  among-had : (before : List Fields) (name : Name) → is_among names name ≡ true → not (is_among (flat_map (had names) before) name) ≡ is_nil (values_of name before)
  among-had [] name among = refl
  among-had (fields ∷ before) name among =
      let split = list_any-append (bytes_eq name) (had names fields) (flat_map (had names) before) in
      let first = among-left (λ other. is_some (value_at other fields)) names name among in
      elim (cases_Option (value_at name fields)) as (λ _. not (is_among (flat_map (had names) (fields ∷ before)) name) ≡ is_nil (values_of name (fields ∷ before))) [
        | inl none ↦
            let absent : is_among (had names fields) name ≡ false = first ∙ ap is_some none in
            rw none (ap not (split ∙ ap (λ t. t || is_among (flat_map (had names) before) name) absent) ∙ among-had before name among)
        | inr (value, some) ↦
            let there : is_among (had names fields) name ≡ true = first ∙ ap is_some some in
            rw some (ap not (split ∙ ap (λ t. t || is_among (flat_map (had names) before) name) there))
      ]

  -- the names that a record has and no record before it
  newly : (before : List Fields) (fields : Fields) → lacking (flat_map (had names) before) (had names fields) ≡ newly_met names before fields
  newly before fields =
      both-filters _ _ (λ name. not (is_among (flat_map (had names) before) name) && is_some (value_at name fields)) (λ name. refl) names
      ∙ agreeing _ (is_newly_met before fields) names (λ name among. ap (λ t. t && is_some (value_at name fields)) (among-had before name among) ∙ turned (is_nil (values_of name before)) (is_some (value_at name fields)))
    where
      turned : (a b : Bool) → (a && b) ≡ (b && a)
      turned true true = refl
      turned true false = refl
      turned false true = refl
      turned false false = refl

  after : are_distinct names ≡ true → (before given : List Fields) → met_after names before given ≡ lacking (flat_map (had names) before) (once (flat_map (had names) given))
  after distinct before [] = refl
  after distinct before (fields ∷ rest) =
      let known = flat_map (had names) before in
      let here = had names fields in
      let more = flat_map (had names) rest in
      let next : flat_map (had names) (before ++ fields ∷ []) ≡ known ++ here = flat_map-append (had names) before (fields ∷ []) ∙ ap (λ xs. known ++ xs) (append-nil here) in
      ap₂ (λ x y. x ++ y) (sym (newly before fields)) (after distinct (before ++ fields ∷ []) rest ∙ ap (λ there. lacking there (once more)) next ∙ sym (lacking-both known here (once more)))
      ∙ sym (filter-append (λ name. not (is_among known name)) here (lacking here (once more)))
      ∙ ap (lacking known) (ap (λ xs. xs ++ lacking here (once more)) (sym (once-kept (λ name. is_some (value_at name fields)) names distinct)) ∙ sym (once-append here more))

  pub met-once : are_distinct names ≡ true → (given : List Fields) → met names given ≡ once (flat_map (had names) given)
  met-once distinct given = after distinct [] given ∙ lacking-none (once (flat_map (had names) given))

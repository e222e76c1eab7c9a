-- Names that count once, taken one after another.
use Rattle.std.proofs.Common.{◌≡◌, ℕ, Bool, true, false, not, cond, ◌||◌, List, [], ◌∷◌, ◌++◌, map, refl, ap, ap₂, sym, ◌∙◌, inl, inr, append_assoc}
use Rattle.std.specs.List.{filter}
use Rattle.std.specs.Str.{bytes_eq}
use Rattle.std.proofs.lemmas.Bool.{cases_Bool, or_parts, or_left, or_right, true≢false}
use Rattle.std.proofs.lemmas.List.{map-append}
use Rattle.std.proofs.lemmas.List.Folds.{list_any-append}
use Rattle.std.proofs.lemmas.Slice.Eq.{bytes_eq-Decides}
use Rattle.mlr_spec.specs.Tree.{Tree}
use Rattle.mlr_spec.specs.Pairs.{keys_of}
use Rattle.mlr_event.specs.Reading.{is_among}
use Rattle.mlr_event.proofs.Distinct.{bytes_eq-swap}
use Rattle.verbs_base.specs.Choosing.{once}
use Rattle.verbs_fields.specs.Template.{put_once}

-- the names that were not seen before, each once
abbrev pub fresh : List (List ℕ) → List (List ℕ) → List (List ℕ)
fresh seen names = filter (λ name. not (is_among seen name)) (once names)

filter-all : {A : Type 0} (xs : List A) → filter (λ _. true) xs ≡ xs
filter-all [] = refl
filter-all (x ∷ xs) = ap (λ y. x ∷ y) (filter-all xs)

pub fresh-none : (names : List (List ℕ)) → fresh [] names ≡ once names
fresh-none names = filter-all (once names)

among-same : (seen : List (List ℕ)) (name other : List ℕ) → bytes_eq name other ≡ true → is_among seen other ≡ is_among seen name
among-same seen name other same = ap (is_among seen) (sym ((bytes_eq-Decides name other).0 same))

left-seen : (seen : List (List ℕ)) (name : List ℕ) (names : List (List ℕ)) → is_among seen name ≡ true
    → filter (λ n. not (is_among seen n)) (filter (λ other. not (bytes_eq name other)) names) ≡ filter (λ n. not (is_among seen n)) names
left-seen seen name [] known = refl
left-seen seen name (n ∷ names) known =
    elim (cases_Bool (bytes_eq name n)) as (λ _. filter (λ n. not (is_among seen n)) (filter (λ other. not (bytes_eq name other)) (n ∷ names)) ≡ filter (λ n. not (is_among seen n)) (n ∷ names)) [
      | inl same ↦
          rw same (left-seen seen name names known ∙ sym (ap (λ t. cond (not t) (n ∷ filter (λ n. not (is_among seen n)) names) (filter (λ n. not (is_among seen n)) names)) (among-same seen name n same ∙ known)))
      | inr apart ↦ rw apart (ap (λ left. cond (not (is_among seen n)) (n ∷ left) left) (left-seen seen name names known))
    ]

fresh-seen : (seen : List (List ℕ)) (name : List ℕ) (names : List (List ℕ)) → is_among seen name ≡ true → fresh seen (name ∷ names) ≡ fresh seen names
fresh-seen seen name names known =
    ap (λ t. cond (not t) (name ∷ filter (λ n. not (is_among seen n)) (filter (λ other. not (bytes_eq name other)) (once names))) (filter (λ n. not (is_among seen n)) (filter (λ other. not (bytes_eq name other)) (once names)))) known
    ∙ left-seen seen name (once names) known

among-push : (seen : List (List ℕ)) (name other : List ℕ) → is_among (seen ++ name ∷ []) other ≡ (is_among seen other || (bytes_eq other name || false))
among-push seen name other = list_any-append (bytes_eq other) seen (name ∷ [])

or-none : (b : Bool) → (b || false) ≡ b
or-none true = refl
or-none false = refl

left-new : (seen : List (List ℕ)) (name : List ℕ) (names : List (List ℕ))
    → filter (λ n. not (is_among seen n)) (filter (λ other. not (bytes_eq name other)) names) ≡ filter (λ n. not (is_among (seen ++ name ∷ []) n)) names
left-new seen name [] = refl
left-new seen name (n ∷ names) =
    elim (cases_Bool (bytes_eq name n)) as (λ _. filter (λ n. not (is_among seen n)) (filter (λ other. not (bytes_eq name other)) (n ∷ names)) ≡ filter (λ n. not (is_among (seen ++ name ∷ []) n)) (n ∷ names)) [
      | inl same ↦
          let is : is_among (seen ++ name ∷ []) n ≡ true = among-push seen name n ∙ or_right _ _ (or_left _ _ (bytes_eq-swap n name ∙ same)) in
          ap (λ t. filter (λ n. not (is_among seen n)) (cond (not t) (n ∷ filter (λ other. not (bytes_eq name other)) names) (filter (λ other. not (bytes_eq name other)) names))) same
          ∙ left-new seen name names
          ∙ sym (ap (λ t. cond (not t) (n ∷ filter (λ n. not (is_among (seen ++ name ∷ []) n)) names) (filter (λ n. not (is_among (seen ++ name ∷ []) n)) names)) is)
      | inr apart ↦
          let is : is_among (seen ++ name ∷ []) n ≡ is_among seen n =
          among-push seen name n ∙ ap (λ t. is_among seen n || (t || false)) (bytes_eq-swap n name ∙ apart) ∙ or-none (is_among seen n) in
          ap (λ t. filter (λ n. not (is_among seen n)) (cond (not t) (n ∷ filter (λ other. not (bytes_eq name other)) names) (filter (λ other. not (bytes_eq name other)) names))) apart
          ∙ ap₂ (λ t left. cond (not t) (n ∷ left) left) (sym is) (left-new seen name names)
    ]

fresh-new : (seen : List (List ℕ)) (name : List ℕ) (names : List (List ℕ)) → is_among seen name ≡ false → fresh seen (name ∷ names) ≡ name ∷ fresh (seen ++ name ∷ []) names
fresh-new seen name names new =
    ap (λ t. cond (not t) (name ∷ filter (λ n. not (is_among seen n)) (filter (λ other. not (bytes_eq name other)) (once names))) (filter (λ n. not (is_among seen n)) (filter (λ other. not (bytes_eq name other)) (once names)))) new
    ∙ ap (λ left. name ∷ left) (left-new seen name (once names))

module _ (value_of : List ℕ → Tree) where
  abbrev pub field_of : List ℕ → List ℕ × Tree
  field_of name = (name, value_of name)

  -- one more name, whose field is appended to the others unless it is there
  pub put_once-more : (made : List (List ℕ × Tree)) (name : List ℕ) (value : Tree) (names : List (List ℕ)) → (is_among (keys_of made) name ≡ false → value ≡ value_of name)
      → put_once (name, value) made ++ map field_of (fresh (keys_of (put_once (name, value) made)) names) ≡ made ++ map field_of (fresh (keys_of made) (name ∷ names))
  put_once-more made name value names is =
      elim (cases_Bool (is_among (keys_of made) name)) as (λ _. put_once (name, value) made ++ map field_of (fresh (keys_of (put_once (name, value) made)) names) ≡ made ++ map field_of (fresh (keys_of made) (name ∷ names))) [
        | inl known ↦
            ap (λ t. cond t made (made ++ (name, value) ∷ []) ++ map field_of (fresh (keys_of (cond t made (made ++ (name, value) ∷ []))) names)) known
            ∙ ap (λ left. made ++ map field_of left) (sym (fresh-seen (keys_of made) name names known))
        | inr new ↦
            ap (λ t. cond t made (made ++ (name, value) ∷ []) ++ map field_of (fresh (keys_of (cond t made (made ++ (name, value) ∷ []))) names)) new
            ∙ append_assoc made ((name, value) ∷ []) _
            ∙ ap₂ (λ v keys. made ++ (name, v) ∷ map field_of (fresh keys names)) (is new) (map-append (λ (pair : List ℕ × Tree). pair.0) made ((name, value) ∷ []))
            ∙ ap (λ left. made ++ map field_of left) (sym (fresh-new (keys_of made) name names new))
      ]

-- a name that is missing after a field was appended was missing before, and isn't that field's name
pub put_once-apart : (name other : List ℕ) (value : Tree) (made : List (List ℕ × Tree)) → is_among (keys_of (put_once (name, value) made)) other ≡ false → (is_among (keys_of made) other ≡ false) × (bytes_eq name other ≡ false)
put_once-apart name other value made absent =
    elim (cases_Bool (is_among (keys_of made) name)) as (λ _. (is_among (keys_of made) other ≡ false) × (bytes_eq name other ≡ false)) [
      | inl known ↦
          let before : is_among (keys_of made) other ≡ false = sym (ap (λ t. is_among (keys_of (cond t made (made ++ (name, value) ∷ []))) other) known) ∙ absent in
          (before, apart known before)
      | inr new ↦
          let all : is_among (keys_of made ++ name ∷ []) other ≡ false =
          ap (λ keys. is_among keys other) (sym (map-append (λ (pair : List ℕ × Tree). pair.0) made ((name, value) ∷ [])))
          ∙ sym (ap (λ t. is_among (keys_of (cond t made (made ++ (name, value) ∷ []))) other) new) ∙ absent in
          let parts = or_parts (is_among (keys_of made) other) (bytes_eq other name || false) (sym (among-push (keys_of made) name other) ∙ all) in
          (parts.0, bytes_eq-swap name other ∙ (or_parts (bytes_eq other name) false parts.1).0)
    ]
  where
    apart : is_among (keys_of made) name ≡ true → is_among (keys_of made) other ≡ false → bytes_eq name other ≡ false
    apart known before =
        elim (cases_Bool (bytes_eq name other)) as (λ _. bytes_eq name other ≡ false) [
          | inl same ↦ absurd (true≢false (sym known ∙ sym (among-same (keys_of made) name other same) ∙ before))
          | inr isnt ↦ isnt
        ]

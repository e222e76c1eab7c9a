-- Lists of texts that are compared, and texts joined part by part.
use Rattle.std.proofs.Common.{◌≡◌, ℕ, suc, ◌+◌, ◌&&◌, false, List, [], ◌∷◌, ◌++◌, length, map, take, drop, codes, get_or, Some, slice_get, Result, Ok, Err, is_ok, is_some, OnOk, if◌then◌else◌, inl, inr, refl, ap, ap₂, ◌∙◌, arith}
use Rattle.std.specs.Prelude.{nat_lt}
use Rattle.std.specs.Str.{bytes_eq}
use Rattle.std.proofs.lemmas.Bool.{cases_Bool, lt-ltb}
use Rattle.std.proofs.lemmas.List.{append-nil, length-append, map-append, take_more, get_or-map}
use Rattle.std.proofs.lemmas.Option.{get_or_from_slice_get, slice_get_within}
use Rattle.mlr_spec.specs.Split.{place_in}
use Rattle.mlr_spec.specs.Tree.{Tree}
use Rattle.mlr_spec.proofs.Flattening.{drop-more}
use Rattle.writers.specs.declared.form.Part.{Part}
use Rattle.writers.specs.declared.form.Part.TheVariants.{Keys}
use Rattle.writers.specs.Cells.{part_text, same_texts, texts}
use Rattle.writers.specs.Csv.{never_empty}

-- texts of another number are others
pub other-length : (xs ys : List (List ℕ)) → (length xs ≡ length ys → ⊥) → false ≡ same_texts xs ys
other-length [] [] differ = absurd (differ refl)
other-length [] (y ∷ ys) differ = refl
other-length (x ∷ xs) [] differ = refl
other-length (x ∷ xs) (y ∷ ys) differ =
    elim (cases_Bool (bytes_eq x y)) as (λ _. false ≡ (bytes_eq x y && same_texts xs ys)) [
      | inl same ↦ rw same (other-length xs ys (λ e. differ (ap suc e)))
      | inr other ↦ rw other refl
    ]

-- every text that isn't empty contains an empty separator
pub empty-place : (separator text : List ℕ) → length separator ≡ 0 → nat_lt 0 (length text) ≡ is_some (place_in separator text)
empty-place [] [] none = refl
empty-place [] (b ∷ text) none = lt-ltb 0 (length (b ∷ text)) (omega arith)
empty-place (s ∷ separator) text none = absurd (omega (arith, none))

pub same-next : (keys : List (List ℕ)) (r : List (List ℕ × Tree)) (place : ℕ) (key : List ℕ) (field : List ℕ × Tree) → slice_get keys place ≡ Some key → slice_get r place ≡ Some field
    → same_texts (drop place keys) (texts Keys (drop place r)) ≡ (bytes_eq key field.0 && same_texts (drop (place + 1) keys) (texts Keys (drop (place + 1) r)))
same-next keys r place key field at_key at_field = ap₂ (λ xs ys. same_texts xs (texts Keys ys)) (drop-more keys place key at_key) (drop-more r place field at_field)

module _ {A : Type 0} {B : Type 0} (f : A → B) (xs : List A) (place : ℕ) (x : A) (at : slice_get xs place ≡ Some x) where
  pub map-next : map f (take (place + 1) xs) ≡ map f (take place xs) ++ f x ∷ []
  map-next =
      ap (map f) (take_more xs place x (slice_get_within xs place x at))
      ∙ map-append f (take place xs) (get_or xs place x ∷ [])
      ∙ ap (λ y. map f (take place xs) ++ f y ∷ []) (get_or_from_slice_get xs place x x at)

  pub map-at : (d : B) → get_or (map f xs) place d ≡ f x
  map-at d = get_or-map f xs place x d (slice_get_within xs place x at) ∙ ap f (get_or_from_slice_get xs place x x at)

-- a last part, which memory may fail
pub last-part : {E : Type 0} (r : Result (Unit {0}) E) (new old text want : List ℕ) → new ≡ (if is_ok r then old ++ text else old) → old ++ text ≡ want → OnOk r (new ≡ want)
last-part (Ok u) new old text want e same = e ∙ same
last-part (Err e) new old text want at same = tt

-- a line that would be empty
pub line-empty : (into line before following : List ℕ) → before ≡ into ++ line → length before ≡ length into → following ≡ before ++ 34 ∷ 34 ∷ [] → following ≡ into ++ never_empty line
line-empty into [] before following is none more = more ∙ ap (λ t. t ++ 34 ∷ 34 ∷ []) (is ∙ append-nil into)
line-empty into (b ∷ line) before following is none more = absurd (omega (arith, none, ap length is, length-append into (b ∷ line)))

pub line-some : (into line before : List ℕ) → before ≡ into ++ line → (length before ≡ length into → ⊥) → before ≡ into ++ never_empty line
line-some into [] before is some = absurd (some (ap length (is ∙ append-nil into)))
line-some into (b ∷ line) before is some = is

-- the cells of a record
pub row-cells : (cell : List ℕ → List ℕ) (part : Part) (r : List (List ℕ × Tree)) → map (λ field. cell (part_text part field)) r ≡ map cell (texts part r)
row-cells cell part [] = refl
row-cells cell part (field ∷ r) = ap (λ more. cell (part_text part field) ∷ more) (row-cells cell part r)

pub dashes-cells : (r : List (List ℕ × Tree)) → map (λ field. codes "---") r ≡ map (λ key. codes "---") (texts Keys r)
dashes-cells [] = refl
dashes-cells (field ∷ r) = ap (λ more. codes "---" ∷ more) (dashes-cells r)

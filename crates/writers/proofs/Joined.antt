-- Texts in a row, one more at a time.
use Rattle.std.proofs.Common.{◌≡◌, ◌-◌, ◌==◌, inl, inr, ℕ, Bool, true, zero, suc, ◌+◌, ◌<◌, List, [], ◌∷◌, ◌++◌, if◌then◌else◌, length, take, drop, get_or, map, refl, ap, sym, ◌∙◌, append_assoc, arith}
use Rattle.std.specs.Prelude.{nat_lt}
use Rattle.std.proofs.lemmas.List.{append-nil, take_more, map-append}
use Rattle.std.proofs.Math.Dec.{leb-suc-suc}
use Rattle.std.proofs.lemmas.Bool.{eq-eqb, le-ltb, lt-ltb, ne_eqb, true≢false}
use Rattle.std.proofs.lemmas.Bool.Decides.{leb_tells}
use Rattle.mlr_spec.specs.Json.{joined}
use Rattle.mlr_spec.specs.Tree.{Tree}
use Rattle.mlr_record.specs.declared.record.Field.{Field}
use Rattle.mlr_record.specs.Fields.{pair_of, pairs_of}
use Rattle.writers.specs.Joined.{separated, are_any}

pub joined-push : (separator : List ℕ) (texts : List (List ℕ)) (text : List ℕ) → joined separator (texts ++ text ∷ []) ≡ joined separator texts ++ separated separator (are_any texts) ++ text
joined-push separator [] text = refl
joined-push separator (a ∷ []) text = refl
joined-push separator (a ∷ b ∷ texts) text =
    let prefix = a ++ separator in
    let rest = joined separator (b ∷ texts) in
    ap (λ x. prefix ++ x) (joined-push separator (b ∷ texts) text)
    ∙ sym (append_assoc prefix (rest ++ separator) text) ∙ ap (λ x. x ++ text) (sym (append_assoc prefix rest separator))

pub are_any-map : {A B : Type 0} (f : A → B) (xs : List A) → are_any (map f xs) ≡ are_any xs
are_any-map f [] = refl
are_any-map f (x ∷ xs) = refl

pub are_any-take : {A : Type 0} (n : ℕ) (xs : List A) → n < length xs → are_any (take n xs) ≡ nat_lt 0 n
are_any-take n [] below = absurd (omega arith)
are_any-take zero (x ∷ xs) below = refl
are_any-take (suc n) (x ∷ xs) below = sym (lt-ltb 0 (suc n) (omega arith))

-- one more element of a list, with its separator
pub joined-more : {A : Type 0} (separator : List ℕ) (f : A → List ℕ) (xs : List A) (n : ℕ) (d : A) → n < length xs
    → joined separator (map f (take (n + 1) xs)) ≡ joined separator (map f (take n xs)) ++ separated separator (nat_lt 0 n) ++ f (get_or xs n d)
joined-more separator f xs n d below =
    let prefix = map f (take n xs) in
    ap (λ t. joined separator (map f t)) (take_more xs n d below)
    ∙ ap (joined separator) (map-append f (take n xs) (get_or xs n d ∷ []))
    ∙ joined-push separator prefix (f (get_or xs n d))
    ∙ ap (λ any. joined separator prefix ++ separated separator any ++ f (get_or xs n d)) (are_any-map f (take n xs) ∙ are_any-take n xs below)

pub joined-take : (separator : List ℕ) (texts : List (List ℕ)) (n : ℕ) (d : List ℕ) → n < length texts
    → joined separator (take (n + 1) texts) ≡ joined separator (take n texts) ++ separated separator (nat_lt 0 n) ++ get_or texts n d
joined-take separator texts n d below =
    ap (joined separator) (take_more texts n d below)
    ∙ joined-push separator (take n texts) (get_or texts n d)
    ∙ ap (λ any. joined separator (take n texts) ++ separated separator any ++ get_or texts n d) (are_any-take n texts below)

-- one more text after those that were appended
pub joined-next : (separator : List ℕ) (into so_far before following : List ℕ) (any : Bool) (text whole : List ℕ) → before ≡ (into ++ so_far) ++ separated separator any → following ≡ before ++ text
    → whole ≡ so_far ++ separated separator any ++ text → following ≡ into ++ whole
joined-next separator into so_far before following any text whole before_is after_is whole_is =
    after_is ∙ ap (λ t. t ++ text) (before_is ∙ append_assoc into so_far (separated separator any))
    ∙ append_assoc into (so_far ++ separated separator any) text
    ∙ ap (λ t. into ++ t) (sym whole_is)

-- texts, each followed by a byte: by one where more follow, and by another after the last
module _ {A : Type 0} (s e : ℕ) (f : A → List ℕ) where
  abbrev pub marked : List A → List ℕ
  marked [] = []
  marked (x ∷ xs) = f x ++ (if are_any xs then s else e) ∷ marked xs

  pub marked-is : (x : A) (xs : List A) → marked (x ∷ xs) ≡ joined (s ∷ []) (map f (x ∷ xs)) ++ e ∷ []
  marked-is x [] = refl
  marked-is x (y ∷ ys) =
      let rest = joined (s ∷ []) (map f (y ∷ ys)) in
      ap (λ t. f x ++ s ∷ t) (marked-is y ys)
      ∙ sym (append_assoc (f x) (s ∷ []) (rest ++ e ∷ []))
      ∙ sym (append_assoc (f x ++ s ∷ []) rest (e ∷ []))

pub are_any-drop : {A : Type 0} (n : ℕ) (xs : List A) → are_any (drop n xs) ≡ nat_lt n (length xs)
are_any-drop zero [] = refl
are_any-drop (suc n) [] = sym (le-ltb (suc n) 0 (omega arith))
are_any-drop zero (x ∷ xs) = sym (lt-ltb 0 (length (x ∷ xs)) (omega arith))
are_any-drop (suc n) (x ∷ xs) = are_any-drop n xs ∙ sym (leb-suc-suc (suc n) (length xs))

-- a line that was written up to its end
pub marked-line : {A : Type 0} (s e : ℕ) (f : A → List ℕ) (xs : List A) (before into : List ℕ) → are_any xs ≡ true → into ++ [] ≡ before ++ marked s e f xs
    → into ≡ (before ++ joined (s ∷ []) (map f xs)) ++ e ∷ []
marked-line s e f [] before into some is = absurd (true≢false (sym some))
marked-line s e f (x ∷ xs) before into some is =
    sym (append-nil into) ∙ is ∙ ap (λ t. before ++ t) (marked-is s e f x xs) ∙ sym (append_assoc before (joined (s ∷ []) (map f (x ∷ xs))) (e ∷ []))

pub are_any-some : {A : Type 0} (xs : List A) → (length xs ≡ 0 → ⊥) → are_any xs ≡ true
are_any-some [] some = absurd (some refl)
are_any-some (x ∷ xs) some = refl

-- one more field of a record, with its separator
pub joined-fields : (separator : List ℕ) (f : List ℕ × Tree → List ℕ) (fields : List Field) (n : ℕ) (d : Field) → n < length fields
    → joined separator (map f (pairs_of (take (n + 1) fields))) ≡ joined separator (map f (pairs_of (take n fields))) ++ separated separator (nat_lt 0 n) ++ f (pair_of (get_or fields n d))
joined-fields separator f fields n d below =
    ap (joined separator) (both (take (n + 1) fields)) ∙ joined-more separator (λ x. f (pair_of x)) fields n d below
    ∙ ap (λ texts. joined separator texts ++ separated separator (nat_lt 0 n) ++ f (pair_of (get_or fields n d))) (sym (both (take n fields)))
  where
    both : (xs : List Field) → map f (pairs_of xs) ≡ map (λ x. f (pair_of x)) xs
    both [] = refl
    both (x ∷ xs) = ap (λ more. f (pair_of x) ∷ more) (both xs)

-- a place is the last exactly where no more follow
pub last-or-more : (place count s e : ℕ) → place < count → (if place == count - 1 then e else s) ≡ (if nat_lt (place + 1) count then s else e)
last-or-more place count s e below = elim (leb_tells (place + 1 + 1) count) [
  | inl more ↦ rw (ne_eqb place (count - 1) (λ same. omega (arith, more.1, same))) (sym (ap (λ t. if t then s else e) (lt-ltb (place + 1) count (omega (arith, more.1)))))
  | inr none ↦
      let same : place ≡ count - 1 = omega (arith, none.1, below) in
      ap (λ t. if t then e else s) (eq-eqb place (count - 1) same) ∙ sym (ap (λ t. if t then s else e) (le-ltb (place + 1) count (omega (arith, none.1))))
]

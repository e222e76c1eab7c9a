-- Texts in a row, one more at a time.
use Rattle.std.proofs.Common.{◌≡◌, ℕ, Bool, true, false, if◌then◌else◌, zero, suc, ◌+◌, ◌<◌, List, [], ◌∷◌, ◌++◌, length, take, get_or, map, refl, ap, sym, ◌∙◌, append_assoc, arith}
use Rattle.std.specs.Prelude.{nat_lt}
use Rattle.std.proofs.lemmas.List.{take_more, map-append}
use Rattle.std.proofs.lemmas.Bool.{lt-ltb}
use Rattle.mlr_spec.specs.Json.{joined}

abbrev pub are_any : {A : Type 0} → List A → Bool
are_any [] = false
are_any (x ∷ xs) = true

-- the separator of two texts, if there is one before
abbrev pub separated : List ℕ → Bool → List ℕ
separated separator any = if any then separator else []

joined-push : (separator : List ℕ) (texts : List (List ℕ)) (text : List ℕ) → joined separator (texts ++ text ∷ []) ≡ joined separator texts ++ separated separator (are_any texts) ++ text
joined-push separator [] text = refl
joined-push separator (a ∷ []) text = refl
joined-push separator (a ∷ b ∷ texts) text =
    let prefix = a ++ separator in
    let rest = joined separator (b ∷ texts) in
    ap (λ x. prefix ++ x) (joined-push separator (b ∷ texts) text)
    ∙ sym (append_assoc prefix (rest ++ separator) text) ∙ ap (λ x. x ++ text) (sym (append_assoc prefix rest separator))

are_any-map : {A B : Type 0} (f : A → B) (xs : List A) → are_any (map f xs) ≡ are_any xs
are_any-map f [] = refl
are_any-map f (x ∷ xs) = refl

are_any-take : {A : Type 0} (n : ℕ) (xs : List A) → n < length xs → are_any (take n xs) ≡ nat_lt 0 n
are_any-take n [] below = absurd (omega arith)
are_any-take zero (x ∷ xs) below = refl
are_any-take (suc n) (x ∷ xs) below = sym (lt-ltb 0 (suc n) (omega arith))

-- one more element of a list, with its separator
pub joined-more : {A : Type 0} (separator : List ℕ) (f : A → List ℕ) (xs : List A) (n : ℕ) (d : A) → n < length xs
    → joined separator (map f (take (n + 1) xs)) ≡ joined separator (map f (take n xs)) ++ separated separator (nat_lt 0 n) ++ f (get_or xs n d)
joined-more separator f xs n d below =
    let prefix = map f (take n xs) in
    ap (λ t. joined separator (map f t)) (take_more xs n d below)
    ∙ ap (joined separator) (map-append f (take n xs) (get_or xs n d ∷ []))
    ∙ joined-push separator prefix (f (get_or xs n d))
    ∙ ap (λ any. joined separator prefix ++ separated separator any ++ f (get_or xs n d)) (are_any-map f (take n xs) ∙ are_any-take n xs below)

-- one more text after those that were appended
pub joined-next : (separator : List ℕ) (into so_far before following : List ℕ) (any : Bool) (text whole : List ℕ) → before ≡ (into ++ so_far) ++ separated separator any → following ≡ before ++ text
    → whole ≡ so_far ++ separated separator any ++ text → following ≡ into ++ whole
joined-next separator into so_far before following any text whole before_is after_is whole_is =
    after_is ∙ ap (λ t. t ++ text) (before_is ∙ append_assoc into so_far (separated separator any))
    ∙ append_assoc into (so_far ++ separated separator any) text
    ∙ ap (λ t. into ++ t) (sym whole_is)

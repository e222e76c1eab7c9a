-- Texts with commas between them, one more text at a time.
use Rattle.std.proofs.Common.{◌≡◌, ℕ, Bool, true, false, zero, suc, ◌+◌, ◌<◌, List, [], ◌∷◌, ◌++◌, length, take, get_or, map, refl, ap, sym, ◌∙◌, append_assoc, arith}
use Rattle.std.specs.Prelude.{nat_lt, if◌then◌else◌}
use Rattle.std.proofs.lemmas.List.{take_more, map-append}
use Rattle.std.proofs.lemmas.Bool.{lt-ltb}
use Rattle.mlr_spec.specs.Json.{joined}

-- the comma before a text, if another text precedes it
abbrev pub comma : Bool → List ℕ
comma any = if any then 44 ∷ [] else []

abbrev are_any : {A : Type 0} → List A → Bool
are_any [] = false
are_any (x ∷ xs) = true

joined-push : (texts : List (List ℕ)) (text : List ℕ) → joined (44 ∷ []) (texts ++ text ∷ []) ≡ joined (44 ∷ []) texts ++ comma (are_any texts) ++ text
joined-push [] text = refl
joined-push (a ∷ []) text = refl
joined-push (a ∷ b ∷ texts) text =
    let prefix = a ++ 44 ∷ [] in
    let rest = joined (44 ∷ []) (b ∷ texts) in
    ap (λ x. prefix ++ x) (joined-push (b ∷ texts) text)
    ∙ sym (append_assoc prefix (rest ++ 44 ∷ []) text) ∙ ap (λ x. x ++ text) (sym (append_assoc prefix rest (44 ∷ [])))

any_before : {A : Type 0} (f : A → List ℕ) (n : ℕ) (xs : List A) → n < length xs → are_any (map f (take n xs)) ≡ nat_lt 0 n
any_before f n [] below = absurd (omega (arith, below))
any_before f zero (x ∷ xs) below = refl
any_before f (suc n) (x ∷ xs) below = sym (lt-ltb 0 (suc n) (omega arith))

-- one more text after those that were appended
pub put_more : {A : Type 0} (f : A → List ℕ) (xs : List A) (n : ℕ) (x : A) (old now marked later : List ℕ) → n < length xs → get_or xs n x ≡ x →
    now ≡ old ++ joined (44 ∷ []) (map f (take n xs)) → marked ≡ now ++ comma (nat_lt 0 n) → later ≡ marked ++ f x →
    later ≡ old ++ joined (44 ∷ []) (map f (take (n + 1) xs))
put_more f xs n x old now marked later below here now_is marked_is later_is =
    let texts = map f (take n xs) in
    let before = joined (44 ∷ []) texts in
    let between = comma (nat_lt 0 n) in
    let more : joined (44 ∷ []) (map f (take (n + 1) xs)) ≡ before ++ between ++ f x
    = ap (λ t. joined (44 ∷ []) (map f t)) (take_more xs n x below)
    ∙ ap (joined (44 ∷ [])) (map-append f (take n xs) (get_or xs n x ∷ []))
    ∙ joined-push texts (f (get_or xs n x))
    ∙ ap (λ any. before ++ comma any ++ f (get_or xs n x)) (any_before f n xs below)
    ∙ ap (λ y. before ++ between ++ f y) here in
    later_is ∙ ap (λ t. t ++ f x) (marked_is ∙ ap (λ t. t ++ between) now_is ∙ append_assoc old before between)
    ∙ append_assoc old (before ++ between) (f x)
    ∙ ap (λ t. old ++ t) (sym more)

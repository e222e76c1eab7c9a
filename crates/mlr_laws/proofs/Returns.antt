-- Lines without the CR at their end.
use Rattle.std.proofs.Common.{◌≡◌, ℕ, suc, ◌-◌, eqb, Bool, true, false, cond, not, List, [], ◌∷◌, ◌++◌, length, take, refl, ap, ◌∙◌, arith, slice_index}
use Rattle.std.proofs.lemmas.Bool.{and_parts, not-true}
use Rattle.mlr_lines.specs.Lines.{without_return}
use Rattle.mlr_laws.proofs.Bytes.{lacks}

-- a line of two bytes or more keeps its first
pub return-more : (b c : ℕ) (text : List ℕ) → without_return (b ∷ c ∷ text) ≡ b ∷ without_return (c ∷ text)
return-more b c text =
    let count : length (b ∷ c ∷ text) - 1 ≡ suc (length (c ∷ text) - 1) = omega arith in
    ap (λ n. cond (eqb (slice_index (b ∷ c ∷ text) n) 13) (take n (b ∷ c ∷ text)) (b ∷ c ∷ text)) count
    ∙ either (eqb (slice_index (c ∷ text) (length (c ∷ text) - 1)) 13) (take (length (c ∷ text) - 1) (c ∷ text)) (c ∷ text)
  where
    either : (t : Bool) (one other : List ℕ) → cond t (b ∷ one) (b ∷ other) ≡ b ∷ cond t one other
    either true one other = refl
    either false one other = refl

pub return-one : (b : ℕ) → eqb b 13 ≡ false → without_return (b ∷ []) ≡ b ∷ []
return-one b isnt = rw isnt refl

pub return-last : (b : ℕ) → eqb b 13 ≡ true → without_return (b ∷ []) ≡ []
return-last b is = rw is refl

-- a text without CR at its end, after another text
pub return-append : (text : List ℕ) (b : ℕ) (more : List ℕ) → without_return (text ++ b ∷ more) ≡ text ++ without_return (b ∷ more)
return-append [] b more = refl
return-append (a ∷ []) b more = return-more a b more
return-append (a ∷ c ∷ text) b more = return-more a c (text ++ b ∷ more) ∙ ap (λ t. a ∷ t) (return-append (c ∷ text) b more)

pub return-none : (text : List ℕ) → lacks 13 text ≡ true → without_return text ≡ text
return-none [] none = refl
return-none (b ∷ []) none = return-one b (not-true (eqb b 13) (and_parts (not (eqb b 13)) true none).0)
return-none (b ∷ c ∷ text) none = return-more b c text ∙ ap (λ t. b ∷ t) (return-none (c ∷ text) (and_parts (not (eqb b 13)) (lacks 13 (c ∷ text)) none).1)

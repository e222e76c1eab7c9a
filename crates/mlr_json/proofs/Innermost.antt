-- The innermost bracket, which is the last of the machine's frames.
use Rattle.std.proofs.Common.{◌≡◌, ℕ, zero, suc, ◌≤◌, List, [], ◌∷◌, ◌++◌, length, take, get_or, set, reverse, refl, ap, sym, subst, ◌∙◌, arith}
use Rattle.std.proofs.lemmas.List.{reverse-append}
use Rattle.mlr_json.specs.declared.frame.Frame.{Frame}
use Rattle.mlr_json.specs.declared.frame.Phase.{Phase}
use Rattle.mlr_json.specs.declared.machine.Machine.{Machine}
use Rattle.mlr_json.specs.declared.machine.Went.TheVariants.{On}
use Rattle.mlr_json.specs.Machine.{Step, on}
use Rattle.mlr_json.specs.Steps.{frames_of, IsStep}
use Rattle.mlr_json.proofs.Turned.{is-shallow}

module _ {A : Type 0} where
  split-last : (xs : List A) (i : ℕ) (x : A) → suc i ≡ length xs → x ≡ get_or xs i x → xs ≡ take i xs ++ x ∷ []
  split-last [] i x len is = absurd (omega arith)
  split-last (z ∷ []) zero x len is = ap (λ w. w ∷ []) (sym is)
  split-last (z ∷ w ∷ xs) zero x len is = absurd (omega arith)
  split-last (z ∷ xs) (suc i) x len is = ap (λ ws. z ∷ ws) (split-last xs i x (omega arith) is)

  set-last : (xs : List A) (i : ℕ) (y : A) → suc i ≡ length xs → set xs i y ≡ take i xs ++ y ∷ []
  set-last [] i y len = absurd (omega arith)
  set-last (z ∷ []) zero y len = refl
  set-last (z ∷ w ∷ xs) zero y len = absurd (omega arith)
  set-last (z ∷ xs) (suc i) y len = ap (λ ws. z ∷ ws) (set-last xs i y (omega arith))

  -- the rest stays where the last element is written
  pub record IsLast (xs : List A) (i : ℕ) (x y : A) : Type 0 where
    pub rest : List A
    pub old : reverse xs ≡ x ∷ rest
    pub new : reverse (set xs i y) ≡ y ∷ rest

  pub last-written : (xs : List A) (i : ℕ) (x y : A) → suc i ≡ length xs → x ≡ get_or xs i x → IsLast xs i x y
  last-written xs i x y len is = record {
    rest = reverse (take i xs);
    old = ap reverse (split-last xs i x len is) ∙ reverse-append (take i xs) (x ∷ []);
    new = ap reverse (set-last xs i y len) ∙ reverse-append (take i xs) (y ∷ []);
  }

-- a machine that is where the step leads
pub on-step : (step : Step) (frames : List Frame) (at : Phase) (machine : Machine) → step ≡ on frames at → frames_of machine ≡ frames → machine.phase ≡ at → IsStep step On machine
on-step step frames at machine is frames_are phase_is =
    subst (λ s. IsStep s On machine) (sym is)
    (record { frames_are = frames_are; phase_is = phase_is }, subst (λ f. length f ≤ 100) frames_are (is-shallow machine))

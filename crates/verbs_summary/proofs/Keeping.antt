-- What is kept for each name, some of which is changed already.
use Rattle.std.proofs.Common.{◌≡◌, ℕ, zero, suc, ◌≤◌, List, [], ◌∷◌, ◌++◌, set, length, Some, None, get_or, slice_get, refl, ap, subst, arith}
use Rattle.mlr_stats.specs.declared.summary.Summary.{Summary}
use Rattle.verbs_summary.specs.KeptOfGroup.{KeepsEach}

-- one more name with what is kept for it
pub keeps-push : (P : List ℕ → Summary → Type 0) (names : List (List ℕ)) (summaries : List Summary) (name : List ℕ) (summary : Summary) → KeepsEach P names summaries → P name summary
    → KeepsEach P (names ++ name ∷ []) (summaries ++ summary ∷ [])
keeps-push P [] [] name summary keeps last = (last, tt)
keeps-push P [] (first ∷ summaries) name summary keeps last = absurd keeps
keeps-push P (other ∷ names) [] name summary keeps last = absurd keeps
keeps-push P (other ∷ names) (first ∷ summaries) name summary keeps last = (keeps.0, keeps-push P names summaries name summary keeps.1 last)

-- what is kept at the place of a name
pub keeps-at : (P : List ℕ → Summary → Type 0) (names : List (List ℕ)) (summaries : List Summary) → KeepsEach P names summaries → (i : ℕ) (name : List ℕ) → slice_get names i ≡ Some name
    → (summary : Summary) × (slice_get summaries i ≡ Some summary) × P name summary
keeps-at P [] summaries keeps i name at = absurd (let e : None ≡ Some name = at in cc)
keeps-at P (first ∷ names) [] keeps i name at = absurd keeps
keeps-at P (first ∷ names) (summary ∷ summaries) keeps zero name at = let e : first ≡ name = cc in (summary, refl, subst (λ n. P n summary) e keeps.0)
keeps-at P (first ∷ names) (summary ∷ summaries) keeps (suc i) name at = keeps-at P names summaries keeps.1 i name at

pub keeps-many : (P : List ℕ → Summary → Type 0) (names : List (List ℕ)) (summaries : List Summary) → KeepsEach P names summaries → length summaries ≡ length names
keeps-many P [] [] keeps = refl
keeps-many P [] (summary ∷ summaries) keeps = absurd keeps
keeps-many P (name ∷ names) [] keeps = absurd keeps
keeps-many P (name ∷ names) (summary ∷ summaries) keeps = ap suc (keeps-many P names summaries keeps.1)

module _ (P Q : List ℕ → Summary → Type 0) where
  -- what is kept for the first names is changed
  abbrev pub Partly : ℕ → List (List ℕ) → List Summary → Type 0
  Partly zero names summaries = KeepsEach P names summaries
  Partly (suc i) [] [] = Unit {0}
  Partly (suc i) [] (summary ∷ summaries) = ⊥
  Partly (suc i) (name ∷ names) [] = ⊥
  Partly (suc i) (name ∷ names) (summary ∷ summaries) = Q name summary × Partly i names summaries

  pub partly-many : (i : ℕ) (names : List (List ℕ)) (summaries : List Summary) → Partly i names summaries → length summaries ≡ length names
  partly-many zero names summaries partly = keeps-many P names summaries partly
  partly-many (suc i) [] [] partly = refl
  partly-many (suc i) [] (summary ∷ summaries) partly = absurd partly
  partly-many (suc i) (name ∷ names) [] partly = absurd partly
  partly-many (suc i) (name ∷ names) (summary ∷ summaries) partly = ap suc (partly-many i names summaries partly.1)

  pub partly-at : (i : ℕ) (names : List (List ℕ)) (summaries : List Summary) → Partly i names summaries → (name : List ℕ) → slice_get names i ≡ Some name → (default : Summary) → P name (get_or summaries i default)
  partly-at zero [] summaries partly name at default = absurd (let e : None ≡ Some name = at in cc)
  partly-at zero (first ∷ names) [] partly name at default = absurd partly
  partly-at zero (first ∷ names) (summary ∷ summaries) partly name at default = let e : first ≡ name = cc in subst (λ n. P n summary) e partly.0
  partly-at (suc i) [] summaries partly name at default = absurd (let e : None ≡ Some name = at in cc)
  partly-at (suc i) (first ∷ names) [] partly name at default = absurd partly
  partly-at (suc i) (first ∷ names) (summary ∷ summaries) partly name at default = partly-at i names summaries partly.1 name at default

  pub partly-set : (i : ℕ) (names : List (List ℕ)) (summaries : List Summary) → Partly i names summaries → (name : List ℕ) → slice_get names i ≡ Some name → (summary : Summary) → Q name summary → Partly (suc i) names (set summaries i summary)
  partly-set zero [] summaries partly name at summary is = absurd (let e : None ≡ Some name = at in cc)
  partly-set zero (first ∷ names) [] partly name at summary is = absurd partly
  partly-set zero (first ∷ names) (old ∷ summaries) partly name at summary is = let e : name ≡ first = cc in (subst (λ n. Q n summary) e is, partly.1)
  partly-set (suc i) [] summaries partly name at summary is = absurd (let e : None ≡ Some name = at in cc)
  partly-set (suc i) (first ∷ names) [] partly name at summary is = absurd partly
  partly-set (suc i) (first ∷ names) (old ∷ summaries) partly name at summary is = (partly.0, partly-set i names summaries partly.1 name at summary is)

  pub partly-all : (i : ℕ) (names : List (List ℕ)) (summaries : List Summary) → Partly i names summaries → length names ≤ i → KeepsEach Q names summaries
  partly-all i [] [] partly all = tt
  partly-all zero [] (summary ∷ summaries) partly all = absurd partly
  partly-all (suc i) [] (summary ∷ summaries) partly all = absurd partly
  partly-all zero (name ∷ names) summaries partly all = absurd (omega (arith, all))
  partly-all (suc i) (name ∷ names) [] partly all = absurd partly
  partly-all (suc i) (name ∷ names) (summary ∷ summaries) partly all = (partly.0, partly-all i names summaries partly.1 (omega (arith, all)))

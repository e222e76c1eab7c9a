-- Runs of equal keys, and one record more.
use Rattle.std.proofs.Common.{◌≡◌, ℕ, Bool, true, false, if◌then◌else◌, List, [], ◌∷◌, ◌++◌, refl, ap, ap₂, sym, ◌∙◌}
use Rattle.std.specs.Str.{bytes_eq}
use Rattle.std.proofs.lemmas.Bool.{and_parts, true≢false}
use Rattle.std.proofs.lemmas.Slice.Eq.{bytes_eq-Decides}
use Rattle.mlr_spec.specs.Tree.{Tree}
use Rattle.writers.specs.declared.form.Part.TheVariants.{Keys}
use Rattle.writers.specs.Before.{any_filled, last_or}
use Rattle.writers.specs.Cells.{texts, same_texts}
use Rattle.writers.specs.Joined.{are_any}
use Rattle.writers.specs.Runs.{Record, all_but_last, filled, runs_of, with_first}

-- equal texts in equal order are equal lists
pub same_texts-is : (xs ys : List (List ℕ)) → same_texts xs ys ≡ true → xs ≡ ys
same_texts-is [] [] same = refl
same_texts-is [] (y ∷ ys) same = absurd (true≢false (sym same))
same_texts-is (x ∷ xs) [] same = absurd (true≢false (sym same))
same_texts-is (x ∷ xs) (y ∷ ys) same =
    let parts = and_parts (bytes_eq x y) (same_texts xs ys) same in
    ap₂ (λ text more. text ∷ more) ((bytes_eq-Decides x y).0 parts.0) (same_texts-is xs ys parts.1)

-- a record before runs is the first of a run
abbrev Begins : Record → List (List Record) → Type 0
Begins r runs = (run : List Record) × (more : List (List Record)) × (runs ≡ (r ∷ run) ∷ more)

first-begins : (r : Record) (runs : List (List Record)) → Begins r (with_first r runs)
first-begins r [] = ([], [], refl)
first-begins r ([] ∷ runs) = ([], [] ∷ runs, refl)
first-begins r ((next ∷ run) ∷ runs) = by (same_texts (texts Keys r) (texts Keys next))
  where
    by : (same : Bool) → Begins r (if same then (r ∷ next ∷ run) ∷ runs else (r ∷ []) ∷ (next ∷ run) ∷ runs)
    by true = (next ∷ run, runs, refl)
    by false = ([], (next ∷ run) ∷ runs, refl)

keys-any : (r : Record) → are_any (texts Keys r) ≡ are_any r
keys-any [] = refl
keys-any (field ∷ r) = refl

-- a record with the keys of one with fields has fields
pub same-any : (r : Record) (field : List ℕ × Tree) (others : Record) → same_texts (texts Keys r) (texts Keys (field ∷ others)) ≡ true → are_any r ≡ true
same-any r field others same = sym (keys-any r) ∙ ap are_any (same_texts-is (texts Keys r) (texts Keys (field ∷ others)) same)

-- records are one run at least
abbrev SomeRuns : List (List Record) → Type 0
SomeRuns runs = (run : List Record) × (more : List (List Record)) × (runs ≡ run ∷ more)

some-runs : (r : Record) (rs : List Record) → SomeRuns (runs_of (r ∷ rs))
some-runs [] rs = ([], runs_of rs, refl)
some-runs (field ∷ r) rs = let begins = first-begins (field ∷ r) (runs_of rs) in ((field ∷ r) ∷ begins.0, begins.1, begins.2)

-- a run has records where a record has fields
pub runs-filled : (rs : List Record) → are_any (filled (runs_of rs)) ≡ any_filled rs
runs-filled [] = refl
runs-filled ([] ∷ rs) = runs-filled rs
runs-filled ((field ∷ r) ∷ rs) = ap (λ runs. are_any (filled runs)) (first-begins (field ∷ r) (runs_of rs)).2

-- a record before the first run, whose keys it has or not
abbrev joined_first : Bool → Record → Record → List Record → List (List Record) → List (List Record)
joined_first joins r next run more = if joins then (r ∷ next ∷ run) ∷ more else (r ∷ []) ∷ (next ∷ run) ∷ more

-- the last run has records if the last record has fields
first-any : (r : Record) (run : List Record) (more : List (List Record)) → are_any (last_or [] (with_first r (run ∷ more))) ≡ are_any (last_or run more)
first-any r [] more = refl
first-any r (next ∷ run) more = by (same_texts (texts Keys r) (texts Keys next)) more
  where
    by : (same : Bool) (more : List (List Record))
        → are_any (last_or [] (joined_first same r next run more)) ≡ are_any (last_or (next ∷ run) more)
    by true [] = refl
    by true (other ∷ more) = refl
    by false more = refl

pub last_run-any : (rs : List Record) → are_any (last_or [] (runs_of rs)) ≡ are_any (last_or [] rs)
last_run-any [] = refl
last_run-any ([] ∷ rs) = last_run-any rs
last_run-any ((field ∷ r) ∷ []) = refl
last_run-any ((field ∷ r) ∷ next ∷ rs) =
    let some = some-runs next rs in
    ap (λ runs. are_any (last_or [] (with_first (field ∷ r) runs))) some.2
    ∙ first-any (field ∷ r) some.0 some.1
    ∙ ap (λ runs. are_any (last_or [] runs)) (sym some.2)
    ∙ last_run-any (next ∷ rs)

-- a record without fields at the end
first-empty : (r : Record) (runs : List (List Record)) → with_first r (runs ++ [] ∷ []) ≡ with_first r runs ++ [] ∷ []
first-empty r [] = refl
first-empty r ([] ∷ runs) = refl
first-empty r ((next ∷ run) ∷ runs) = by (same_texts (texts Keys r) (texts Keys next))
  where
    by : (same : Bool) → joined_first same r next run (runs ++ [] ∷ []) ≡ joined_first same r next run runs ++ [] ∷ []
    by true = refl
    by false = refl

pub runs-empty : (rs : List Record) → runs_of (rs ++ [] ∷ []) ≡ runs_of rs ++ [] ∷ []
runs-empty [] = refl
runs-empty ([] ∷ rs) = ap (λ runs. [] ∷ runs) (runs-empty rs)
runs-empty ((field ∷ r) ∷ rs) = ap (with_first (field ∷ r)) (runs-empty rs) ∙ first-empty (field ∷ r) (runs_of rs)

-- a record with fields at the end joins the last run, or begins another
module _ (field : List ℕ × Tree) (others : Record) where
  abbrev this : Record
  this = field ∷ others

  -- one record more in a run that has records, and in the last run
  abbrev with_this : List Record → List Record
  with_this [] = []
  with_this (first ∷ run) = first ∷ run ++ this ∷ []

  abbrev last_with : List (List Record) → List (List Record)
  last_with [] = []
  last_with (run ∷ []) = with_this run ∷ []
  last_with (run ∷ next ∷ runs) = run ∷ last_with (next ∷ runs)

  -- one record more, which joins the last run or begins another
  abbrev grown : Bool → List (List Record) → List (List Record)
  grown same runs = if same then last_with runs else runs ++ (this ∷ []) ∷ []

  empty-grown : (same : Bool) (runs : List (List Record)) → [] ∷ grown same runs ≡ grown same ([] ∷ runs)
  empty-grown true [] = refl
  empty-grown true (run ∷ runs) = refl
  empty-grown false runs = refl

  first-grown : (same : Bool) (r : Record) (run : List Record) (more : List (List Record)) → with_first r (grown same (run ∷ more)) ≡ grown same (with_first r (run ∷ more))
  first-grown true r [] [] = refl
  first-grown true r [] (next ∷ more) = refl
  first-grown false r [] more = refl
  first-grown true r (next ∷ run) [] = by (same_texts (texts Keys r) (texts Keys next))
    where
      by : (joins : Bool) → joined_first joins r next (run ++ this ∷ []) [] ≡ last_with (joined_first joins r next run [])
      by true = refl
      by false = refl
  first-grown true r (next ∷ run) (other ∷ more) = by (same_texts (texts Keys r) (texts Keys next))
    where
      by : (joins : Bool) → joined_first joins r next run (last_with (other ∷ more)) ≡ last_with (joined_first joins r next run (other ∷ more))
      by true = refl
      by false = refl
  first-grown false r (next ∷ run) more = by (same_texts (texts Keys r) (texts Keys next))
    where
      by : (joins : Bool) → joined_first joins r next run (more ++ (this ∷ []) ∷ []) ≡ joined_first joins r next run more ++ (this ∷ []) ∷ []
      by true = refl
      by false = refl

  runs-grown : (rs : List Record) → runs_of (rs ++ this ∷ []) ≡ grown (same_texts (texts Keys (last_or [] rs)) (texts Keys this)) (runs_of rs)
  runs-grown [] = refl
  runs-grown ([] ∷ rs) = ap (λ runs. [] ∷ runs) (runs-grown rs) ∙ empty-grown (same_texts (texts Keys (last_or [] rs)) (texts Keys this)) (runs_of rs)
  runs-grown ((key ∷ r) ∷ []) = by (same_texts (texts Keys (key ∷ r)) (texts Keys this))
    where
      by : (same : Bool) → (if same then ((key ∷ r) ∷ this ∷ []) ∷ [] else ((key ∷ r) ∷ []) ∷ (this ∷ []) ∷ []) ≡ grown same (((key ∷ r) ∷ []) ∷ [])
      by true = refl
      by false = refl
  runs-grown ((key ∷ r) ∷ next ∷ rs) =
      let same = same_texts (texts Keys (last_or [] (next ∷ rs))) (texts Keys this) in
      let some = some-runs next rs in
      ap (with_first (key ∷ r)) (runs-grown (next ∷ rs) ∙ ap (grown same) some.2)
      ∙ first-grown same (key ∷ r) some.0 some.1
      ∙ ap (λ runs. grown same (with_first (key ∷ r) runs)) (sym some.2)

  -- runs are those before the last run, and that run
  last-with : (runs : List (List Record)) → are_any (last_or [] runs) ≡ true → last_with runs ≡ all_but_last runs ++ (last_or [] runs ++ this ∷ []) ∷ []
  last-with [] some = absurd (true≢false (sym some))
  last-with ([] ∷ []) some = absurd (true≢false (sym some))
  last-with ((first ∷ run) ∷ []) some = refl
  last-with (run ∷ next ∷ runs) some = ap (λ t. run ∷ t) (last-with (next ∷ runs) some)

  module _ (rs : List Record) where
    pub last_run-joined : same_texts (texts Keys (last_or [] rs)) (texts Keys this) ≡ true → are_any (last_or [] (runs_of rs)) ≡ true
    last_run-joined same = last_run-any rs ∙ same-any (last_or [] rs) field others same

    pub runs-join : same_texts (texts Keys (last_or [] rs)) (texts Keys this) ≡ true
        → runs_of (rs ++ this ∷ []) ≡ all_but_last (runs_of rs) ++ (last_or [] (runs_of rs) ++ this ∷ []) ∷ []
    runs-join same = runs-grown rs ∙ ap (λ t. grown t (runs_of rs)) same ∙ last-with (runs_of rs) (last_run-joined same)

    pub runs-begin : same_texts (texts Keys (last_or [] rs)) (texts Keys this) ≡ false → runs_of (rs ++ this ∷ []) ≡ runs_of rs ++ (this ∷ []) ∷ []
    runs-begin other = runs-grown rs ∙ ap (λ t. grown t (runs_of rs)) other

-- PPRINT: records are blocks of runs, and the last run is held back.
use Rattle.std.proofs.Common.{◌≡◌, ℕ, Bool, true, false, not, if◌then◌else◌, List, [], ◌∷◌, ◌++◌, refl, ap, sym, ◌∙◌}
use Rattle.std.proofs.lemmas.List.{append-nil}
use Rattle.writers.specs.declared.form.Part.TheVariants.{Keys}
use Rattle.writers.specs.declared.options.WriteOpts.{WriteOpts}
use Rattle.writers.specs.Before.{last_or}
use Rattle.writers.specs.Cells.{texts, same_texts}
use Rattle.writers.specs.Joined.{are_any, separated}
use Rattle.writers.specs.Pprint.{block, block_end, pprint_record}
use Rattle.writers.specs.Runs.{Record, all_but_last, filled, runs_of, tables}
use Rattle.writers.proofs.Lasts.{but_last-append, but_last-last}
use Rattle.writers.proofs.Runs.{last_run-any, runs-begin, runs-empty, runs-join}
use Rattle.writers.proofs.Separated.{tables-append}

-- a list of lists is those before its last, and its last if that holds something
tables-last : {A : Type 0} (table : List A → List ℕ) (lists : List (List A))
    → tables table (all_but_last lists) ++ (if are_any (last_or [] lists) then separated (10 ∷ []) (are_any (filled (all_but_last lists))) ++ table (last_or [] lists) else []) ≡ tables table lists
tables-last table [] = refl
tables-last table (list ∷ lists) = sym (tables-append table (all_but_last (list ∷ lists)) (last_or list lists)) ∙ ap (tables table) (but_last-last list lists)

module _ (opts : WriteOpts) where
  -- what is written before the end
  abbrev pub held : List Record → List ℕ
  held rs = tables (block opts) (all_but_last (runs_of rs))

  pub ends : (rs : List Record) → held rs ++ block_end opts rs ≡ tables (block opts) (runs_of rs)
  ends rs = tables-last (block opts) (runs_of rs)

  -- where the last record has no fields, no run is open
  pub ends-empty : (rs : List Record) → block_end opts rs ≡ pprint_record opts rs []
  ends-empty rs = by (last_or [] rs) (last_run-any rs)
    where
      by : (r : Record) → are_any (last_or [] (runs_of rs)) ≡ are_any r → block_end opts rs ≡ (if not (same_texts (texts Keys r) []) then block_end opts rs else [])
      by [] none = ap (λ any. if any then separated (10 ∷ []) (are_any (filled (all_but_last (runs_of rs)))) ++ block opts (last_or [] (runs_of rs)) else []) none
      by (field ∷ r) some = refl

  -- a record that begins another run
  held-begun : (before : List Record) (r : Record) (run : List Record) → runs_of (before ++ r ∷ []) ≡ runs_of before ++ run ∷ [] → held (before ++ r ∷ []) ≡ held before ++ block_end opts before
  held-begun before r run are =
      ap (λ runs. tables (block opts) (all_but_last runs)) are
      ∙ ap (tables (block opts)) (but_last-append run (runs_of before))
      ∙ sym (ends before)

  pub held-grows : (before : List Record) (r : Record) → held (before ++ r ∷ []) ≡ held before ++ pprint_record opts before r
  held-grows before [] = held-begun before [] [] (runs-empty before) ∙ ap (λ t. held before ++ t) (ends-empty before)
  held-grows before (field ∷ others) = by (same_texts (texts Keys (last_or [] before)) (texts Keys (field ∷ others))) refl
    where
      by : (same : Bool) → same_texts (texts Keys (last_or [] before)) (texts Keys (field ∷ others)) ≡ same
          → held (before ++ (field ∷ others) ∷ []) ≡ held before ++ (if not same then block_end opts before else [])
      by true same =
          let run = last_or [] (runs_of before) ++ (field ∷ others) ∷ [] in
          ap (λ runs. tables (block opts) (all_but_last runs)) (runs-join field others before same)
          ∙ ap (tables (block opts)) (but_last-append run (all_but_last (runs_of before)))
          ∙ sym (append-nil (held before))
      by false other = held-begun before (field ∷ others) ((field ∷ others) ∷ []) (runs-begin field others before other)

-- What a writer knows after records is what they come to.
use Rattle.std.proofs.Common.{◌≡◌, ℕ, Bool, true, false, true≢false, ◌||◌, if◌then◌else◌, List, [], ◌∷◌, ◌++◌, refl, ap, ap₂, sym, ◌∙◌}
use Rattle.std.proofs.Math.Bool.{or-false, or-true}
use Rattle.std.proofs.lemmas.List.{map-append}
use Rattle.mlr_event.specs.declared.options.Format.{Format}
use Rattle.mlr_event.specs.declared.options.Format.TheVariants.{Csv, Tsv, Json, Jsonl, Dkvp, Nidx, Xtab, Pprint, Markdown}
use Rattle.writers.specs.declared.form.Part.TheVariants.{Keys, Values}
use Rattle.writers.specs.Before.{any_filled, last_or}
use Rattle.writers.specs.Cells.{same_texts, texts}
use Rattle.writers.specs.Joined.{are_any}
use Rattle.writers.specs.Pprint.{lines_of}
use Rattle.writers.specs.Running.{Run, block_ended, headed_after, pprint_after, with_row, xtab_after}
use Rattle.writers.specs.Runs.{Record, all_but_last, filled, runs_of}
use Rattle.writers.proofs.Lasts.{any_filled-append, any_filled-last, but_last-append, filled-last, last-append}
use Rattle.writers.proofs.Runs.{last_run-joined, runs-begin, runs-empty, runs-join, same-any, same_texts-is}

-- what the records before come to in each format
abbrev any_known : Format → List Record → Bool
any_known Csv rs = any_filled rs
any_known Tsv rs = any_filled rs
any_known Json rs = are_any rs
any_known Jsonl rs = false
any_known Dkvp rs = false
any_known Nidx rs = false
any_known Xtab rs = any_filled rs
any_known Pprint rs = are_any (filled (all_but_last (runs_of rs)))
any_known Markdown rs = any_filled rs

abbrev keys_known : Format → List Record → List (List ℕ)
keys_known Csv rs = texts Keys (last_or [] rs)
keys_known Tsv rs = texts Keys (last_or [] rs)
keys_known Json rs = []
keys_known Jsonl rs = []
keys_known Dkvp rs = []
keys_known Nidx rs = []
keys_known Xtab rs = []
keys_known Pprint rs = texts Keys (last_or [] rs)
keys_known Markdown rs = texts Keys (last_or [] rs)

abbrev lines_known : Format → List Record → List (List (List ℕ))
lines_known Pprint rs = lines_of (last_or [] (runs_of rs))
lines_known _ rs = []

-- what a writer knows by them, and whether a line end is missing
abbrev pub known : Format → Bool → List Record → Run
known f mid rs = record { any = any_known f rs; mid = mid; keys = keys_known f rs; lines = lines_known f rs }

-- rows under headers
abbrev headed_run : Bool → Bool → List (List ℕ) → Run
headed_run mid any keys = record { any = any; mid = mid; keys = keys; lines = [] }

pub headed-step : (mid : Bool) (rs : List Record) (r : Record) → headed_after (known Csv mid rs) r ≡ known Csv mid (rs ++ r ∷ [])
headed-step mid rs [] = ap₂ (headed_run mid) (sym (any_filled-append rs [] ∙ or-false (any_filled rs))) (sym (ap (texts Keys) (last-append [] [] rs)))
headed-step mid rs (field ∷ r) = by (same_texts (texts Keys (last_or [] rs)) (texts Keys (field ∷ r))) refl
  where
    any_is : any_filled (rs ++ (field ∷ r) ∷ []) ≡ true
    any_is = any_filled-append rs (field ∷ r) ∙ or-true (any_filled rs)

    keys_are : texts Keys (last_or [] (rs ++ (field ∷ r) ∷ [])) ≡ texts Keys (field ∷ r)
    keys_are = ap (texts Keys) (last-append [] (field ∷ r) rs)

    by : (same : Bool) → same_texts (texts Keys (last_or [] rs)) (texts Keys (field ∷ r)) ≡ same
        → (let later : Run = if same then known Csv mid rs else record (known Csv mid rs) { any = true; keys = texts Keys (field ∷ r) } in later) ≡ known Csv mid (rs ++ (field ∷ r) ∷ [])
    by true same =
        ap₂ (headed_run mid) (any_filled-last rs (same-any (last_or [] rs) field r same) ∙ sym any_is)
        (same_texts-is (texts Keys (last_or [] rs)) (texts Keys (field ∷ r)) same ∙ sym keys_are)
    by false other = ap₂ (headed_run mid) (sym any_is) (sym keys_are)

pub xtab-step : (mid : Bool) (rs : List Record) (r : Record) → xtab_after (known Xtab mid rs) r ≡ known Xtab mid (rs ++ r ∷ [])
xtab-step mid rs [] = ap (λ any. headed_run mid any []) (sym (any_filled-append rs [] ∙ or-false (any_filled rs)))
xtab-step mid rs (field ∷ r) = ap (λ any. headed_run mid any []) (sym (any_filled-append rs (field ∷ r) ∙ or-true (any_filled rs)))

-- blocks
lines-any : (run : List Record) → are_any (lines_of run) ≡ are_any run
lines-any [] = refl
lines-any (first ∷ run) = refl

lines-append : (run : List Record) (r : Record) → are_any run ≡ true → lines_of (run ++ r ∷ []) ≡ lines_of run ++ texts Values r ∷ []
lines-append [] r some = absurd (true≢false (sym some))
lines-append (first ∷ run) r some = ap (λ t. texts Keys first ∷ t) (map-append (texts Values) (first ∷ run) (r ∷ []))

-- a run of its own at the end
block-begun : (mid : Bool) (rs : List Record) (r : Record) (run : List Record) → runs_of (rs ++ r ∷ []) ≡ runs_of rs ++ run ∷ []
    → record (block_ended (known Pprint mid rs)) { keys = texts Keys r; lines = lines_of run } ≡ known Pprint mid (rs ++ r ∷ [])
block-begun mid rs r run are =
    let runs = runs_of rs in
    let any_is : (are_any (filled (all_but_last runs)) || are_any (lines_of (last_or [] runs))) ≡ are_any (filled (all_but_last (runs_of (rs ++ r ∷ [])))) =
    ap (λ any. are_any (filled (all_but_last runs)) || any) (lines-any (last_or [] runs))
    ∙ sym (filled-last runs)
    ∙ ap (λ t. are_any (filled t)) (sym (but_last-append run runs))
    ∙ ap (λ t. are_any (filled (all_but_last t))) (sym are) in
    let lines_are : lines_of run ≡ lines_of (last_or [] (runs_of (rs ++ r ∷ []))) =
    ap lines_of (sym (last-append [] run runs)) ∙ ap (λ t. lines_of (last_or [] t)) (sym are) in
    ap₂ (λ any lines. record { any = any; mid = mid; keys = texts Keys r; lines = lines }) any_is lines_are
    ∙ ap (λ keys. record (known Pprint mid (rs ++ r ∷ [])) { keys = keys }) (sym (ap (texts Keys) (last-append [] r rs)))

-- the block that a record joins
abbrev open_for : Bool → List Record → Record → Bool → Run
open_for mid rs r same = if same then known Pprint mid rs else record (block_ended (known Pprint mid rs)) { keys = texts Keys r; lines = texts Keys r ∷ [] }

pub pprint-step : (mid : Bool) (rs : List Record) (r : Record) → pprint_after (known Pprint mid rs) r ≡ known Pprint mid (rs ++ r ∷ [])
pprint-step mid rs [] = block-begun mid rs [] [] (runs-empty rs)
pprint-step mid rs (field ∷ others) = by (same_texts (texts Keys (last_or [] rs)) (texts Keys (field ∷ others))) refl
  where
    by : (same : Bool) → same_texts (texts Keys (last_or [] rs)) (texts Keys (field ∷ others)) ≡ same
        → with_row (open_for mid rs (field ∷ others) same) (field ∷ others) ≡ known Pprint mid (rs ++ (field ∷ others) ∷ [])
    by true same =
        let r : Record = field ∷ others in
        let runs = runs_of rs in
        let are = runs-join field others rs same in
        let any_is : are_any (filled (all_but_last runs)) ≡ are_any (filled (all_but_last (runs_of (rs ++ r ∷ [])))) =
        sym (ap (λ t. are_any (filled (all_but_last t))) are ∙ ap (λ t. are_any (filled t)) (but_last-append (last_or [] runs ++ r ∷ []) (all_but_last runs))) in
        let lines_are : lines_of (last_or [] runs) ++ texts Values r ∷ [] ≡ lines_of (last_or [] (runs_of (rs ++ r ∷ []))) =
        sym (lines-append (last_or [] runs) r (last_run-joined field others rs same))
        ∙ ap lines_of (sym (last-append [] (last_or [] runs ++ r ∷ []) (all_but_last runs)))
        ∙ ap (λ t. lines_of (last_or [] t)) (sym are) in
        ap₂ (λ any lines. record { any = any; mid = mid; keys = texts Keys (last_or [] rs); lines = lines }) any_is lines_are
        ∙ ap (λ keys. record (known Pprint mid (rs ++ r ∷ [])) { keys = keys })
        (same_texts-is (texts Keys (last_or [] rs)) (texts Keys r) same ∙ sym (ap (texts Keys) (last-append [] r rs)))
    by false other = block-begun mid rs (field ∷ others) ((field ∷ others) ∷ []) (runs-begin field others rs other)

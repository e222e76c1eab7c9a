-- JSON Lines, DKVP, NIDX and XTAB: records are written one by one.
use Rattle.std.proofs.Common.{◌≡◌, ℕ, List, [], ◌∷◌, ◌++◌, ap, sym, ◌∙◌}
use Rattle.std.specs.List.{flat_map}
use Rattle.std.proofs.lemmas.Grind.{flat_map-append}
use Rattle.std.proofs.lemmas.List.{append-nil}
use Rattle.text_columns.specs.Xtab.{xtab_lines}
use Rattle.writers.specs.Joined.{separated}
use Rattle.writers.specs.Runs.{Record, tables}
use Rattle.writers.specs.Xtab.{xtab_record}
use Rattle.writers.proofs.Lasts.{any_filled-is}
use Rattle.writers.proofs.Separated.{tables-append}

-- each record by itself
pub lines-grow : (line : Record → List ℕ) (before : List Record) (r : Record) → flat_map line (before ++ r ∷ []) ≡ flat_map line before ++ line r
lines-grow line before r = flat_map-append line before (r ∷ []) ∙ ap (λ t. flat_map line before ++ t) (append-nil (line r))

pub xtab-grows : (before : List Record) (r : Record) → tables xtab_lines (before ++ r ∷ []) ≡ tables xtab_lines before ++ xtab_record before r
xtab-grows before [] = tables-append xtab_lines before []
xtab-grows before (field ∷ r) =
    tables-append xtab_lines before (field ∷ r)
    ∙ ap (λ any. tables xtab_lines before ++ (separated (10 ∷ []) any ++ xtab_lines (field ∷ r))) (sym (any_filled-is before))

-- XTAB: the lines of each record, with an empty line between records.
use Rattle.std.specs.Prelude.{ℕ, List, ◌++◌}
use Rattle.text_columns.specs.Xtab.{xtab_lines}
use Rattle.writers.specs.Headed.{gap, unless_empty}
use Rattle.writers.specs.Runs.{Record}

-- what a record gives after the records before it
abbrev pub xtab_record : List Record → Record → List ℕ
xtab_record before r = unless_empty r (gap before ++ xtab_lines r)

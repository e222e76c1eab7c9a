-- The inputs of a command line.
use Rattle.std.specs.Prelude.{Bool, true, false, ℕ, List, [], ◌∷◌, map, filter, Some, None}
use Rattle.mlr_event.specs.declared.names.InputName.{InputName}
use Rattle.mlr_event.specs.declared.names.InputName.TheVariants.{Stdin, File}
use Rattle.cli_grammar.specs.declared.flag_table.Setting.{Setting}
use Rattle.cli_grammar.specs.declared.flag_table.Setting.TheVariants as set
use Rattle.cli_grammar.specs.declared.given.Given.{Given}
use Rattle.cli_plan.specs.Flags.{setting_of, word_of}

abbrev pub is_from_setting : Setting → Bool
is_from_setting set.From = true
is_from_setting _ = false

-- whether a flag gives an input
abbrev pub is_from : Given → Bool
is_from flag = elim (setting_of flag) [ Some setting ↦ is_from_setting setting | None ↦ false ]

-- the file that a flag names
abbrev pub file_of : Given → InputName
file_of flag = File (word_of flag)

-- these inputs, or the others where there are none
abbrev pub or_else : List InputName → List InputName → List InputName
or_else [] others = others
or_else (input ∷ inputs) others = input ∷ inputs

-- The inputs in their order: the file names after the verbs, or else those that flags give, or else standard input.
abbrev pub inputs_in : List Given → List (List ℕ) → List InputName
inputs_in flags names = or_else (map File names) (or_else (map file_of (filter is_from flags)) (Stdin ∷ []))

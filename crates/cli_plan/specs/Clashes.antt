-- Flags that clash with a format.
use Rattle.std.specs.Prelude.{ℕ, Bool, true, false, if◌then◌else◌, List, [], ◌∷◌, Option, Some, None}
use Rattle.writers.specs.Style.{is_nested}
use Rattle.cli_grammar.specs.declared.flag_table.Setting.{Setting}
use Rattle.cli_grammar.specs.declared.flag_table.Setting.TheVariants as set
use Rattle.cli_grammar.specs.declared.given.Given.{Given}
use Rattle.cli_plan.specs.Flags.{setting_of}
use Rattle.cli_plan.specs.declared.settings.Settings.{Settings}

abbrev pub is_comment_setting : Setting → Bool
is_comment_setting set.Skip = true
is_comment_setting set.Pass = true
is_comment_setting set.SkipWith = true
is_comment_setting set.PassWith = true
is_comment_setting _ = false

-- whether a flag sets what becomes of comments
abbrev pub sets_comments : Given → Bool
sets_comments flag = elim (setting_of flag) [ Some setting ↦ is_comment_setting setting | None ↦ false ]

-- the number of the first flag that sets what becomes of comments
abbrev pub first_comment : List Given → Option ℕ
first_comment [] = None
first_comment (flag ∷ flags) = if sets_comments flag then Some flag.number else first_comment flags

-- the number of the flag that clashes with the format of the input: JSON and JSON Lines have no comments
abbrev pub comment_clash : List Given → Settings → Option ℕ
comment_clash flags settings = if is_nested settings.input then first_comment flags else None

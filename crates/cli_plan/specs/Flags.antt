-- Flags of a command line: what each sets, and by which word.
use Rattle.std.specs.Prelude.{ℕ, List, [], Option, Some, None}
use Rattle.cli_grammar.specs.declared.kind.Kind.{Kind}
use Rattle.cli_grammar.specs.declared.flag_table.Setting.{Setting}
use Rattle.cli_grammar.specs.declared.given.Given.{Given}
use Rattle.cli_grammar.specs.Flags.{flag_named}

-- the word after a flag; the empty word where there is none
abbrev pub word_of : Given → List ℕ
word_of flag = elim flag.argument [ Some word ↦ word | None ↦ [] ]

-- what a row of the flags sets
abbrev pub sets_of : Option (Kind × Setting) → Option Setting
sets_of None = None
sets_of (Some row) = Some row.1

-- what a flag sets; nothing if its name is no flag
unfoldable pub setting_of : Given → Option Setting
setting_of flag = sets_of (flag_named flag.name)

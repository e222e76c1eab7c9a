-- Which texts are patterns, and the options with which they are compiled.
use Rattle.std.specs.Prelude.{ℕ, Bool, false, List, IsUtf8}
use Rattle.regex.specs.Patterns.{Config, default_config}
use Rattle.regex.specs.Failures.{IsPattern}

-- the options of `regex` over bytes; with `either_case` the case of letters is ignored
abbrev pub options : Bool → Config
options either_case = record default_config { utf8 = false; flags = record default_config.flags { case_insensitive = either_case } }

-- `regex` accepts the text as a pattern that isn't nested too deep
abbrev pub IsPatternText : Bool → List ℕ → Type 0
IsPatternText either_case text = IsUtf8 text × IsPattern (options either_case) text

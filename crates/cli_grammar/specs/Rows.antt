-- Rows of the tables of flags and verbs.
use Rattle.std.specs.Prelude.{ℕ, Bool, List}
use Rattle.cli_grammar.specs.declared.kind.Kind.{Kind}

-- A verb: its name, its options, each with the kind of the word after it, groups of options of which at most one may be
-- given, each with whether one must be, and the kinds of the verb's own words.
pub record VerbRow : Type 0 where
  pub name : List ℕ
  pub options : List (List ℕ × Kind)
  pub groups : List (List (List ℕ) × Bool)
  pub words : List Kind

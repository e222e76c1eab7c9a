-- `rename`: a record with its fields renamed.
use Rattle.std.specs.Prelude.{◌≡◌, List}
use Rattle.regex.specs.Patterns.{Re}
use Rattle.verbs_base.specs.Records.{Fields}
use Rattle.verbs_fields.specs.RenameNames.{renamed}
use Rattle.verbs_pattern.specs.Renaming.{renamed_by_each}
use Rattle.verbs_pattern.specs.Rules.{patterns_of, rules_in}
use Rattle.verbs_pattern.specs.declared.rename.Rename.{Rename}
use Rattle.verbs_pattern.specs.declared.rename.Rename.TheVariants.{Names, Patterns}

-- `rename`: a record with its fields renamed, by names or by patterns in turn
abbrev pub rename : Rename → Fields → Fields
rename (Names renamings) fields = renamed renamings.items fields
rename (Patterns rules) fields = renamed_by_each rules.which (rules_in rules) fields

-- the same names, or rules with equal patterns
abbrev pub AreSameRename : Rename → Rename → Type 0
AreSameRename (Names one) (Names other) = one.items ≡ other.items
AreSameRename (Patterns one) (Patterns other) = (rules_in one ≡ rules_in other) × (one.which ≡ other.which)
AreSameRename _ _ = ⊥

-- these are the patterns of the rules, where there are rules
abbrev pub ArePatternsOf : Rename → List Re → Type 0
ArePatternsOf (Names renamings) patterns = Unit {0}
ArePatternsOf (Patterns rules) patterns = patterns ≡ patterns_of rules

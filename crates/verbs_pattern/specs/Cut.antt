-- `cut`: the fields that it keeps.
use Rattle.std.specs.Prelude.{◌≡◌, ℕ, Bool, true, false, not, List, if◌then◌else◌}
use Rattle.std.specs.List.{filter}
use Rattle.mlr_spec.specs.Tree.{Tree}
use Rattle.mlr_pattern.specs.Several.{patterns_in}
use Rattle.regex.specs.Patterns.{Re}
use Rattle.verbs_base.specs.Choosing.{dropped, kept, picked}
use Rattle.verbs_base.specs.Records.{Fields}
use Rattle.verbs_pattern.specs.Matching.{any_matches}
use Rattle.verbs_pattern.specs.declared.cut.Cut.{Cut}
use Rattle.verbs_pattern.specs.declared.cut.CutFields.{CutFields}
use Rattle.verbs_pattern.specs.declared.cut.CutFields.TheVariants.{Names, Patterns}

-- whether a field is kept: its name matches one of the patterns, or with `complement` none of them
abbrev pub is_kept : List Re → Bool → List ℕ × Tree → Bool
is_kept patterns complement pair = if complement then not (any_matches patterns pair.0) else any_matches patterns pair.0

-- the fields that are kept
abbrev pub kept_matching : List Re → Bool → List (List ℕ × Tree) → List (List ℕ × Tree)
kept_matching patterns complement pairs = filter (is_kept patterns complement) pairs

-- the named fields, in the record's order or in the order of the names, or the other fields; or the fields whose names
-- match, or the others
abbrev pub selected : CutFields → Bool → Bool → Fields → Fields
selected (Names names) ordered true fields = dropped names fields
selected (Names names) true false fields = picked names fields
selected (Names names) false false fields = kept names fields
selected (Patterns patterns) ordered complement fields = kept_matching (patterns_in patterns) complement fields

-- `cut`: the fields that it keeps
abbrev pub cut : Cut → Fields → Fields
cut options fields = selected options.fields options.ordered options.complement fields

-- the same names, or equal patterns
abbrev pub AreSameFields : CutFields → CutFields → Type 0
AreSameFields (Patterns one) (Patterns other) = patterns_in one ≡ patterns_in other
AreSameFields one other = one ≡ other

-- these are the patterns of the fields, where they have patterns
abbrev pub ArePatternsOf : CutFields → List Re → Type 0
ArePatternsOf (Names names) patterns = Unit {0}
ArePatternsOf (Patterns of_fields) patterns = patterns ≡ patterns_in of_fields

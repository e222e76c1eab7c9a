-- `having-fields`: the records that it passes.
use Rattle.std.specs.Prelude.{◌≡◌, ℕ, Bool, ◌&&◌, nat_lt, List, length, Option, Some}
use Rattle.std.specs.Arc.{arc_value}
use Rattle.std.specs.List.{list_all, list_any}
use Rattle.mlr_spec.specs.Tree.{Tree}
use Rattle.regex.specs.Bytes.{regex_pattern}
use Rattle.regex.specs.Patterns.{Re}
use Rattle.verbs_base.specs.Records.{Fields}
use Rattle.verbs_fields.specs.Having.{all_defined, any_defined, has_all, has_no_others}
use Rattle.verbs_pattern.specs.Matching.{has_match}
use Rattle.verbs_pattern.specs.declared.having_fields.HavingFields.{HavingFields}
use Rattle.verbs_pattern.specs.declared.having_fields.HavingFields.TheVariants.{AtLeast, AtMost, WhichAre, AllDefined, AnyDefined, AllMatching, AnyMatching}

-- whether there is a field and all names match the pattern
abbrev pub all_names_match : Re → List (List ℕ × Tree) → Bool
all_names_match re pairs = nat_lt 0 (length pairs) && list_all (λ pair. has_match re pair.0) pairs

-- whether a name matches the pattern
abbrev pub any_name_matches : Re → List (List ℕ × Tree) → Bool
any_name_matches re pairs = list_any (λ pair. has_match re pair.0) pairs

-- `having-fields`: whether a record passes
abbrev pub has : HavingFields → Fields → Bool
has (AtLeast names) fields = has_all names fields
has (AtMost names) fields = has_no_others names fields
has (WhichAre names) fields = has_all names fields && has_no_others names fields
has (AllDefined names) fields = all_defined names fields
has (AnyDefined names) fields = any_defined names fields
has (AllMatching pattern) fields = all_names_match (regex_pattern (arc_value pattern)) fields
has (AnyMatching pattern) fields = any_name_matches (regex_pattern (arc_value pattern)) fields

-- the same condition, with the same names or equal patterns
abbrev pub AreSameHaving : HavingFields → HavingFields → Type 0
AreSameHaving (AllMatching one) (AllMatching other) = regex_pattern (arc_value one) ≡ regex_pattern (arc_value other)
AreSameHaving (AnyMatching one) (AnyMatching other) = regex_pattern (arc_value one) ≡ regex_pattern (arc_value other)
AreSameHaving one other = one ≡ other

-- this is the pattern of the condition, where it has a pattern
abbrev pub IsPatternOf : HavingFields → Option Re → Type 0
IsPatternOf (AllMatching pattern) re = re ≡ Some (regex_pattern (arc_value pattern))
IsPatternOf (AnyMatching pattern) re = re ≡ Some (regex_pattern (arc_value pattern))
IsPatternOf _ re = Unit {0}

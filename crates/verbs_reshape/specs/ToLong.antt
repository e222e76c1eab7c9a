-- `reshape` to long: a record for each selected field.
use Rattle.std.specs.Prelude.{◌≡◌, ℕ, true, false, List, [], ◌∷◌, map}
use Rattle.mlr_pattern.specs.Several.{patterns_in}
use Rattle.mlr_spec.specs.JsonGrammar.{text_value}
use Rattle.mlr_spec.specs.Pairs.{put_at}
use Rattle.mlr_spec.specs.Tree.{Tree}
use Rattle.regex.specs.Patterns.{Re}
use Rattle.verbs_base.specs.Choosing.{dropped, picked}
use Rattle.verbs_base.specs.Records.{Fields}
use Rattle.verbs_pattern.specs.Cut.{kept_matching}
use Rattle.verbs_reshape.specs.declared.to_long.LongFields.{LongFields}
use Rattle.verbs_reshape.specs.declared.to_long.LongFields.TheVariants.{Names, Patterns}
use Rattle.verbs_reshape.specs.declared.to_long.ToLong.{ToLong}

-- the selected fields: in the order of the names, or those whose names match, in the record's order
abbrev pub selected : LongFields → Fields → Fields
selected (Names names) fields = picked names fields
selected (Patterns patterns) fields = kept_matching (patterns_in patterns) false fields

-- the other fields
abbrev pub others : LongFields → Fields → Fields
others (Names names) fields = dropped names fields
others (Patterns patterns) fields = kept_matching (patterns_in patterns) true fields

-- the other fields with a selected one as two: its name as a string, and its value
abbrev pub long_record : ToLong → Fields → List ℕ × Tree → Fields
long_record options others field = put_at options.value field.1 (put_at options.key (text_value field.0) others)

-- the records that are made of a record, or the record itself if none is made
abbrev pub or_itself : Fields → List Fields → List Fields
or_itself fields [] = fields ∷ []
or_itself fields (made ∷ more) = made ∷ more

-- `reshape` with `-i` or `-r`
abbrev pub to_long : ToLong → Fields → List Fields
to_long options fields = or_itself fields (map (long_record options (others options.fields fields)) (selected options.fields fields))

-- the same names, or equal patterns
abbrev pub AreSameFields : LongFields → LongFields → Type 0
AreSameFields (Patterns one) (Patterns other) = patterns_in one ≡ patterns_in other
AreSameFields one other = one ≡ other

-- these are the patterns of the fields, where they have patterns
abbrev pub ArePatternsOf : LongFields → List Re → Type 0
ArePatternsOf (Names names) patterns = Unit {0}
ArePatternsOf (Patterns of_fields) patterns = patterns ≡ patterns_in of_fields

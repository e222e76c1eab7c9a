-- Records with the same texts in their join fields.
use Rattle.std.specs.Prelude.{◌≡◌, ℕ, List, Some}
use Rattle.std.specs.List.{Contains}
use Rattle.mlr_groups.specs.Grouping.{group_of}
use Rattle.verbs_base.specs.Records.{Fields}
use Rattle.verbs_join.specs.Join.{pair_of}
use Rattle.verbs_join.specs.declared.join.Join.{Join}

abbrev pub HaveSameTexts : Join → Fields → Fields → Type 0
HaveSameTexts options left right = (texts : List (List ℕ)) × (group_of options.left left ≡ Some texts) × (group_of options.right right ≡ Some texts)

-- a record is the pair of one of the left records, which has the same texts
abbrev pub IsPairOf : Join → List Fields → Fields → Fields → Type 0
IsPairOf options lefts right made = (left : Fields) × Contains lefts left × HaveSameTexts options left right × (made ≡ pair_of options left right)

-- none of the right records has the texts of a left one
abbrev pub IsAlone : Join → List Fields → Fields → Type 0
IsAlone options rights left = (right : Fields) → Contains rights right → HaveSameTexts options left right → ⊥

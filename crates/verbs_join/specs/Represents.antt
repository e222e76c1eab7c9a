-- What is kept of the left records.
use Rattle.std.specs.Prelude.{◌≡◌, ℕ, Bool, true, false, List, map, take, Option, Some, MatchOption, Vec, slice_get}
use Rattle.std.specs.Global.{Global}
use Rattle.std.specs.List.{list_any}
use Rattle.mlr_groups.specs.Grouping.{groups_in, is_in, members}
use Rattle.mlr_groups.specs.Represents.{GroupsOf}
use Rattle.mlr_groups.specs.declared.groups.Groups.{Groups}
use Rattle.mlr_groups.specs.declared.group_by.GroupBy.TheVariants.{Texts}
use Rattle.verbs_base.specs.Records.{Fields}
use Rattle.verbs_join.specs.Join.{pairs_with, partners}
use Rattle.verbs_join.specs.Places.{in_buckets}
use Rattle.verbs_join.specs.declared.join.Join.{Join}
use Rattle.verbs_join.specs.declared.lefts.Lefts.{Lefts}

-- the records of each group
abbrev pub of_each_group : List (List ℕ) → List Fields → List (List (Option Fields))
of_each_group names lefts = map (λ texts. map Some (members (Texts names) texts lefts)) (groups_in (Texts names) lefts)

-- the groups of the first left records, and the places of the records of each group
abbrev pub AreIndexed : List (List ℕ) → List Fields → ℕ → Groups → List (Vec ℕ Global) → Type 0
AreIndexed names lefts count groups buckets =
    GroupsOf (Texts names) (take count lefts) groups × (in_buckets lefts buckets ≡ of_each_group names (take count lefts))

-- for each group of left records, whether a right record has its texts
abbrev pub have_come : Join → List Fields → List Fields → List Bool
have_come options lefts rights = map (λ texts. list_any (is_in (Texts options.right) texts) rights) (groups_in (Texts options.left) lefts)

-- the left records by groups, and which groups have been paired with the right records so far
abbrev pub LeftsOf : Join → List Fields → Lefts → Type 0
LeftsOf options rights lefts =
    GroupsOf (Texts options.left) lefts.records.items lefts.groups
    × (in_buckets lefts.records.items lefts.buckets.items ≡ of_each_group options.left lefts.records.items)
    × (lefts.paired.items ≡ have_come options lefts.records.items rights)

-- the bucket of the left records that a right one pairs with, or none if it pairs with none
abbrev pub HasPartners : Join → Lefts → Fields → Option ℕ → Type 0
HasPartners options lefts right bucket =
    MatchOption bucket
    (list_any (λ left. pairs_with options left right) lefts.records.items ≡ false)
    (λ p. (list_any (λ left. pairs_with options left right) lefts.records.items ≡ true)
    × (slice_get (in_buckets lefts.records.items lefts.buckets.items) p ≡ Some (map Some (partners options lefts.records.items right))))

-- `count`: the number of records, of all or of each group, or the number of groups.
use Rattle.std.specs.Prelude.{ℕ, Bool, List, if◌then◌else◌, Some, None}
use Rattle.mlr_groups.specs.declared.group_by.GroupBy.TheVariants.{Texts}
use Rattle.verbs_base.specs.Records.{RecordVerb}
use Rattle.verbs_count.specs.declared.count.Count.{Count}
use Rattle.verbs_count.specs.GroupCount.{group_count}
use Rattle.verbs_count.specs.GroupNumber.{group_number}
use Rattle.verbs_count.specs.RecordCount.{record_count}

-- the number of groups, or the number of records of each
abbrev pub counted_groups : List (List ℕ) → Bool → List ℕ → RecordVerb
counted_groups names number output = if number then group_number (Texts names) output else group_count (record { groups = names; output = Some output })

abbrev pub count : Count → RecordVerb
count options = elim options.groups [
  | None ↦ record_count options.output
  | Some names ↦ counted_groups names options.number options.output
]

-- `gap`: records without fields between others.
use Rattle.std.specs.Prelude.{◌≡◌, ℕ, ◌≤◌, ◌%◌, nat_eq, nat_lt, Bool, false, not, ◌&&◌, if◌then◌else◌, List, [], ◌∷◌, length, Some, None}
use Rattle.mlr_groups.specs.Grouping.{texts_eq, texts_of}
use Rattle.mlr_groups.specs.Keys.{key_of}
use Rattle.mlr_groups.specs.Tallying.{capped}
use Rattle.verbs_base.specs.Records.{Fields, RecordVerb, streams}
use Rattle.verbs_state.specs.declared.gap.Gap.{Gap}
use Rattle.verbs_state.specs.declared.gap.Gap.TheVariants as variant
use Rattle.verbs_state.specs.declared.gap.GapVerb.{GapVerb}
use Rattle.verbs_state.specs.Last.{last}

-- whether a gap precedes a record: after each `count` records, or if the texts of the grouping fields change
abbrev pub is_apart : Gap → List Fields → Fields → Bool
is_apart (variant.Count count) before fields = nat_lt 0 (length before) && nat_eq (capped (length before) % count) 0
is_apart (variant.Groups names) before fields = elim (last before) [ Some earlier ↦ not (texts_eq (texts_of names earlier) (texts_of names fields)) | None ↦ false ]

abbrev pub gap_gives : Gap → List Fields → Fields → List Fields
gap_gives options before fields = if is_apart options before fields then [] ∷ fields ∷ [] else fields ∷ []

abbrev pub gap : Gap → RecordVerb
gap options = streams (gap_gives options)

-- the count is at least 1
abbrev pub IsSoundGap : Gap → Type 0
IsSoundGap (variant.Count count) = 1 ≤ count
IsSoundGap (variant.Groups names) = Unit {0}

-- the key of the last record's grouping texts
abbrev pub IsLastKey : Gap → List ℕ → List Fields → Type 0
IsLastKey (variant.Count count) key before = Unit {0}
IsLastKey (variant.Groups names) key before = elim (last before) [ Some earlier ↦ key ≡ key_of (texts_of names earlier) | None ↦ Unit {0} ]

-- the state: the number of the records, and the key of the last record
abbrev pub RepresentsAfter : Gap → ℕ → List ℕ → List Fields → Type 0
RepresentsAfter options count key before = IsSoundGap options × (count ≡ capped (length before)) × IsLastKey options key before

abbrev pub GapRepresents : GapVerb → List Fields → Type 0
GapRepresents verb before = RepresentsAfter verb.options verb.count verb.key before

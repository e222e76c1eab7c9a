-- `decimate`: of each `count` records one passes.
use Rattle.std.specs.Prelude.{ℕ, ◌<◌, ◌+◌, ◌%◌, nat_eq, Bool, if◌then◌else◌, List, [], ◌∷◌, Some, None}
use Rattle.mlr_groups.specs.Tallying.{capped}
use Rattle.verbs_base.specs.Records.{Fields, RecordVerb, streams}
use Rattle.verbs_state.specs.declared.decimate.Decimate.{Decimate}
use Rattle.verbs_state.specs.declared.decimate.DecimateVerb.{DecimateVerb}
use Rattle.verbs_state.specs.Counted.{AreCounted, earlier}

-- of each `count` records the last passes, or the first
abbrev pub is_kept : Decimate → ℕ → Bool
is_kept options n = nat_eq ((if options.first then n else capped (n + 1)) % options.count) 0

abbrev pub decimate_gives : Decimate → List Fields → Fields → List Fields
decimate_gives options before fields = elim (earlier options.groups before fields) [ Some n ↦ (if is_kept options n then fields ∷ [] else []) | None ↦ [] ]

abbrev pub decimate : Decimate → RecordVerb
decimate options = streams (decimate_gives options)

-- the count is at least 1
abbrev pub IsSoundDecimate : Decimate → Type 0
IsSoundDecimate options = 0 < options.count

abbrev pub DecimateRepresents : DecimateVerb → List Fields → Type 0
DecimateRepresents verb before = IsSoundDecimate verb.options × AreCounted verb.options.groups before verb.tallies

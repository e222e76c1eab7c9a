-- `head`: the first records pass.
use Rattle.std.specs.Prelude.{◌≡◌, nat_le, nat_lt, Bool, ◌&&◌, if◌then◌else◌, List, [], ◌∷◌, length, Some, None, is_none}
use Rattle.mlr_groups.specs.Tallying.{capped}
use Rattle.verbs_base.specs.Records.{Fields, RecordVerb}
use Rattle.verbs_state.specs.declared.head.Head.{Head}
use Rattle.verbs_state.specs.declared.head.HeadVerb.{HeadVerb}
use Rattle.verbs_state.specs.Counted.{AreCounted, earlier}

-- the first `count` records of each group pass
abbrev pub head_gives : Head → List Fields → Fields → List Fields
head_gives options before fields = elim (earlier options.groups before fields) [ Some n ↦ (if nat_lt n options.count then fields ∷ [] else []) | None ↦ [] ]

-- without groups the verb is closed after `count` records
abbrev pub head_closed : Head → List Fields → Bool
head_closed options before = is_none options.groups && nat_le options.count (capped (length before))

abbrev pub head : Head → RecordVerb
head options = record { gives = head_gives options; late = λ before ctx. []; closed = head_closed options }

abbrev pub HeadRepresents : HeadVerb → List Fields → Type 0
HeadRepresents verb before = AreCounted verb.options.groups before verb.tallies × (verb.given ≡ capped (length before))

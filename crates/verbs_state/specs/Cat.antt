-- `cat`: records as they are, or with their numbers.
use Rattle.std.specs.Prelude.{◌≡◌, ℕ, pos, ◌+◌, Bool, false, not, ◌&&◌, if◌then◌else◌, List, [], ◌∷◌, Some, None, is_none}
use Rattle.mlr_spec.specs.Tree.{int}
use Rattle.mlr_spec.specs.Pairs.{remove_at}
use Rattle.mlr_groups.specs.Tallying.{capped}
use Rattle.verbs_base.specs.Records.{Fields, RecordVerb, streams}
use Rattle.verbs_state.specs.declared.cat.Cat.{Cat}
use Rattle.verbs_state.specs.declared.cat.CatVerb.{CatVerb}
use Rattle.verbs_state.specs.Counted.{AreCounted, earlier}

-- a record, with its number from 1 as its first field if the options ask for it
abbrev pub numbered : Cat → ℕ → Fields → Fields
numbered options n fields = if options.number then (options.name, int (pos (capped (n + 1))) []) ∷ remove_at options.name fields else fields

abbrev pub cat_gives : Cat → List Fields → Fields → List Fields
cat_gives options before fields = elim (earlier options.groups before fields) [ Some n ↦ numbered options n fields ∷ [] | None ↦ [] ]

abbrev pub cat : Cat → RecordVerb
cat options = streams (cat_gives options)

-- `cat` without options, which gives each record as it is
abbrev pub is_plain : Cat → Bool
is_plain options = not options.number && is_none options.groups

-- the state of plain `cat` doesn't count records
abbrev pub CatRepresents : CatVerb → List Fields → Type 0
CatRepresents verb before = is_plain verb.options ≡ false → AreCounted verb.options.groups before verb.tallies

-- `repeat`: each record several times.
use Rattle.std.specs.Prelude.{ℕ, pos, Some, None, replicate}
use Rattle.mlr_spec.specs.Tree.{Tree, int}
use Rattle.mlr_spec.specs.Pairs.{value_at}
use Rattle.verbs_base.specs.Records.{Fields, RecordVerb, each}
use Rattle.verbs_state.specs.declared.repeat.Repeat.{Repeat}
use Rattle.verbs_state.specs.declared.repeat.Repeat.TheVariants as variant

-- the number of times that a value gives: an int of 0 or more gives itself, and any other value gives 0
abbrev pub count_in : Tree → ℕ
count_in (int (pos n) spelling) = n
count_in _ = 0

-- the number of times that a record is given
abbrev pub times : Repeat → Fields → ℕ
times (variant.Count n) fields = n
times (variant.Field name) fields = elim (value_at name fields) [ Some value ↦ count_in value | None ↦ 0 ]

abbrev pub repeat : Repeat → RecordVerb
repeat options = each (λ fields. replicate (times options fields) fields)

use Rattle.std.proofs.Common.{◌≡◌, ◌++◌}
use Rattle.mlr_value.specs.Collections.{pairs_of as map_pairs}
use Rattle.mlr_record.specs.Fields.{pairs_of}
use Rattle.mlr_record.proofs.record.push_pairs.Given as goal

-- the fields so far and the remaining pairs make up the whole
abbrev pub invariant-loop-pair : goal.invariant-loop-pair
invariant-loop-pair l = pairs_of l.fields.items ++ map_pairs l.pair-iterator.rest.items ≡ pairs_of l.fn.fields.items ++ map_pairs l.fn.pairs.items

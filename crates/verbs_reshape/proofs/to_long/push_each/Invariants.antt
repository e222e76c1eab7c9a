use Rattle.std.proofs.Common.{◌≡◌, ◌++◌, map}
use Rattle.mlr_record.specs.Fields.{pairs_of}
use Rattle.verbs_base.specs.Records.{with_context}
use Rattle.verbs_reshape.specs.ToLong.{long_record}
use Rattle.verbs_reshape.proofs.to_long.push_each.Given as goal

-- what was appended, with the records of the remaining fields, is what all fields give
abbrev pub invariant-loop-field : goal.invariant-loop-field
invariant-loop-field l =
    l.out ++ with_context l.ctx (map (long_record l.options l.others) (pairs_of l.field-iterator.rest.items))
    ≡ l.fn.out ++ with_context l.ctx (map (long_record l.options l.others) (pairs_of l.fn.selected.items))

use Rattle.std.proofs.Common.{◌≡◌, ◌++◌, drop}
use Rattle.mlr_record.specs.Fields.{pairs_of}
use Rattle.verbs_reshape.proofs.to_long.push_copies.Given as goal

-- the copies so far, and the fields that remain
abbrev pub invariant-loop-field : goal.invariant-loop-field
invariant-loop-field l = pairs_of l.copies.items ++ pairs_of (drop l.field-index l.fields) ≡ pairs_of l.fn.copies.items ++ pairs_of l.fn.fields

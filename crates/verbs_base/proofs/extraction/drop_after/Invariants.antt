use Rattle.std.proofs.Common.{◌≡◌, take, vec_len}
use Rattle.verbs_base.proofs.extraction.drop_after.Given as goal

abbrev pub invariant-loop-fields : goal.invariant-loop-fields
invariant-loop-fields l = take l.count l.fields.items ≡ take l.count l.fn.fields.items

abbrev pub decreases-loop-fields : goal.decreases-loop-fields
decreases-loop-fields l = vec_len l.fields

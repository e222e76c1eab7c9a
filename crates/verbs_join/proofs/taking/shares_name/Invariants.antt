use Rattle.std.proofs.Common.{◌≡◌, drop}
use Rattle.mlr_record.specs.Fields.{pairs_of}
use Rattle.verbs_join.specs.Sharing.{shares_name}
use Rattle.verbs_join.proofs.taking.shares_name.Given as goal

-- what holds of the fields that remain holds of all
abbrev pub invariant-loop-field : goal.invariant-loop-field
invariant-loop-field l = shares_name l.made l.join l.other ≡ shares_name l.made l.join (pairs_of (drop l.field-index l.field-items))

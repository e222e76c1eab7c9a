use Rattle.std.proofs.Common.{◌≡◌, drop}
use Rattle.verbs_fields.specs.Having.{has_no_others}
use Rattle.verbs_fields.proofs.having.has_no_others.Given as goal

abbrev pub invariant-loop-place : goal.invariant-loop-place
invariant-loop-place l = has_no_others l.names (drop l.place l.from) ≡ has_no_others l.names l.from

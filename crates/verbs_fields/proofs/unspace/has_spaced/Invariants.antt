use Rattle.std.proofs.Common.{◌≡◌, drop}
use Rattle.std.specs.List.{list_any}
use Rattle.verbs_fields.specs.Unspace.{is_spaced}
use Rattle.verbs_fields.proofs.unspace.has_spaced.Given as goal

abbrev pub invariant-loop-place : goal.invariant-loop-place
invariant-loop-place l = list_any (is_spaced l.part) (drop l.place l.from) ≡ list_any (is_spaced l.part) l.from

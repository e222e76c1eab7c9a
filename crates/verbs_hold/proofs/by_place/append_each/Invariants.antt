use Rattle.std.proofs.Common.{◌≡◌, length}
use Rattle.verbs_hold.proofs.ByPlace.{Gathered}
use Rattle.verbs_hold.proofs.by_place.append_each.Given as goal

abbrev pub invariant-loop-place : goal.invariant-loop-place
invariant-loop-place l = record {
  places : length l.values ≡ length l.names;
  gathered : Gathered l.fill l.names l.fn.values l.place l.values l.made;
}

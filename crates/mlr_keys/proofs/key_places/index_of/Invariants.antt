use Rattle.std.proofs.Common.{◌≡◌, map, take}
use Rattle.mlr_keys.proofs.key_places.index_of.Given as goal

-- the keys so far
abbrev pub invariant-loop-place : goal.invariant-loop-place
invariant-loop-place g l = l.index ≡ take l.place (map g.T.HasKey.key l.items)

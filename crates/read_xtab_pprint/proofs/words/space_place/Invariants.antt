use Rattle.std.proofs.Common.{◌≡◌, ◌+◌, drop}
use Rattle.std.specs.List.{position_or_len}
use Rattle.read_xtab_pprint.specs.Xtab.{is_space}
use Rattle.read_xtab_pprint.proofs.words.space_place.Given as goal

abbrev pub invariant-loop-place : goal.invariant-loop-place
invariant-loop-place l = l.place + position_or_len is_space (drop l.place l.text) ≡ position_or_len is_space l.text

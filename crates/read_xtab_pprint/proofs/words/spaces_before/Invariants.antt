use Rattle.std.proofs.Common.{◌≡◌, ◌+◌, drop}
use Rattle.std.specs.List.{prefix_len}
use Rattle.read_xtab_pprint.specs.Xtab.{is_space}
use Rattle.read_xtab_pprint.proofs.words.spaces_before.Given as goal

abbrev pub invariant-loop-place : goal.invariant-loop-place
invariant-loop-place l = l.place + prefix_len is_space (drop l.place l.text) ≡ prefix_len is_space l.text

use Rattle.std.proofs.Common.{◌≡◌, take}
use Rattle.verbs_reshape.specs.ToWide.{filled}
use Rattle.verbs_reshape.proofs.filling.append_lacking.Given as goal

-- the record has the first so many keys
abbrev pub invariant-loop-place : goal.invariant-loop-place
invariant-loop-place l = l.made ≡ filled (take l.place l.keys) l.fn.made

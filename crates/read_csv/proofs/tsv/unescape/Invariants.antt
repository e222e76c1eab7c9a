use Rattle.std.proofs.Common.{◌≡◌, ◌++◌, length}
use Rattle.read_csv.specs.Tsv.{unescaped}
use Rattle.read_csv.proofs.tsv.unescape.Given as goal

-- the bytes so far, followed by those of the remaining text, are those of the whole text
abbrev pub invariant-loop-byte : goal.invariant-loop-byte
invariant-loop-byte l = l.made.items ++ unescaped l.left ≡ unescaped l.initial.left

abbrev pub decreases-loop-byte : goal.decreases-loop-byte
decreases-loop-byte l = length l.left

use Rattle.std.proofs.Common.{ℕ, ◌+◌, ◌*◌, List, length, Option, None, Some, Bor}
use Rattle.mlr_record.proofs.unflatten.+paths.Given as goal

-- how long the rest of a path is
abbrev left : Option (Bor (List ℕ)) → ℕ
left None = 0
left (Some text) = length text.now + 1

abbrev pub decreases-put_path : goal.decreases-put_path
decreases-put_path l = 2 * left l.path

abbrev pub decreases-put_child : goal.decreases-put_child
decreases-put_child l = 2 * left l.rest + 1

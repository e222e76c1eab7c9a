use Rattle.std.proofs.Common.{◌≡◌, take}
use Rattle.verbs_top.specs.State.{output_names}
use Rattle.verbs_top.proofs.state.output_names.Given as goal

-- the names so far
abbrev pub invariant-loop-name : goal.invariant-loop-name
invariant-loop-name l = l.outputs.items ≡ output_names (take l.name-index l.names)

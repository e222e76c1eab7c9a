use Rattle.std.proofs.Common.{[], map, take}
use Rattle.verbs_top.specs.State.{HoldColumns, column_of}
use Rattle.verbs_top.specs.declared.top.Top.{Top}
use Rattle.verbs_top.proofs.state.no_columns.Given as goal

-- no ints for each name so far
abbrev pub invariant-loop : goal.invariant-loop
invariant-loop l = (options : Top) → HoldColumns options (map (λ name. column_of name []) (take l.index l.names)) l.columns.items

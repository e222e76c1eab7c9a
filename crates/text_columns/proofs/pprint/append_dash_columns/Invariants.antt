use Rattle.std.proofs.Common.{◌≡◌, ◌++◌, map, take, replicate}
use Rattle.std.specs.Prelude.{codes}
use Rattle.mlr_spec.specs.Json.{joined}
use Rattle.text_columns.proofs.pprint.append_dash_columns.Given as goal

abbrev pub invariant-loop-column : goal.invariant-loop-column
invariant-loop-column l = l.out ≡ l.initial.out ++ joined (codes "-+-") (map (λ width. replicate width 45) (take l.column l.widths))

use Rattle.std.proofs.Common.{◌≡◌, ◌++◌, ◌∷◌, [], List, drop, length, map, take}
use Rattle.mlr_event.specs.declared.event.Ctx.{Ctx}
use Rattle.verbs_base.specs.Records.{Row}
use Rattle.verbs_top.specs.State.{HoldColumns, column_of}
use Rattle.verbs_top.proofs.state.add_values.Given as goal

-- the fields before this place have the ints of the record
abbrev pub invariant-loop-place : goal.invariant-loop-place
invariant-loop-place l = record {
  many : length l.columns.items ≡ length l.options.names;
  held : (rows : List Row) (ctx : Ctx) → HoldColumns l.options (map (λ name. column_of name rows) l.options.names) l.fn.columns.items
      → HoldColumns l.options (map (λ name. column_of name (rows ++ (l.fields, ctx) ∷ [])) (take l.place l.options.names) ++ map (λ name. column_of name rows) (drop l.place l.options.names)) l.columns.items;
}

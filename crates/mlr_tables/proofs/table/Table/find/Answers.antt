use Rattle.std.proofs.Common.{sym, ap, ◌∙◌, arith}
use Rattle.mlr_tables.specs.Table.{is_ascending}
use Rattle.mlr_tables.proofs.Rows.{cmp, row_at, nowhere, Equal-same, from_row, through_row}
use Rattle.mlr_tables.proofs.table.Table.find.Goals as goal

pub returns-in-Equal : goal.returns-in-Equal
returns-in-Equal g c =
    row_at c.args.name.now c.args.self.now (sym (ap is_ascending c.self.view_is) ∙ c.self.invariant.0) _ (omega arith)
    (Equal-same c.args.name.now _ (sym (ap (cmp c.args.name.now) c.name.ensures) ∙ sym c.cmp.ensures ∙ c.in-Equal.is))

pub loop-start-preserved-in-Less : goal.loop-start-preserved-in-Less
loop-start-preserved-in-Less g c = (
  omega arith,
  omega arith,
  c.loop-start.invariant.2,
  from_row c.args.name.now c.args.self.now _ (sym (ap is_ascending c.self.view_is) ∙ c.self.invariant.0)
      (sym (ap (cmp c.args.name.now) c.name.ensures) ∙ sym c.cmp.ensures ∙ c.in-Less.is),
)

pub loop-start-preserved : goal.loop-start-preserved
loop-start-preserved g c = (
  omega arith,
  omega arith,
  through_row c.args.name.now c.args.self.now _ (sym (ap is_ascending c.self.view_is) ∙ c.self.invariant.0) (omega arith)
      (sym (ap (cmp c.args.name.now) c.name.ensures) ∙ sym c.cmp.ensures ∙ c.in-Greater.is),
  c.loop-start.invariant.3,
)

pub returns : goal.returns
returns g c =
    nowhere c.args.name.now c.args.self.now _ _ (omega arith) c.loop-start.invariant.2 c.loop-start.invariant.3

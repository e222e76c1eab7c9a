use Rattle.std.proofs.Common.{◌++◌, ◌∷◌, [], List, Some, ap, get_or, length, map, not, subst, sym, ◌∙◌}
use Rattle.std.specs.Arc.{arc_value}
use Rattle.std.specs.Option.{unwrap_or}
use Rattle.std.proofs.lemmas.Result.{on_ok_weaker}
use Rattle.mlr_spec.specs.Pairs.{value_at}
use Rattle.verbs_base.specs.Choosing.{picked}
use Rattle.verbs_base.specs.Records.{Row}
use Rattle.verbs_top.specs.Best.{HoldsBest, Pair, offered}
use Rattle.verbs_top.specs.State.{HoldColumns, column_of}
use Rattle.verbs_top.specs.declared.state.TopState.{TopState}
use Rattle.verbs_top.specs.declared.top.Top.{Top}
use Rattle.verbs_top.proofs.Stating.{first-new, first-stays, keeps-row, keeps-values, many-columns}
use Rattle.verbs_top.proofs.state.TopStateAtEnd.add.Goals as goal

pub returns-then-deref-clause-holds : goal.returns-then-deref-clause-holds
returns-then-deref-clause-holds c =
    let s = c.args.self.now in
    let row : Row = (c.args.fields, c.args.ctx) in
    let t : TopState = record { options = s.options; first = s.first; columns = s.columns; rows = c.add_row.new.rows } in
    let whole = ap (λ (o : Top). o.whole) (sym c.deref.ensures) ∙ c.if-deref.true in
    on_ok_weaker c.add_row.result
    (λ takes. record {
      follows = λ rows kept.
          keeps-row (arc_value s.options) s rows kept t row whole
          (subst (λ (o : Top). (given : List Pair) → HoldsBest o given s.rows → HoldsBest o (given ++ offered (value_at (get_or o.names 0 []) row.0) (Some row)) t.rows) c.deref-then-deref.ensures takes);
    })
    c.add_row.ensures

pub add_values-requires : goal.add_values-requires
add_values-requires c =
    let s = c.args.self.now in
    many-columns (arc_value s.options) s c.requires.0 c.requires.1 (ap (λ (o : Top). o.whole) (sym c.deref.ensures) ∙ c.if-deref.false)
    ∙ ap (λ (o : Top). length o.names) (sym c.deref-2.ensures)

pub returns-in_ok-group_fields-clause-holds : goal.returns-in_ok-group_fields-clause-holds
returns-in_ok-group_fields-clause-holds c =
    let s = c.args.self.now in
    let options = arc_value s.options in
    let row : Row = (c.args.fields, c.args.ctx) in
    let t : TopState = record { options = s.options; first = Some c.in_ok-group_fields.field-0; columns = c.add_values.new.columns; rows = s.rows } in
    let none = ap (λ (o : Top). o.whole) (sym c.deref.ensures) ∙ c.if-deref.false in
    record {
      follows = λ rows kept.
          keeps-values options s rows kept t row none
          (first-new (unwrap_or options.groups []) s.first rows row (kept.1 none).0 c.in_ok-group_fields.field-0 (ap not c.is_none.ensures ∙ ap (λ t. not (not t)) c.if-is_none.true)
          (c.in_ok-group_fields.ensures ∙ ap (λ (o : Top). picked (unwrap_or o.groups []) row.0) c.deref-then-is_none.ensures))
          (subst (λ (o : Top). HoldColumns o (map (λ name. column_of name rows) o.names) s.columns.items → HoldColumns o (map (λ name. column_of name (rows ++ row ∷ [])) o.names) t.columns.items) c.deref-2.ensures
          (c.in_ok-add_values.ensures rows c.args.ctx));
    }

pub returns-else-is_none-clause-holds : goal.returns-else-is_none-clause-holds
returns-else-is_none-clause-holds c =
    let s = c.args.self.now in
    let options = arc_value s.options in
    let row : Row = (c.args.fields, c.args.ctx) in
    let t : TopState = record { options = s.options; first = s.first; columns = c.add_values.new.columns; rows = s.rows } in
    let none = ap (λ (o : Top). o.whole) (sym c.deref.ensures) ∙ c.if-deref.false in
    record {
      follows = λ rows kept.
          keeps-values options s rows kept t row none
          (first-stays (unwrap_or options.groups []) s.first rows row (kept.1 none).0 (ap not c.is_none.ensures ∙ ap (λ t. not (not t)) c.if-is_none.false))
          (subst (λ (o : Top). HoldColumns o (map (λ name. column_of name rows) o.names) s.columns.items → HoldColumns o (map (λ name. column_of name (rows ++ row ∷ [])) o.names) t.columns.items) c.deref-2.ensures
          (c.in_ok-add_values.ensures rows c.args.ctx));
    }

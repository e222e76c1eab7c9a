use Rattle.std.proofs.Common.{◌≡◌, ◌++◌, ◌+◌, ap, ◌∙◌, sym, map, take, replicate, arith}
use Rattle.std.specs.Prelude.{codes, nat_lt, slice_index}
use Rattle.std.proofs.lemmas.Bool.{le-ltb, lt-ltb}
use Rattle.std.proofs.lemmas.List.{append-nil}
use Rattle.mlr_spec.specs.Json.{joined}
use Rattle.text_columns.proofs.Joined.{joined-more, joined-next, separated}
use Rattle.text_columns.proofs.pprint.append_dash_columns.Goals.{then-column-gt0+in_ok-append, else-column-gt0}
use Rattle.text_columns.proofs.pprint.append_dash_columns.Goals as goal

pub loop-column-preserved : goal.loop-column-preserved
loop-column-preserved c =
    let widths = c.args.widths.now in
    let column = c.loop-column.column in
    let gap = separated (codes "-+-") in
    let prefix = joined (codes "-+-") (map (λ width. replicate width 45) (take column widths)) in
    let before : c.if-column-gt0.out ≡ (c.args.out.now ++ prefix) ++ gap (nat_lt 0 column) = elim c.if-column-gt0.branch [
      | then-column-gt0+in_ok-append w ↦
          w.out-is ∙ w.in_ok-append.ensures.appended
          ∙ ap (λ t. t ++ codes "-+-") c.loop-column.invariant
          ∙ ap (λ any. (c.args.out.now ++ prefix) ++ gap any) (sym (lt-ltb 0 column w.if-column-gt0.true))
      | else-column-gt0 w ↦
          w.out-is ∙ c.loop-column.invariant ∙ sym (append-nil (c.args.out.now ++ prefix))
          ∙ ap (λ any. (c.args.out.now ++ prefix) ++ gap any) (sym (le-ltb 0 column w.if-column-gt0.false))
    ] in
    joined-next (codes "-+-") c.args.out.now prefix c.if-column-gt0.out c.append_repeated.new.out (nat_lt 0 column) (replicate (slice_index widths column) 45)
    (joined (codes "-+-") (map (λ width. replicate width 45) (take (column + 1) widths)))
    before
    c.in_ok-append_repeated.ensures
    (joined-more (codes "-+-") (λ width. replicate width 45) widths column 0 (omega (arith, c.loop-column-test.true, c.loop-column.auto.column-end)))

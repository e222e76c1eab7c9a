use Rattle.std.proofs.Common.{◌+◌, length, drop, map, ap, ap₂, sym, ◌∙◌, arith}
use Rattle.mlr_spec.specs.Infer.{tree_of_data}
use Rattle.mlr_event.specs.Rows.{with_field, with_fields}
use Rattle.mlr_event.proofs.Putting.{with_fields-more}
use Rattle.read_xtab_pprint.specs.Cells.{cells_left}
use Rattle.read_xtab_pprint.specs.Pprint.{words_of}
use Rattle.read_xtab_pprint.specs.Counting.{length-with_field}
use Rattle.mlr_event.proofs.Naming.{at-place}
use Rattle.read_xtab_pprint.proofs.table.put_cells.Goals as goal

pub loop-cell-preserved : goal.loop-cell-preserved
loop-cell-preserved c =
    let opts = c.args.opts.now in
    let header = c.args.header.now in
    let place = c.loop-cell.place in
    let pairs = c.loop-cell.record in
    let tree = tree_of_data opts.infer in
    let name = c.index-header-place.result in
    let cell = c.in-Some.cell.now in
    let more = cells_left c.is_barred-barred.result (words_of c.in-Some.rest.now) in
    let cut = c.in-Some.ensures in
    let put = c.in_ok-put_text.ensures in
    let key = c.as_slice.result.now in
    record {
      fields = ap (λ r. with_fields opts.dedupe r (drop (place + 1) header) (map tree more)) (put ∙ ap (λ k. with_field opts.dedupe k (tree cell) pairs) c.as_slice.ensures)
          ∙ with_fields-more opts.dedupe pairs name (drop (place + 1) header) (tree cell) (map tree more)
          ∙ ap₂ (λ names texts. with_fields opts.dedupe pairs names (map tree texts)) (sym (at-place header place name (omega (arith, ap length cut.0, c.loop-cell.invariant.left)) c.index-header-place.is)) (sym cut.0)
          ∙ c.loop-cell.invariant.fields;
      left = omega (arith, ap length cut.0, c.loop-cell.invariant.left);
      few = omega (arith, ap length put, length-with_field opts.dedupe key (tree cell) pairs, c.loop-cell.invariant.few);
    }

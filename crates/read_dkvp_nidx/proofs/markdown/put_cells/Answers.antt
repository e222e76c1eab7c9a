use Rattle.std.proofs.Common.{◌+◌, length, drop, map, ap, ap₂, sym, ◌∙◌, arith}
use Rattle.mlr_spec.specs.Infer.{tree_of_data}
use Rattle.mlr_event.specs.Rows.{with_field, with_fields}
use Rattle.mlr_event.proofs.Putting.{with_fields-more}
use Rattle.mlr_event.proofs.Naming.{at-place}
use Rattle.read_dkvp_nidx.proofs.Piecewise.{length-with_field}
use Rattle.read_dkvp_nidx.proofs.markdown.put_cells.Goals as goal

pub loop-i-preserved : goal.loop-i-preserved
loop-i-preserved c =
    let opts = c.args.opts.now in
    let names = c.args.names.now in
    let cells = c.args.cells.now in
    let i = c.loop-i.i in
    let pairs = c.loop-i.record in
    let tree = tree_of_data opts.infer in
    let name = c.index-names-i.result in
    let cell = c.index-cells-i.result in
    let put = c.in_ok-put_text.ensures in
    let text = c.as_slice-in-loop-i.result.now in
    let key = c.as_slice.result.now in
    record {
      fields = ap (λ r. with_fields opts.dedupe r (drop (i + 1) names) (map tree (drop (i + 1) cells))) (
          put ∙ ap₂ (λ k t. with_field opts.dedupe k (tree t) pairs) c.as_slice.ensures c.as_slice-in-loop-i.ensures
          )
          ∙ with_fields-more opts.dedupe pairs name (drop (i + 1) names) (tree cell) (map tree (drop (i + 1) cells))
          ∙ ap₂ (λ left texts. with_fields opts.dedupe pairs left (map tree texts)) (sym (at-place names i name (omega arith) c.index-names-i.is)) (sym (at-place cells i cell (omega arith) c.index-cells-i.is))
          ∙ c.loop-i.invariant.fields;
      few = omega (arith, ap length put, length-with_field opts.dedupe key (tree text) pairs, c.loop-i.invariant.few);
    }

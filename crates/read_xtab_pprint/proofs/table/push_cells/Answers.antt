use Rattle.std.proofs.Common.{◌+◌, ◌<◌, ◌∷◌, ◌++◌, [], length, drop, map, ap, ap₂, sym, ◌∙◌, append_assoc, arith}
use Rattle.std.specs.List.{zip}
use Rattle.mlr_spec.specs.Infer.{tree_of_data}
use Rattle.mlr_spec.specs.Pairs.{keys_of, value_at}
use Rattle.read_xtab_pprint.specs.Cells.{cells_left}
use Rattle.read_xtab_pprint.specs.Pprint.{words_of}
use Rattle.mlr_event.proofs.Naming.{at-place, free-at, keys-at}
use Rattle.read_xtab_pprint.proofs.table.push_cells.Goals as goal

pub push_text-requires : goal.push_text-requires
push_text-requires c =
    let names = c.args.names.now in
    let place = c.loop-cell.place in
    let below : place < length names = omega (arith, ap length c.in-Some.ensures.0, c.loop-cell.invariant.left) in
    ap (λ key. value_at key c.loop-cell.record) c.as_slice.ensures
    ∙ free-at names place c.index-names-place.result c.loop-cell.record c.requires.distinct c.loop-cell.invariant.keys below c.index-names-place.is

pub loop-cell-preserved : goal.loop-cell-preserved
loop-cell-preserved c =
    let names = c.args.names.now in
    let place = c.loop-cell.place in
    let pairs = c.loop-cell.record in
    let tree = tree_of_data c.args.opts.now.infer in
    let name = c.index-names-place.result in
    let cell = c.in-Some.cell.now in
    let more = cells_left c.is_barred-barred.result (words_of c.in-Some.rest.now) in
    let cut = c.in-Some.ensures in
    let below : place < length names = omega (arith, ap length cut.0, c.loop-cell.invariant.left) in
    let put = c.in_ok-push_text.ensures ∙ ap (λ key. pairs ++ (key, tree cell) ∷ []) c.as_slice.ensures in
    record {
      fields = ap (λ r. r ++ zip (drop (place + 1) names) (map tree more)) put
          ∙ append_assoc pairs ((name, tree cell) ∷ []) (zip (drop (place + 1) names) (map tree more))
          ∙ ap₂ (λ texts cells. pairs ++ zip texts (map tree cells)) (sym (at-place names place name below c.index-names-place.is)) (sym cut.0)
          ∙ c.loop-cell.invariant.fields;
      keys = ap keys_of put ∙ keys-at names place name (tree cell) pairs c.loop-cell.invariant.keys below c.index-names-place.is;
      left = omega (arith, ap length cut.0, c.loop-cell.invariant.left);
    }

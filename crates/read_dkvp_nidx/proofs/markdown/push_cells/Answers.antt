use Rattle.std.proofs.Common.{◌+◌, ◌<◌, ◌∷◌, ◌++◌, [], length, drop, map, ap, ap₂, sym, ◌∙◌, append_assoc, arith}
use Rattle.std.specs.List.{zip}
use Rattle.mlr_spec.specs.Infer.{tree_of_data}
use Rattle.mlr_spec.specs.Pairs.{keys_of, value_at}
use Rattle.mlr_event.proofs.Naming.{at-place, free-at, keys-at}
use Rattle.read_dkvp_nidx.proofs.markdown.push_cells.Goals as goal

pub push_text-requires : goal.push_text-requires
push_text-requires c =
    let names = c.args.names.now in
    let i = c.loop-i.i in
    ap (λ key. value_at key c.loop-i.record) c.as_slice.ensures
    ∙ free-at names i c.index-names-i.result c.loop-i.record c.requires.distinct c.loop-i.invariant.keys (omega arith) c.index-names-i.is

pub loop-i-preserved : goal.loop-i-preserved
loop-i-preserved c =
    let names = c.args.names.now in
    let cells = c.args.cells.now in
    let i = c.loop-i.i in
    let pairs = c.loop-i.record in
    let tree = tree_of_data c.args.opts.now.infer in
    let name = c.index-names-i.result in
    let cell = c.index-cells-i.result in
    let more = drop (i + 1) cells in
    let below : i < length names = omega arith in
    let put = c.in_ok-push_text.ensures ∙ ap₂ (λ key text. pairs ++ (key, tree text) ∷ []) c.as_slice.ensures c.as_slice-in-loop-i.ensures in
    record {
      fields = ap (λ r. r ++ zip (drop (i + 1) names) (map tree more)) put
          ∙ append_assoc pairs ((name, tree cell) ∷ []) (zip (drop (i + 1) names) (map tree more))
          ∙ ap₂ (λ texts left. pairs ++ zip texts (map tree left)) (sym (at-place names i name below c.index-names-i.is)) (sym (at-place cells i cell (omega arith) c.index-cells-i.is))
          ∙ c.loop-i.invariant.fields;
      keys = ap keys_of put ∙ keys-at names i name (tree cell) pairs c.loop-i.invariant.keys below c.index-names-i.is;
    }

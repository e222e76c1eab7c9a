use Rattle.std.proofs.Common.{◌^◌, ◌<◌, [], length, ap, sym, ◌∙◌, arith}
use Rattle.mlr_spec.specs.Pairs.{are_distinct}
use Rattle.mlr_event.proofs.Distinct.{are_distinct-names, length-distinct}
use Rattle.read_dkvp_nidx.proofs.markdown.cells_record.Goals as goal

pub push_cells-requires-clause-distinct : goal.push_cells-requires-clause-distinct
push_cells-requires-clause-distinct c =
    let few : length c.args.header.now < 2 ^ 63 = omega (arith, ap length c.keys.ensures, length-distinct [] c.args.header.now) in
    ap are_distinct c.keys.ensures ∙ are_distinct-names c.args.header.now few

pub push_cells-requires-clause-same : goal.push_cells-requires-clause-same
push_cells-requires-clause-same c = c.requires ∙ sym (ap length c.keys.ensures ∙ length-distinct [] c.args.header.now)

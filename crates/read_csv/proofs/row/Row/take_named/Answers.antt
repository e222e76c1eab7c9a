use Rattle.std.proofs.Common.{[], length, take_all, ap, ◌∙◌, arith}
use Rattle.std.specs.List.{zip}
use Rattle.std.specs.Vec.{vec_len}
use Rattle.mlr_event.proofs.Distinct.{length-distinct}
use Rattle.read_csv.specs.OpenRow.{values_in}
use Rattle.read_csv.proofs.row.Row.take_named.Goals as goal

pub named_record-requires-clause-named : goal.named_record-requires-clause-named
named_record-requires-clause-named c =
    let keys = c.keys.result.now in
    let fields = c.take_plain.new.fields in
    c.in_ok-rest.ensures.names
    ∙ ap (λ k. zip k (values_in fields.items)) (take_all (vec_len fields) keys (omega (arith, ap length c.keys.ensures, length-distinct [] c.args.names.now, c.if-len.true, c.len.ensures)) ∙ c.keys.ensures)

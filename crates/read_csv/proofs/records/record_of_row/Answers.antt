use Rattle.std.proofs.Common.{rules, ◌≡◌, ◌<◌, ◌^◌, length, ap, sym, ◌∙◌, arith}
use Rattle.std.proofs.lemmas.List.{length-map}
use Rattle.std.proofs.lemmas.Result.{IfOk-weaker}
use Rattle.std.specs.Vec.{vec_len}
use Rattle.std.specs.List.{zip}
use Rattle.mlr_event.specs.Reading.{distinct_names, record_of}
use Rattle.read_csv.specs.OpenRow.{value_in, values_in}
use Rattle.read_csv.specs.Rows.{row_keys}
use Rattle.read_csv.proofs.Recording.{full-made}
use Rattle.read_csv.proofs.records.record_of_row.Goals as goal

pub full_record-requires-clause-few : goal.full_record-requires-clause-few
full_record-requires-clause-few c = c.len-then-distinct-2.ensures.few

pub returns-then-len-clause-made : goal.returns-then-len-clause-made
returns-then-len-clause-made c =
    let dedupe = c.args.dedupe in
    let header = c.args.header.now in
    let names = c.header-names.result.now in
    let items = c.args.fields.now.items in
    let values = values_in items in
    let size : vec_len c.args.fields.now ≡ length items = search rules in
    let full : length values ≡ length header =
    omega (arith, length-map items value_in, size, c.if-len.true, c.len-then-distinct.ensures, c.len-then-distinct-2.ensures.count, ap length c.header-names.ensures) in
    let few : length header < 2 ^ 62 = omega (arith, c.len-then-distinct-2.ensures.few, ap length c.header-names.ensures) in
    let made : zip (distinct_names names) values ≡ record_of dedupe (row_keys header (vec_len c.args.fields.now)) values =
    ap (λ n. zip (distinct_names n) values) c.header-names.ensures
    ∙ full-made dedupe c.is_distinct.result header values full few c.if-distinct.true c.is_distinct.ensures
    ∙ ap (λ n. record_of dedupe (row_keys header n) values) (length-map items value_in ∙ sym size) in
    IfOk-weaker c.full_record.result (λ r. r ≡ zip (distinct_names names) values) (λ r. r ≡ record_of dedupe (row_keys header (vec_len c.args.fields.now)) values) (λ r is. is ∙ made) c.full_record.ensures.made

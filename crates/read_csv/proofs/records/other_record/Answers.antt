use Rattle.std.proofs.Common.{rules, ◌≡◌, ◌+◌, ◌-◌, ◌≤◌, ◌||◌, [], length, take, ap, ap₂, sym, ◌∙◌, arith, length-take}
use Rattle.std.proofs.lemmas.List.{length-map}
use Rattle.std.specs.Vec.{vec_len}
use Rattle.std.specs.List.{drop-map}
use Rattle.mlr_event.specs.Rows.{with_fields}
use Rattle.mlr_event.specs.Reading.{record_of}
use Rattle.read_csv.specs.OpenRow.{value_in, values_in}
use Rattle.read_csv.specs.Rows.{positions_from, row_keys}
use Rattle.read_csv.proofs.Recording.{fields-distinct, row-made, length-with_fields}
use Rattle.read_csv.proofs.records.other_record.Goals as goal

pub put_surplus-requires-clause-into : goal.put_surplus-requires-clause-into
put_surplus-requires-clause-into c =
    let header = c.args.header.now in
    let values = values_in c.args.fields.now.items in
    let named = c.min-named.result in
    let low : named ≤ length header = omega (arith, c.min-named.ensures, c.len-2.ensures.count, ap length c.header-names.ensures) in
    let low_2 : named ≤ length values = omega (arith, c.min-named.ensures, length-map c.args.fields.now.items value_in) in
    let names = take named c.header-names.result.now in
    omega (
      arith,
      ap length c.in_ok-put_named.ensures.fields,
      ap (λ h. length (take named h)) c.header-names.ensures,
      length-take named header,
      length-take named values,
      length-with_fields (c.args.dedupe || c.is_distinct.result) [] names (take named values) (omega (arith, ap (λ h. length (take named h)) c.header-names.ensures, length-take named header, length-take named values, low, low_2)),
    )

pub returns-clause-made : goal.returns-clause-made
returns-clause-made c =
    let dedupe = c.args.dedupe in
    let header = c.args.header.now in
    let items = c.args.fields.now.items in
    let values = values_in items in
    let named = c.min-named.result in
    let size : vec_len c.args.fields.now ≡ length items = search rules in
    let count : vec_len c.put_named.new.fields ≡ length values = c.in_ok-put_named.ensures.len ∙ size ∙ sym (length-map items value_in) in
    let low : named ≤ length header = omega (arith, c.min-named.ensures, c.len-2.ensures.count, ap length c.header-names.ensures) in
    let low_2 : named ≤ length values = omega (arith, c.min-named.ensures, length-map items value_in) in
    let fields : c.put_named.new.into ≡ with_fields dedupe [] (take named header) (take named values) =
    c.in_ok-put_named.ensures.fields
    ∙ ap (λ h. with_fields (dedupe || c.is_distinct.result) [] (take named h) (take named values)) c.header-names.ensures
    ∙ fields-distinct dedupe c.is_distinct.result header values named low low_2 (omega (arith, c.len-2.ensures.few, ap length c.header-names.ensures)) c.is_distinct.ensures in
    c.into_record.ensures ∙ c.in_ok-put_surplus.ensures
    ∙ ap₂ (λ n rest. with_fields dedupe c.put_named.new.into (positions_from (named + 1) (n - named)) rest) count c.in_ok-put_named.ensures.rest
    ∙ ap₂ (λ p vs. with_fields dedupe p (positions_from (named + 1) (length values - named)) vs) fields (sym (drop-map value_in named items))
    ∙ row-made dedupe header values named low_2 low (λ less. omega (arith, c.min-named.ensures, c.len-2.ensures.count, ap length c.header-names.ensures, length-map items value_in))
    ∙ ap (λ n. record_of dedupe (row_keys header n) values) (length-map items value_in ∙ sym size)

use Rattle.std.proofs.Common.{◌≡◌, ◌+◌, ◌-◌, length, drop, ap, ap₂, sym, ◌∙◌, arith}
use Rattle.std.specs.Fmt.{decimal}
use Rattle.std.specs.Vec.{vec_len}
use Rattle.mlr_event.specs.Rows.{with_field, with_fields}
use Rattle.mlr_value.specs.Value.{tree_of}
use Rattle.read_csv.specs.OpenRow.{values_in}
use Rattle.read_csv.specs.Rows.{positions_from}
use Rattle.read_csv.proofs.Recording.{surplus-more, length-with_field}
use Rattle.read_csv.proofs.records.put_surplus.Goals as goal

pub loop-place-preserved : goal.loop-place-preserved
loop-place-preserved c =
    let dedupe = c.args.dedupe in
    let place = c.loop-place.place in
    let pairs = c.loop-place.into in
    let value = tree_of c.taken-value.result in
    let count = vec_len c.loop-place.fields in
    let rest = values_in (drop (place + 1) c.taken-value.new.fields.items) in
    let text = c.as_bytes.ensures.value ∙ c.format.ensures.text in
    let put : c.put.new.self ≡ with_field dedupe (decimal (place + 1)) value pairs = c.in_ok-put.ensures ∙ ap (λ k. with_field dedupe k value pairs) text in
    record {
      fields = ap₂ (λ p n. with_fields dedupe p (positions_from (place + 1 + 1) (n - (place + 1))) rest) put c.taken-value.ensures.len
          ∙ surplus-more dedupe pairs place count value rest (omega (arith, c.loop-place-test.true, c.loop-place.invariant.len))
          ∙ ap (λ vs. with_fields dedupe pairs (positions_from (place + 1) (count - place)) vs) (sym c.taken-value.ensures.value)
          ∙ c.loop-place.invariant.fields;
      len = c.taken-value.ensures.len ∙ c.loop-place.invariant.len;
      few = omega (arith, ap length put, length-with_field dedupe (decimal (place + 1)) value pairs, c.loop-place.invariant.few);
    }

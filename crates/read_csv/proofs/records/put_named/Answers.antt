use Rattle.std.proofs.Common.{◌≡◌, ◌+◌, ◌<◌, [], length, length-take, take, drop, get_or, ap, sym, ◌∙◌, arith}
use Rattle.mlr_spec.specs.Tree.{empty}
use Rattle.mlr_event.specs.Rows.{with_field}
use Rattle.mlr_value.specs.Value.{tree_of}
use Rattle.std.proofs.lemmas.List.{length-map}
use Rattle.read_csv.specs.OpenRow.{value_in, values_in}
use Rattle.std.specs.List.{drop-map}
use Rattle.read_csv.proofs.Recording.{drop-at, key-is, key-free, keys-now, one-more, pushed-is, put-is, length-with_fields}
use Rattle.read_csv.proofs.records.put_named.Goals as goal
use Rattle.read_csv.proofs.records.put_named.Goals.{then-dedupe+in_ok-push, else-dedupe+in_ok-put}

pub push-requires : goal.push-requires
push-requires c =
    let header = c.args.header.now in
    let values = values_in c.args.fields.now.items in
    let place = c.loop-place.place in
    let below : place < length header = omega (arith, c.loop-place-test.true, c.requires.names) in
    let below_2 : place < length values = omega (arith, c.loop-place-test.true, c.requires.values, length-map c.args.fields.now.items value_in) in
    key-free header c.loop-place.into place below c.requires.few (keys-now c.args.dedupe header values place below below_2 c.loop-place.into c.loop-place.invariant.fields c.if-dedupe.true) c.key.result.now c.key.ensures

pub put-requires : goal.put-requires
put-requires c =
    let header = c.args.header.now in
    let values = values_in c.args.fields.now.items in
    let place = c.loop-place.place in
    let low : place < length header = omega (arith, c.loop-place-test.true, c.requires.names) in
    let low_2 : place < length values = omega (arith, c.loop-place-test.true, c.requires.values, length-map c.args.fields.now.items value_in) in
    let same : length (take place header) ≡ length (take place values) = omega (arith, length-take place header, length-take place values, low, low_2) in
    omega (arith, ap length c.loop-place.invariant.fields, length-with_fields c.args.dedupe [] (take place header) (take place values) same, length-take place header, low, c.requires.few)

pub loop-place-preserved : goal.loop-place-preserved
loop-place-preserved c =
    let dedupe = c.args.dedupe in
    let header = c.args.header.now in
    let items = c.args.fields.now.items in
    let values = values_in items in
    let place = c.loop-place.place in
    let pairs = c.loop-place.into in
    let value = c.taken-value.result in
    let below : place < length header = omega (arith, c.loop-place-test.true, c.requires.names) in
    let below_2 : place < length values = omega (arith, c.loop-place-test.true, c.requires.values, length-map items value_in) in
    let rest = values_in (drop (place + 1) c.taken-value.new.fields.items) in
    let out = drop-at values place (tree_of value) rest (drop-map value_in place items ∙ sym c.loop-place.invariant.rest ∙ c.taken-value.ensures.value) in
    let more = one-more dedupe header values place below below_2 pairs c.loop-place.invariant.fields in
    record {
      fields = elim c.if-dedupe.branch [
        | then-dedupe+in_ok-push w ↦
            let keys = keys-now dedupe header values place below below_2 pairs c.loop-place.invariant.fields w.if-dedupe.true in
            w.into-is ∙ w.in_ok-push.ensures
            ∙ pushed-is dedupe w.if-dedupe.true pairs (get_or header place []) w.key.result.now (tree_of value) (key-is header pairs place below c.requires.few keys w.key.result.now w.key.ensures)
            ∙ ap (λ v. with_field dedupe (get_or header place []) v pairs) (sym (out.1 empty)) ∙ more [] empty
        | else-dedupe+in_ok-put w ↦
            w.into-is ∙ w.in_ok-put.ensures
            ∙ put-is dedupe w.if-dedupe.false pairs w.name.result.now (tree_of value)
            ∙ ap (λ n. with_field dedupe n (tree_of value) pairs) w.name.ensures
            ∙ ap (λ v. with_field dedupe (get_or header place w.name.result.now) v pairs) (sym (out.1 empty)) ∙ more w.name.result.now empty
      ];
      rest = sym out.0 ∙ drop-map value_in (place + 1) items;
      len = c.taken-value.ensures.len ∙ c.loop-place.invariant.len;
    }

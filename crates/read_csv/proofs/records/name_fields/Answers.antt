use Rattle.std.proofs.Common.{◌<◌, ◌≤◌, ◌++◌, ◌∷◌, [], length, take_all, ap₂, sym, ◌∙◌, arith}
use Rattle.std.specs.List.{zip}
use Rattle.std.proofs.lemmas.List.{length-map, take_more}
use Rattle.read_csv.proofs.Recording.{names_in, names-more, pairs-zip, values-same}
use Rattle.read_csv.proofs.records.name_fields.Goals as goal

pub loop-place-preserved : goal.loop-place-preserved
loop-place-preserved c =
    let fields = c.loop-place.fields in
    let place = c.loop-place.place in
    let field = c.index-fields-place.result in
    let name = c.in_ok-fields.field-0 in
    let names = c.args.names.now in
    let key = c.index-names-place.result in
    let below : place < length names = omega (arith, c.loop-place-test.true, c.loop-place.auto.place-end, c.requires) in
    record {
      names = names-more fields place field name (omega (arith, c.loop-place-test.true, c.loop-place.auto.fields, c.loop-place.auto.place-end))
          ∙ ap₂ (λ made text. made ++ text ∷ []) c.loop-place.invariant.names (c.in_ok-fields.ensures.same ∙ c.index-names-place.is)
          ∙ sym (take_more names place key below);
      values = values-same fields place field name ∙ c.loop-place.invariant.values;
    }

pub returns-clause-pairs : goal.returns-clause-pairs
returns-clause-pairs c =
    let fields = c.loop-place.fields in
    let place = c.loop-place.place in
    let names = c.args.names.now in
    let made = names_in fields in
    let all : length made ≤ place = omega (arith, c.loop-place-test.false, c.loop-place.auto.fields, c.loop-place.auto.place-end, length-map fields (λ field. field.name)) in
    let all_2 : length names ≤ place = omega (arith, c.loop-place-test.false, c.loop-place.auto.place-end, c.requires) in
    pairs-zip fields
    ∙ ap₂ zip (sym (take_all place made all) ∙ c.loop-place.invariant.names ∙ take_all place names all_2) c.loop-place.invariant.values

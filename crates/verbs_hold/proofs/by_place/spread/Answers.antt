use Rattle.std.proofs.Common.{◌≡◌, not, ◌∷◌, length, ap, ap₂, sym, ◌∙◌, arith}
use Rattle.std.proofs.lemmas.Bool.{and_parts, not-true}
use Rattle.std.proofs.lemmas.List.{length-map, nil_from_length}
use Rattle.std.proofs.lemmas.Option.{slice_get_within}
use Rattle.std.specs.Option.{option_map}
use Rattle.mlr_event.specs.Reading.{is_among}
use Rattle.mlr_event.proofs.Putting.{value_at-free}
use Rattle.mlr_record.specs.Fields.{pairs_of}
use Rattle.mlr_spec.specs.Pairs.{are_distinct, keys_of}
use Rattle.mlr_value.specs.Value.{tree_of}
use Rattle.verbs_hold.specs.ByPlace.{has_all_of, trees_of}
use Rattle.verbs_hold.proofs.ByPlace.{merged, merged-all, merged-free, merged-put}
use Rattle.verbs_hold.proofs.by_place.spread.Goals as goal

pub loop-field-init : goal.loop-field-init
loop-field-init c =
    let names = c.args.names.now in
    let values = c.args.values.now in
    let same = ap pairs_of c.into_iter-field-iterator.ensures.into_iter_gives.0 in record {
      table = c.requires.table;
      places = sym (length-map values (option_map tree_of)) ∙ ap length c.requires.free ∙ length-map names _;
      known = ap (has_all_of names) same ∙ c.requires.known;
      once = ap (λ pairs. are_distinct (keys_of pairs)) same ∙ c.requires.once;
      values = ap₂ (λ fields values. merged fields values names) same c.requires.free ∙ merged-free (pairs_of c.args.fields.items) names;
    }

pub overflow_add-next : goal.overflow_add-next
overflow_add-next c =
    let within = slice_get_within c.args.names.now c.in_ok-next.field-0 c.in-Some.field.name c.in_ok-next.ensures.place in
    omega (arith, within, c.loop-field.invariant.places)

pub loop-field-preserved : goal.loop-field-preserved
loop-field-preserved c =
    let loop = c.loop-field in
    let names = c.args.names.now in
    let field = c.in-Some.field in
    let value = tree_of field.value in
    let rest = pairs_of c.next.new.self.rest.items in
    let place = c.in_ok-next.field-0 in
    let steps : pairs_of loop.field-iterator.rest.items ≡ (field.name, value) ∷ rest = ap pairs_of c.in-Some.ensures.steps.0 in
    let known = and_parts (is_among names field.name) (has_all_of names rest) (sym (ap (has_all_of names) steps) ∙ loop.invariant.known) in
    let once = and_parts (not (is_among (keys_of rest) field.name)) (are_distinct (keys_of rest)) (sym (ap (λ pairs. are_distinct (keys_of pairs)) steps) ∙ loop.invariant.once) in
    record {
      table = c.in_ok-next.ensures.table ∙ loop.invariant.table;
      places = c.put_value.auto.values ∙ loop.invariant.places;
      known = known.1;
      once = once.1;
      values =
          ap (λ values. merged rest values names) c.in_ok-next.ensures.values
          ∙ merged-put field.name value rest (value_at-free field.name rest (not-true _ once.0)) (trees_of loop.values) names place c.requires.distinct c.in_ok-next.ensures.place
          ∙ ap (λ fields. merged fields (trees_of loop.values) names) (sym steps)
          ∙ loop.invariant.values;
    }

pub returns-clause-values : goal.returns-clause-values
returns-clause-values c =
    let loop = c.loop-field in
    let names = c.args.names.now in
    let rest = loop.field-iterator.rest in
    let none = nil_from_length rest.items (sym rest.ok.0 ∙ c.in-None.ensures.steps.0) in
    sym (merged-all (trees_of loop.values) names (length-map loop.values (option_map tree_of) ∙ loop.invariant.places))
    ∙ ap (λ rest. merged (pairs_of rest) (trees_of loop.values) names) (sym none)
    ∙ loop.invariant.values

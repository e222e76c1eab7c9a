use Rattle.std.proofs.Common.{◌≡◌, ◌<◌, ◌≤◌, ◌∙◌, ap, get_or, length, arith}
use Rattle.std.proofs.lemmas.Grind.{common_steps}
use Rattle.std.specs.Option.{option_map, option_or}
use Rattle.mlr_value.specs.Value.{tree_of}
use Rattle.verbs_state.specs.FillDown.{carried}
use Rattle.verbs_state.proofs.Filling.{filling-done, filling-more, filling-none, filling-old}
use Rattle.verbs_state.proofs.fill_down.fill_each.Goals as goal

pub loop-place-init : goal.loop-place-init
loop-place-init c = record {
  places = c.requires;
  filling = λ before keeps. filling-none c.args.options.now before c.args.fields.now c.args.kept.now keeps;
}

pub loop-place-preserved : goal.loop-place-preserved
loop-place-preserved c =
    let loop = c.loop-place in
    let options = c.args.options.now in
    let name = c.name-item.result in
    let named : name ≡ get_or options.names loop.place name = c.name-item.is ∙ ap (λ names. get_or names loop.place name) c.as_slice-name-items.ensures in
    let below : loop.place < length options.names = omega (arith, c.loop-place-test.true, ap length c.as_slice-name-items.ensures) in
    let room : loop.place < length loop.kept = omega (arith, below, loop.invariant.places) in
    record {
      places = grind (arith, common_steps, loop.invariant.places);
      filling = λ before keeps.
          let so_far = loop.invariant.filling before keeps in
          let old = filling-old options before c.args.fields.now loop.place name loop.kept loop.fields c.index-kept-place.result named below room so_far in
          let filled = c.in_ok-fill.ensures.fields before in
          filling-more options before c.args.fields.now loop.place name loop.kept loop.fields c.index-kept-place.result named below room so_far
          c.fill.new.kept c.fill.new.fields ((rw c.as_slice.ensures at filled) old) (c.in_ok-fill.ensures.kept ∙ ap (λ n. option_or (carried options.blank n loop.fields) (option_map tree_of (get_or loop.kept loop.place c.index-kept-place.result))) c.as_slice.ensures);
    }

pub returns : goal.returns
returns c =
    let loop = c.loop-place in
    let ended : length c.args.options.now.names ≤ loop.place = omega (arith, c.loop-place-test.false, ap length c.as_slice-name-items.ensures) in record {
      fields = λ before keeps. (filling-done c.args.options.now before c.args.fields.now loop.place loop.kept loop.fields ended loop.invariant.places (loop.invariant.filling before keeps)).0;
      kept = λ before keeps. (filling-done c.args.options.now before c.args.fields.now loop.place loop.kept loop.fields ended loop.invariant.places (loop.invariant.filling before keeps)).1;
      length = loop.auto.kept;
    }

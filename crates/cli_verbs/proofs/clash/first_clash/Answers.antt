use Rattle.std.proofs.Common.{◌∙◌, sym, true, false, ap, take}
use Rattle.std.specs.Prelude.{map}
use Rattle.std.specs.List.{list_any}
use Rattle.cli_verbs.specs.Clash.{are_rivals}
use Rattle.cli_verbs.proofs.Clashing.{clash_step}
use Rattle.cli_verbs.proofs.clash.first_clash.Goals as goal

pub returns-then-has_rival : goal.returns-then-has_rival
returns-then-has_rival c =
    let groups = map (λ group. (map (λ name. name.now) group.0.now, group.1)) c.args.groups.now in
    let before = take c.loop-place.place c.args.options.now in
    let test = sym c.if-has_rival.true ∙ c.has_rival.ensures ∙ ap (λ name. list_any (λ other. are_rivals groups name other.name) before) c.as_slice.ensures in
    sym (clash_step groups c.args.options.now c.loop-place.place c.index-options-place.result true c.loop-place-test.true c.index-options-place.is test)
    ∙ c.loop-place.invariant

pub loop-place-preserved : goal.loop-place-preserved
loop-place-preserved c =
    let groups = map (λ group. (map (λ name. name.now) group.0.now, group.1)) c.args.groups.now in
    let before = take c.loop-place.place c.args.options.now in
    let test = sym c.if-has_rival.false ∙ c.has_rival.ensures ∙ ap (λ name. list_any (λ other. are_rivals groups name other.name) before) c.as_slice.ensures in
    sym (clash_step groups c.args.options.now c.loop-place.place c.index-options-place.result false c.loop-place-test.true c.index-options-place.is test)
    ∙ c.loop-place.invariant

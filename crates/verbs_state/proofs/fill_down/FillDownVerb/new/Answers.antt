use Rattle.std.proofs.Common.{◌≡◌, None, length, map, replicate, ap, ◌∙◌, arith}
use Rattle.std.specs.Option.{option_map}
use Rattle.mlr_value.specs.Value.{tree_of}
use Rattle.verbs_state.proofs.Filling.{keeps-none}
use Rattle.verbs_state.proofs.fill_down.FillDownVerb.new.Goals as goal

pub returns-clause-represents : goal.returns-clause-represents
returns-clause-represents c =
    let all : c.loop.counter ≡ length c.args.options.names = omega (arith, c.loop-test.false, c.loop.auto.counter-end, c.len-count.ensures) in
    ap (map (option_map tree_of)) (c.loop.invariant ∙ ap (λ count. replicate count None) all) ∙ keeps-none c.args.options c.args.options.names

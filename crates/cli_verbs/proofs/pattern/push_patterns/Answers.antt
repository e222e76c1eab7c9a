use Rattle.std.proofs.Common.{◌∷◌, false, map, ◌+◌, drop, subst, ap, sym, ◌∙◌}
use Rattle.std.proofs.lemmas.List.{drop_all, drop_more}
use Rattle.mlr_pattern.specs.Several.{patterns_in}
use Rattle.cli_verbs.specs.PatternWords.{pattern_in}
use Rattle.cli_verbs.proofs.Compiling.{Compiling, compiling-ends, compiling-goes}
use Rattle.cli_verbs.proofs.pattern.push_patterns.Goals as goal

pub loop-name-preserved : goal.loop-name-preserved
loop-name-preserved c =
    let names = c.args.names.now in
    let i = c.loop-name.name-index in
    let words = map (pattern_in c.args.number false) in
    let item = sym (c.as_slice.ensures ∙ c.name-item.is) in
    compiling-goes _ _ _ _ _ _
    (subst (λ rest. Compiling (words names) (words rest) (patterns_in c.args.patterns.now) (patterns_in c.loop-name.patterns))
    (drop_more names i c.name-item.result c.loop-name-test.true ∙ ap (λ name. name ∷ drop (i + 1) names) item) c.loop-name.invariant)
    c.in_ok-push_pattern.ensures.compiled c.in_ok-push_pattern.ensures.good

pub returns-clause-compiled : goal.returns-clause-compiled
returns-clause-compiled c =
    let words = map (pattern_in c.args.number false) in
    compiling-ends _ _ _
    (subst (λ rest. Compiling (words c.args.names.now) (words rest) (patterns_in c.args.patterns.now) (patterns_in c.loop-name.patterns))
    (drop_all c.loop-name.name-index c.args.names.now c.loop-name-test.false) c.loop-name.invariant)

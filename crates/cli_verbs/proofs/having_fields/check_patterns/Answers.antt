use Rattle.std.proofs.Common.{rules, ◌≡◌, ◌∷◌, ◌+◌, drop, subst, ap, sym, ◌∙◌}
use Rattle.std.proofs.lemmas.List.{drop_more}
use Rattle.cli_verbs.specs.HavingFields.{patterns_among}
use Rattle.cli_verbs.proofs.Passing.{Passing, passing_goes, passing_refused}
use Rattle.cli_verbs.proofs.having_fields.check_patterns.Goals as goal

pub returns-in_err-check_pattern-clause-refused : goal.returns-in_err-check_pattern-clause-refused
returns-in_err-check_pattern-clause-refused c =
    let options = c.args.options.now in
    let i = c.loop-given.given-index in
    let next : drop i options ≡ c.given-item.result ∷ drop (i + 1) options =
    drop_more options i c.given-item.result c.loop-given-test.true ∙ ap (λ given. given ∷ drop (i + 1) options) (sym c.given-item.is) in
    let passing = subst (λ rest. Passing (patterns_among options) (patterns_among rest)) next c.loop-given.invariant in
    let refused = passing_refused _ _ _ c.in_err-check_pattern.field-0.0 passing c.in_err-check_pattern.ensures.refused in
    search rules

pub loop-given-preserved : goal.loop-given-preserved
loop-given-preserved c =
    let options = c.args.options.now in
    let i = c.loop-given.given-index in
    let next : drop i options ≡ c.given-item.result ∷ drop (i + 1) options =
    drop_more options i c.given-item.result c.loop-given-test.true ∙ ap (λ given. given ∷ drop (i + 1) options) (sym c.given-item.is) in
    passing_goes _ _ _ (subst (λ rest. Passing (patterns_among options) (patterns_among rest)) next c.loop-given.invariant)
    c.in_ok-check_pattern.ensures.good

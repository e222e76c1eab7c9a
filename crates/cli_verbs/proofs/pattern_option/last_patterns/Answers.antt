use Rattle.std.proofs.Common.{rules, ◌≡◌, ◌∷◌, [], ◌+◌, drop, subst, ap, sym, ◌∙◌, refl}
use Rattle.std.proofs.lemmas.List.{drop_all, drop_more}
use Rattle.mlr_pattern.specs.Several.{patterns_in}
use Rattle.cli_verbs.specs.Compiled.{AreCompiled}
use Rattle.cli_verbs.specs.PatternOption.{last_patterns, later_patterns, patterns_among}
use Rattle.cli_verbs.specs.PatternWords.{AreGoodPatterns}
use Rattle.cli_verbs.proofs.Passing.{Passing, passing_begins, passing_goes, passing_refused}
use Rattle.cli_verbs.proofs.pattern_option.last_patterns.Goals as goal

pub loop-given-init : goal.loop-given-init
loop-given-init c = record {
  last = ([], (subst (AreCompiled []) (sym c.new-patterns.ensures) tt, refl));
  passing = passing_begins (patterns_among c.args.options.now);
}

pub loop-given-preserved : goal.loop-given-preserved
loop-given-preserved c =
    let options = c.args.options.now in
    let i = c.loop-given.given-index in
    let next : drop i options ≡ c.given-item.result ∷ drop (i + 1) options =
    drop_more options i c.given-item.result c.loop-given-test.true ∙ ap (λ given. given ∷ drop (i + 1) options) (sym c.given-item.is) in
    let last = c.loop-given.invariant.last in
    record {
      last = (
        later_patterns last.0 c.given-item.result,
        (c.in_ok-patterns.ensures.compiled last.0 last.1.0, sym (ap (last_patterns last.0) next) ∙ last.1.1),
      );
      passing = passing_goes _ _ _ (subst (λ rest. Passing (patterns_among options) (patterns_among rest)) next c.loop-given.invariant.passing)
          c.in_ok-patterns.ensures.good;
    }

pub returns-in_err-patterns-clause-refused : goal.returns-in_err-patterns-clause-refused
returns-in_err-patterns-clause-refused c =
    let options = c.args.options.now in
    let i = c.loop-given.given-index in
    let next : drop i options ≡ c.given-item.result ∷ drop (i + 1) options =
    drop_more options i c.given-item.result c.loop-given-test.true ∙ ap (λ given. given ∷ drop (i + 1) options) (sym c.given-item.is) in
    let passing = subst (λ rest. Passing (patterns_among options) (patterns_among rest)) next c.loop-given.invariant.passing in
    let refused = passing_refused _ _ _ c.in_err-patterns.field-0.0 passing c.in_err-patterns.ensures.refused in
    search rules

pub returns-clause-compiled : goal.returns-clause-compiled
returns-clause-compiled c =
    let last = c.loop-given.invariant.last in
    let done = drop_all c.loop-given.given-index c.args.options.now c.loop-given-test.false in
    subst (λ words. AreCompiled words (patterns_in c.loop-given.patterns)) (sym (ap (last_patterns last.0) done) ∙ last.1.1) last.1.0

pub returns-clause-good : goal.returns-clause-good
returns-clause-good c =
    let done = drop_all c.loop-given.given-index c.args.options.now c.loop-given-test.false in
    c.loop-given.invariant.passing.good (subst (λ rest. AreGoodPatterns (patterns_among rest)) (sym done) tt)

use Rattle.std.proofs.Common.{◌≡◌, [], ◌++◌, ap, sym, subst, ◌∙◌}
use Rattle.verb_chain.specs.Chain.{chain}
use Rattle.verb_chain.specs.Represents as chained
use Rattle.outlet.specs.Represents as outlet
use Rattle.serial_core.specs.Reading.{ReaderRepresents}
use Rattle.verb_specs.specs.Verbs.{verbs_with}
use Rattle.plan_verbs.specs.Verbs.{WasGiven, meaning_in}
use Rattle.chain_core.proofs.Firsts.{same-first}
use Rattle.chain_core.proofs.serial.Serial.new.Goals as goal

pub returns : goal.returns
returns c command is =
    let plan = c.args.plan.now in
    let verbs = verbs_with plan.verbs c.args.lefts in
    let same : verbs ≡ command.verbs = sym is.verbs in
    let represents = c.in_ok-begin.ensures.represents verbs c.in_ok-chain.ensures in
    let made = c.in_ok-begin.ensures.made verbs c.in_ok-chain.ensures in
    let style = same-first (sym c.in_ok-outlet.ensures.styles_are ∙ is.write) in
    c.new-4.ensures command
    (subst (ReaderRepresents command.origin [] []) (sym c.into_inner.ensures) (subst (λ origin. ReaderRepresents origin [] [] c.in_ok-reader.reader.reader) (sym is.origin) c.in_ok-reader.ensures))
    (ap (chained.verbs_in meaning_in) c.into_stages.ensures ∙ represents.verbs_are ∙ same)
    (subst (chained.Represents meaning_in WasGiven []) (sym c.into_stages.ensures) represents.stages)
    (made ∙ ap (λ before. before ++ chain verbs []) c.new-made.ensures ∙ ap (λ vs. chain vs []) same)
    (subst (outlet.Represents command.write []) (sym c.into_inner-2.ensures) (subst (λ w. outlet.Represents w [] c.in_ok-outlet.outlet.outlet) style c.in_ok-outlet.ensures.represents))

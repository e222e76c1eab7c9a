use Rattle.std.proofs.Common.{false, ap, ◌∙◌, subst, subst₂}
use Rattle.regex.specs.Patterns.{Config, Refuses}
use Rattle.regex.specs.Failures.{IsRightKind}
use Rattle.regex.specs.Views.{builder_config, builder_source}
use Rattle.regex.specs.declared.builder.RegexBuilder.{RegexBuilder}
use Rattle.mlr_pattern.specs.Reading.{options}
use Rattle.mlr_pattern.proofs.Reading.{no_pattern}
use Rattle.mlr_pattern.proofs.read.read_pattern.Goals as goal

pub returns-in-Err-Syntax-clause-bad : goal.returns-in-Err-Syntax-clause-bad
returns-in-Err-Syntax-clause-bad c =
    let case = c.args.either_case in
    let built = c.case_insensitive-builder in
    let failed = c.in-Err-Syntax in
    let config = ap (λ (b : RegexBuilder). record (builder_config b) { utf8 = false }) built.ensures
    ∙ ap (λ (known : Config). record known { utf8 = false; flags = record known.flags { case_insensitive = case } }) c.new.ensures.config in
    let source = ap builder_source built.ensures ∙ c.new.ensures.source ∙ c.in-Ok.ensures.cases.0 in
    let kind = failed.field-0-0.kind in
    λ _ is. no_pattern (options case) c.args.text.now kind
    (subst₂ (λ known text. Refuses known text kind) config source (failed.ensures.refused failed.field-0-0 failed.field-0-is))
    (subst (IsRightKind _ _) failed.field-0-is failed.ensures.kind) is.1

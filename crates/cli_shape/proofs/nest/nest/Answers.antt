use Rattle.std.proofs.Common.{◌≡◌, ℕ, List, ap, ◌∙◌}
use Rattle.std.specs.Prelude.{codes}
use Rattle.cli_choices.specs.Choices.{separator_or}
use Rattle.verbs_nest.specs.declared.nest.Nest.{Nest}
use Rattle.verbs_nest.specs.declared.nest.NestForm.{NestForm}
use Rattle.cli_shape.proofs.nest.nest.Goals as goal

-- options of equal parts
same : (f f' : List ℕ) (g g' : NestForm) (s s' p p' : List ℕ) → f ≡ f' → g ≡ g' → s ≡ s' → p ≡ p'
    → ◌≡◌ {A = Nest} (record { field = f; form = g; separator = s; pair_separator = p }) (record { field = f'; form = g'; separator = s'; pair_separator = p' })
same f f' g g' s s' p p' fields forms separators pairs =
    ap (λ x. record { field = x; form = g; separator = s; pair_separator = p }) fields
    ∙ ap (λ x. record { field = f'; form = x; separator = s; pair_separator = p }) forms
    ∙ ap (λ x. record { field = f'; form = g'; separator = x; pair_separator = p }) separators
    ∙ ap (λ x. record { field = f'; form = g'; separator = s'; pair_separator = x }) pairs

pub returns : goal.returns
returns c =
    same _ _ _ _ _ _ _ _ c.in_ok-text_or.ensures c.form_of.ensures
    (c.in_ok-separator_or.ensures ∙ ap (λ option. separator_or (codes ";") option c.args.given.now.options) c.separator_option.ensures) c.in_ok-separator_or-2.ensures

use Rattle.std.proofs.Common.{◌++◌, ◌∷◌, ◌∙◌, [], false}
use Rattle.std.proofs.lemmas.List.{append-nil}
use Rattle.mlr_event.specs.declared.event.Body.TheVariants.{Text}
use Rattle.writers.specs.Runs.{line_end_after}
use Rattle.writers.specs.Written.{written}
use Rattle.writers.proofs.Among.{list-with, list-without, rest, text-among}
use Rattle.writers.proofs.Growing.{written-append}
use Rattle.writers.proofs.laws.text_laws.Goals as goal

pub returns-clause-text : goal.returns-clause-text
returns-clause-text c = λ opts before following text ended bare. (
  rest opts ended before following,
  written-append opts before following ended,
  text-among opts bare ended before following text,
)

pub returns-clause-listed : goal.returns-clause-listed
returns-clause-listed c = λ opts before following text ended format_is listed. (
  rest opts ended (before ++ Text text ∷ []) following,
  list-without opts format_is listed ended before text following,
  list-with opts format_is listed ended before text following,
)

pub returns-clause-last : goal.returns-clause-last
returns-clause-last c = λ opts before text format_is listed.
    list-with opts format_is listed false before text []
    ∙ append-nil ((written opts before false ++ line_end_after before) ++ text)

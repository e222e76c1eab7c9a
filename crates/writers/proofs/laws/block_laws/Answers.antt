use Rattle.std.proofs.Common.{◌∙◌, ◌++◌, map, refl, ap, true, false}
use Rattle.std.proofs.lemmas.List.{append-nil}
use Rattle.mlr_event.specs.declared.options.Format.TheVariants.{Pprint}
use Rattle.writers.specs.Cells.{shaped}
use Rattle.writers.specs.Pprint.{block_end}
use Rattle.writers.proofs.Blocks.{ends, held, held-grows}
use Rattle.writers.proofs.Bodies.{records-are}
use Rattle.writers.proofs.Wholes.{written-whole}
use Rattle.writers.proofs.laws.block_laws.Goals as goal

pub returns-clause-pprint : goal.returns-clause-pprint
returns-clause-pprint c = λ opts rs format_is.
    let records = map (shaped opts) rs in
    written-whole Pprint opts format_is (held opts) refl (held-grows opts) rs true
    ∙ ap (λ t. held opts records ++ block_end opts t) (records-are opts rs)
    ∙ ends opts records

pub returns-clause-held : goal.returns-clause-held
returns-clause-held c = λ opts rs format_is.
    written-whole Pprint opts format_is (held opts) refl (held-grows opts) rs false ∙ append-nil (held opts (map (shaped opts) rs))

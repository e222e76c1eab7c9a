use Rattle.std.proofs.Common.{◌∙◌, ◌++◌, ◌∷◌, [], map, refl, true, false}
use Rattle.std.specs.List.{flat_map}
use Rattle.std.proofs.lemmas.List.{append-nil}
use Rattle.mlr_event.specs.declared.event.Body.TheVariants.{Rec}
use Rattle.mlr_event.specs.declared.options.Format.TheVariants.{Json}
use Rattle.mlr_spec.specs.Json.{json_record}
use Rattle.writers.specs.Cells.{shaped}
use Rattle.writers.specs.Json.{style_of}
use Rattle.writers.specs.Runs.{list_begun}
use Rattle.writers.proofs.Lists.{bare-ends, bare-grows, list-ends, listed-grows}
use Rattle.writers.proofs.Wholes.{written-whole}
use Rattle.writers.proofs.laws.list_laws.Goals as goal

pub returns-clause-listed : goal.returns-clause-listed
returns-clause-listed c = λ opts rs format_is listed.
    written-whole Json opts format_is (list_begun (json_record (style_of opts))) refl (listed-grows opts listed) rs true ∙ list-ends opts listed rs

pub returns-clause-begun : goal.returns-clause-begun
returns-clause-begun c = λ opts rs format_is listed.
    let begun = list_begun (json_record (style_of opts)) in
    written-whole Json opts format_is begun refl (listed-grows opts listed) rs false ∙ append-nil (begun (map (shaped opts) rs))

pub returns-clause-bare : goal.returns-clause-bare
returns-clause-bare c = λ opts rs ended format_is bare.
    let lines = flat_map (λ r. json_record (style_of opts) r ++ 10 ∷ []) in
    written-whole Json opts format_is lines refl (bare-grows opts bare) rs ended ∙ bare-ends opts bare ended (lines (map (shaped opts) rs)) (map Rec rs)

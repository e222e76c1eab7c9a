use Rattle.std.proofs.Common.{◌∙◌, map, refl}
use Rattle.std.specs.List.{flat_map}
use Rattle.mlr_event.specs.declared.options.Format.TheVariants.{Jsonl, Dkvp, Nidx, Xtab}
use Rattle.text_columns.specs.Xtab.{xtab_lines}
use Rattle.writers.specs.Cells.{shaped}
use Rattle.writers.specs.Dkvp.{dkvp_record}
use Rattle.writers.specs.Jsonl.{jsonl_record}
use Rattle.writers.specs.Nidx.{nidx_record}
use Rattle.writers.specs.Runs.{tables}
use Rattle.writers.proofs.Lines.{lines-grow, xtab-grows}
use Rattle.writers.proofs.Wholes.{no-end, written-whole}
use Rattle.writers.proofs.laws.line_laws.Goals as goal

pub returns-clause-jsonl : goal.returns-clause-jsonl
returns-clause-jsonl c = λ opts rs ended format_is.
    let lines = flat_map jsonl_record in
    written-whole Jsonl opts format_is lines refl (lines-grow jsonl_record) rs ended ∙ no-end ended (lines (map (shaped opts) rs))

pub returns-clause-dkvp : goal.returns-clause-dkvp
returns-clause-dkvp c = λ opts rs ended format_is.
    let lines = flat_map (dkvp_record opts) in
    written-whole Dkvp opts format_is lines refl (lines-grow (dkvp_record opts)) rs ended ∙ no-end ended (lines (map (shaped opts) rs))

pub returns-clause-nidx : goal.returns-clause-nidx
returns-clause-nidx c = λ opts rs ended format_is.
    let lines = flat_map (nidx_record opts) in
    written-whole Nidx opts format_is lines refl (lines-grow (nidx_record opts)) rs ended ∙ no-end ended (lines (map (shaped opts) rs))

pub returns-clause-xtab : goal.returns-clause-xtab
returns-clause-xtab c = λ opts rs ended format_is.
    written-whole Xtab opts format_is (tables xtab_lines) refl xtab-grows rs ended ∙ no-end ended (tables xtab_lines (map (shaped opts) rs))

use Rattle.std.proofs.Common.{◌≡◌, List, length, sym, ◌∙◌}
use Rattle.std.proofs.lemmas.List.{length-map}
use Rattle.mlr_record.specs.declared.record.Field.{Field}
use Rattle.mlr_record.specs.Fields.{pair_of, pairs_of}
use Rattle.writers.specs.declared.form.Part.TheVariants.{Keys}
use Rattle.writers.specs.Cells.{part_text, texts}
use Rattle.writers.proofs.Texts.{other-length}
use Rattle.writers.proofs.keys.are_keys.Goals as goal

pub returns-then-keys-fields : goal.returns-then-keys-fields
returns-then-keys-fields c =
    let fields : List Field = c.args.fields.now in
    other-length c.args.keys.now (texts Keys (pairs_of fields))
    (λ same. c.if-keys-fields.true (same ∙ length-map (pairs_of fields) (part_text Keys) ∙ length-map fields pair_of))

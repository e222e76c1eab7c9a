use Rattle.std.proofs.Common.{◌≡◌, ◌||◌, false, List, [], ◌∷◌, refl, ap, sym, ◌∙◌}
use Rattle.std.specs.List.{list_any}
use Rattle.std.proofs.lemmas.Bool.{not-true}
use Rattle.mlr_spec.specs.Tree.{is_collection}
use Rattle.mlr_value.specs.Value.{tree_of}
use Rattle.mlr_record.specs.declared.record.Field.{Field}
use Rattle.mlr_record.specs.Fields.{pairs_of}
use Rattle.mlr_record.proofs.record.Record.is_plain.Goals as goal

-- whether any value is a collection, asked of the pairs and of the fields
of-fields : (fields : List Field) → list_any (λ pair. is_collection pair.1) (pairs_of fields) ≡ list_any (λ field. is_collection (tree_of field.value)) fields
of-fields [] = refl
of-fields (field ∷ fields) = ap (λ t. is_collection (tree_of field.value) || t) (of-fields fields)

pub returns-clause-plain : goal.returns-clause-plain
returns-clause-plain c is =
    ap (list_any (λ pair. is_collection pair.1)) (sym c.self.view_is)
    ∙ of-fields c.self.inside.fields.items
    ∙ ap (list_any (λ field. is_collection (tree_of field.value))) (sym c.deref.ensures.value)
    ∙ c.hold_memory.ensures (not-true c.hold_memory.result is)

use Rattle.std.proofs.Common.{◌≡◌, ℕ, ◌++◌, false, List, map, drop}
use Rattle.std.specs.Option.{unwrap_or}
use Rattle.mlr_spec.specs.Pairs.{keys_of, value_at}
use Rattle.mlr_event.specs.Reading.{is_among}
use Rattle.mlr_record.specs.Fields.{pairs_of}
use Rattle.mlr_spec.specs.JsonGrammar.{text_value}
use Rattle.verbs_base.specs.Choosing.{once}
use Rattle.verbs_fields.specs.Template.{field_or}
use Rattle.verbs_fields.proofs.Once.{fresh, field_of}
use Rattle.verbs_fields.proofs.template.put_each_named.Given as goal

-- the record so far with the fields of the remaining names is the whole record, and the values of these names
-- are still there
abbrev pub invariant-loop-name : goal.invariant-loop-name
invariant-loop-name l = record {
  into : l.into ++ map (field_of (λ name. unwrap_or (value_at name (pairs_of l.fn.fields.items)) (text_value l.fill))) (fresh (keys_of l.into) (drop l.name-index l.names)) ≡ map (field_or l.fill (pairs_of l.fn.fields.items)) (once l.names);
  left : (name : List ℕ) → is_among (keys_of l.into) name ≡ false → value_at name (pairs_of l.fields.items) ≡ value_at name (pairs_of l.fn.fields.items);
}

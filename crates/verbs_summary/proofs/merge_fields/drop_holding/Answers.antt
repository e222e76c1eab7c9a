use Rattle.std.proofs.Common.{◌∙◌, ℕ, List, not, rules}
use Rattle.std.specs.Prelude.{is_some}
use Rattle.std.proofs.lemmas.Fn.{filter_same}
use Rattle.mlr_spec.specs.Tree.{Tree}
use Rattle.mlr_record.specs.Fields.{pair_of}
use Rattle.verbs_base.proofs.Filters.{passed, passed-distinct}
use Rattle.verbs_summary.specs.Shortened.{shortened}
use Rattle.verbs_summary.proofs.merge_fields.drop_holding.Goals as goal

pub of_fields-requires : goal.of_fields-requires
of_fields-requires c =
    let all = c.into_fields-fields.ensures in
    let test = λ (pair : List ℕ × Tree). not (is_some (shortened c.args.texts.now pair.0)) in
    passed-distinct test c.args.from c.into_fields-fields.result.items c.retain.new.self.items all.fields
    (filter_same _ (λ field. test (pair_of field)) _ (λ x b f k. search rules) c.into_fields-fields.result.items c.retain.new.self.items c.retain.ensures.filtered) all.distinct

pub returns : goal.returns
returns c =
    let all = c.into_fields-fields.ensures in
    let test = λ (pair : List ℕ × Tree). not (is_some (shortened c.args.texts.now pair.0)) in
    c.of_fields.ensures
    ∙ passed test c.args.from c.into_fields-fields.result.items c.retain.new.self.items all.fields
    (filter_same _ (λ field. test (pair_of field)) _ (λ x b f k. search rules) c.into_fields-fields.result.items c.retain.new.self.items c.retain.ensures.filtered)

use Rattle.std.proofs.Common.{◌≡◌, [], length, ap, ap₂, sym, ◌∙◌}
use Rattle.std.specs.List.{zip}
use Rattle.std.specs.Vec.{with_items}
use Rattle.std.proofs.lemmas.List.{with_items_is}
use Rattle.std.proofs.lemmas.Result.{IfOk-weaker}
use Rattle.mlr_record.specs.Fields.{pairs_of}
use Rattle.mlr_event.specs.Reading.{distinct_names}
use Rattle.mlr_event.proofs.Distinct.{length-distinct}
use Rattle.read_csv.specs.OpenRow.{values_in}
use Rattle.read_csv.proofs.records.full_record.Goals as goal

pub name_fields-requires : goal.name_fields-requires
name_fields-requires c = ap length c.keys.ensures ∙ length-distinct [] c.args.names.now ∙ c.requires.full ∙ sym c.deref_mut.ensures.len

pub named_record-requires-clause-named : goal.named_record-requires-clause-named
named_record-requires-clause-named c =
    let after = c.name_fields.new.fields in
    let whole = with_items_is c.args.fields.now after (c.name_fields.auto.fields ∙ c.deref_mut.ensures.len) in
    ap pairs_of whole ∙ c.in_ok-name_fields.ensures.pairs ∙ ap₂ zip c.keys.ensures (sym c.in_ok-name_fields.ensures.values)
    ∙ ap (λ items. zip (distinct_names c.args.names.now) (values_in items)) (sym whole)

pub returns-clause-made : goal.returns-clause-made
returns-clause-made c =
    let keys = distinct_names c.args.names.now in
    let own = c.args.fields.now in
    let after = c.name_fields.new.fields in
    let whole = with_items_is own after (c.name_fields.auto.fields ∙ c.deref_mut.ensures.len) in
    let same = ap values_in whole ∙ c.in_ok-name_fields.ensures.values ∙ ap values_in c.deref_mut.ensures.value in
    IfOk-weaker c.named_record.result (λ made. made ≡ zip keys (values_in (with_items own after).items)) (λ made. made ≡ zip keys (values_in own.items)) (λ made is. is ∙ ap (zip keys) same) c.named_record.ensures.made

use Rattle.std.proofs.Common.{length, ap, sym, ◌∙◌}
use Rattle.std.proofs.lemmas.List.{with_items_is}
use Rattle.std.specs.Prelude.{is_some}
use Rattle.std.specs.Arc.{arc_value}
use Rattle.std.specs.Vec.{with_items}
use Rattle.verbs_base.specs.Records.{Row, records}
use Rattle.verbs_summary.specs.KeptOfGroup.{KeepsValues}
use Rattle.verbs_summary.specs.declared.stats1.GroupSummaries.{GroupSummaries}
use Rattle.verbs_summary.proofs.Keeping.{keeps-many}
use Rattle.verbs_summary.proofs.Meeting.{first-some, holds-taken}
use Rattle.verbs_summary.proofs.stats1.GroupSummariesAtEnd.add.Goals as goal

pub add_values-requires : goal.add_values-requires
add_values-requires c =
    let options = arc_value c.args.self.now.options in
    ap length c.deref_mut.ensures.value
    ∙ keeps-many (KeepsValues options (records c.requires.0)) options.names c.args.self.now.summaries.items c.requires.1.summaries
    ∙ sym (ap (λ options. length options.names) c.deref.ensures)

pub returns-else-is_none-clause-holds : goal.returns-else-is_none-clause-holds
returns-else-is_none-clause-holds c = record {
  follows = λ rows holds.
      let options = arc_value c.args.self.now.options in
      let row : Row = (c.args.fields, c.args.arg4) in
      let after : GroupSummaries = record {
        options = c.args.self.now.options;
        first = c.args.self.now.first;
        summaries = with_items c.args.self.now.summaries c.add_values.new.summaries;
        met = c.add_values.new.met;
      } in
      let len = c.add_values.auto.summaries in
      let written = sym (with_items_is c.args.self.now.summaries c.add_values.new.summaries (len ∙ c.deref_mut.ensures.len)) in
      holds-taken options c.deref.result.now c.args.self.now after rows row c.deref_mut.result.now c.add_values.new.summaries c.deref.ensures c.deref_mut.ensures.value written holds
      c.in_ok-add_values.ensures.summaries c.in_ok-add_values.ensures.met
      (holds.first ∙ sym (first-some options.groups rows row (ap (λ first. is_some first) (sym holds.first) ∙ c.if-is_none.ensures)));
}

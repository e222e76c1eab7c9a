use Rattle.std.proofs.Common.{◌≡◌, [], ap, sym, subst, ◌∙◌}
use Rattle.std.specs.Arc.{arc_value}
use Rattle.std.specs.Option.{unwrap_or}
use Rattle.std.proofs.lemmas.List.{with_items_is}
use Rattle.std.proofs.lemmas.Result.{on_ok_weaker}
use Rattle.stat_base.specs.Values.{values_of}
use Rattle.verbs_base.specs.Records.{records}
use Rattle.verbs_summary.specs.KeptOfGroup.{KeepsEach, KeepsValues, first_of}
use Rattle.verbs_summary.proofs.Meeting.{first-fields, made-given}
use Rattle.verbs_summary.proofs.stats1.GroupSummariesAtEnd.finish.Goals as goal
use Rattle.verbs_summary.proofs.stats1.GroupSummariesAtEnd.finish.Goals.{in-Some, in-None+in_ok-made-in-None}

pub returns-clause-given : goal.returns-clause-given
returns-clause-given c =
    on_ok_weaker c.push_made.result
    (λ pushed. record {
      gives = λ rows holds.
          let len = c.sort_all.auto.summaries in
          let options = arc_value c.args.self.now.options in
          let keeps = subst (KeepsEach (KeepsValues options (records rows)) options.names) (sym c.deref_mut.ensures.value) holds.summaries in
          let arranges = c.in_ok-sort_all.ensures options.statistics (λ name. values_of name (records rows)) options.names keeps in
          let first : c.match-take.made ≡ unwrap_or (first_of options.groups rows) [] = elim c.match-take.branch [
            | in-Some w ↦ w.made-is ∙ sym (ap (λ o. unwrap_or o []) (sym (c.take.ensures.value ∙ holds.first) ∙ w.in-Some.is))
            | in-None+in_ok-made-in-None w ↦ w.made-is ∙ w.in_ok-made-in-None.ensures ∙ sym (ap (λ o. unwrap_or o []) (sym (c.take.ensures.value ∙ holds.first) ∙ w.in-None.is))
          ] in
          made-given options c.deref.result.now c.sort_all.new.summaries c.deref-2.result.now c.deref-3.result.now c.args.self.now.met.items c.args.out.now c.push_made.new.out c.match-take.made c.args.ctx rows
          c.deref.ensures (c.deref-2.ensures.value ∙ with_items_is c.args.self.now.summaries c.sort_all.new.summaries (len ∙ c.deref_mut.ensures.len)) c.deref-3.ensures.value pushed arranges holds.met (first ∙ first-fields options.groups rows);
    })
    c.push_made.ensures

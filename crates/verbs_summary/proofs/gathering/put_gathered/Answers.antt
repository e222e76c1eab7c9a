use Rattle.std.proofs.Common.{◌≡◌, ◌++◌, ℕ, List, length, ap, sym, subst, ◌∙◌}
use Rattle.std.specs.List.{flat_map}
use Rattle.std.proofs.lemmas.List.{with_items_is}
use Rattle.std.proofs.lemmas.Result.{on_ok_weaker}
use Rattle.mlr_record.specs.Fields.{pairs_of}
use Rattle.mlr_spec.specs.Pairs.{put_each}
use Rattle.mlr_stats.specs.Kept.{Arranges, Summarizes}
use Rattle.mlr_stats.specs.Statistic.{fields_of}
use Rattle.mlr_stats.specs.declared.summary.Summary.{Summary}
use Rattle.verbs_base.specs.Records.{Fields}
use Rattle.verbs_summary.specs.KeptOfGroup.{KeepsEach}
use Rattle.verbs_summary.specs.Shortened.{values_of_short}
use Rattle.verbs_summary.proofs.Keeping.{keeps-many}
use Rattle.verbs_summary.proofs.gathering.put_gathered.Goals as goal

pub append_summaries-requires : goal.append_summaries-requires
append_summaries-requires c =
    let accumulators = c.args.statistics.now in
    let values = values_of_short c.args.texts.now c.args.fields.now in
    let names = c.take_fields.new.self.names in
    let sorted = c.sort_all.new.summaries in
    let keeps = subst (KeepsEach (λ name. Summarizes accumulators (values name)) names) (sym c.deref_mut.ensures.value) c.in_ok-take_fields.ensures.summaries in
    let is : c.deref.result.now ≡ sorted = c.deref.ensures.value ∙ with_items_is c.take_fields.new.self.summaries sorted (c.sort_all.auto.summaries ∙ c.deref_mut.ensures.len) in
    ap length is
    ∙ keeps-many (λ name. Arranges accumulators (values name)) names sorted (c.in_ok-sort_all.ensures accumulators values names keeps)
    ∙ ap length (sym c.as_slice.ensures)

pub returns : goal.returns
returns c =
    on_ok_weaker c.put_fields.result
    (λ puts.
    let accumulators = c.args.statistics.now in
    let values = values_of_short c.args.texts.now c.args.fields.now in
    let made : List ℕ → Fields = λ name. fields_of accumulators name (values name) in
    let names = c.take_fields.new.self.names in
    let sorted = c.sort_all.new.summaries in
    let Q : List ℕ → Summary → Type 0 = λ name. Arranges accumulators (values name) in
    let keeps = subst (KeepsEach (λ name. Summarizes accumulators (values name)) names) (sym c.deref_mut.ensures.value) c.in_ok-take_fields.ensures.summaries in
    let is : c.deref.result.now ≡ sorted = c.deref.ensures.value ∙ with_items_is c.take_fields.new.self.summaries sorted (c.sort_all.auto.summaries ∙ c.deref_mut.ensures.len) in
    puts
    ∙ ap (put_each c.args.into.now)
    (c.in_ok-append_summaries.ensures values
    (subst (λ names. KeepsEach Q names c.deref.result.now) (sym c.as_slice.ensures)
    (subst (KeepsEach Q names) (sym is) (c.in_ok-sort_all.ensures accumulators values names keeps)))
    ∙ ap (λ items. pairs_of items ++ flat_map made c.as_slice.result.now) c.new-made.ensures.items
    ∙ ap (flat_map made) (c.as_slice.ensures ∙ c.in_ok-take_fields.ensures.names)))
    c.put_fields.ensures

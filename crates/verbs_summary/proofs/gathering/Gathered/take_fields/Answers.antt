use Rattle.std.proofs.Common.{◌≡◌, ◌+◌, ◌∷◌, ◌++◌, [], length, take, ap, sym, subst, ◌∙◌, arith}
use Rattle.std.proofs.lemmas.List.{length-map, take_all}
use Rattle.mlr_record.specs.Fields.{pair_of}
use Rattle.mlr_stats.specs.Kept.{Summarizes}
use Rattle.verbs_base.specs.Records.{Fields}
use Rattle.verbs_summary.specs.KeptOfGroup.{KeepsEach}
use Rattle.verbs_summary.specs.Shortened.{short_names, values_of_short}
use Rattle.verbs_summary.proofs.Shortening.{fields-more}
use Rattle.verbs_summary.proofs.gathering.Gathered.take_fields.Goals as goal

pub loop-field-preserved : goal.loop-field-preserved
loop-field-preserved c =
    let loop = c.loop-field in
    let i = loop.field-index in
    let fields = c.args.fields.now in
    let texts = c.args.texts.now in
    let pair = pair_of c.field-item.result in
    let new = c.take_field.new.self in
    let more : take (i + 1) fields ≡ take i fields ++ pair ∷ [] =
    subst (λ (f : Fields). take (i + 1) f ≡ take i f ++ pair ∷ []) c.fields-field-items.ensures
    (fields-more c.fields-field-items.result.now i c.field-item.result c.loop-field-test.true c.field-item.is) in
    record {
      seen = c.in_ok-take_field.ensures.seen;
      places = c.in_ok-take_field.ensures.places;
      names = c.in_ok-take_field.ensures.names (take i fields) loop.invariant.names ∙ ap (short_names texts) (sym more);
      summaries =
          subst (λ (f : Fields). KeepsEach (λ short. Summarizes c.args.statistics.now (values_of_short texts f short)) new.names new.summaries.items) (sym more)
          (c.in_ok-take_field.ensures.summaries (take i fields) loop.invariant.names loop.invariant.summaries);
    }

pub returns-clause-summaries : goal.returns-clause-summaries
returns-clause-summaries c =
    let loop = c.loop-field in
    let fields = c.args.fields.now in
    let items = c.fields-field-items.result.now in
    let count : length fields ≡ length items = ap length (sym c.fields-field-items.ensures) ∙ length-map items pair_of in
    let all : take loop.field-index fields ≡ fields = take_all loop.field-index fields (omega (arith, count, c.loop-field-test.false)) in
    subst (λ (f : Fields). KeepsEach (λ short. Summarizes c.args.statistics.now (values_of_short c.args.texts.now f short)) loop.self.names loop.self.summaries.items) all loop.invariant.summaries

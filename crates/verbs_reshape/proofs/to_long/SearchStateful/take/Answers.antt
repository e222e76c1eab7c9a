use Rattle.std.proofs.Common.{◌≡◌, ◌++◌, true, false, map, ap, sym, subst, ◌∙◌}
use Rattle.std.proofs.lemmas.Result.{on_ok_weaker}
use Rattle.mlr_record.specs.Fields.{pairs_of}
use Rattle.mlr_spec.specs.Pairs.{are_distinct, keys_of}
use Rattle.regex.specs.Bytes.{matcher_pattern}
use Rattle.verbs_base.specs.Records.{with_context}
use Rattle.verbs_pattern.specs.Cut.{kept_matching}
use Rattle.verbs_reshape.specs.ToLong.{ArePatternsOf, others, selected}
use Rattle.verbs_reshape.proofs.Splitting.{long-made}
use Rattle.verbs_reshape.proofs.to_long.SearchStateful.take.Goals as goal
use Rattle.verbs_reshape.proofs.to_long.SearchStateful.take.Goals.{in-Names+in_ok-split-in-Names, in-Patterns+in_ok-split-in-Patterns}

pub returns-clause-gives : goal.returns-clause-gives
returns-clause-gives c =
    let options = c.args.self.now.options.now in
    let fields = c.args.fields in
    let out = c.args.out.now in
    let split = c.match-options.split in
    let chosen : pairs_of split.selected.items ≡ selected options.fields fields = elim c.match-options.branch [
      | in-Names+in_ok-split-in-Names w ↦
          ap (λ split. pairs_of split.selected.items) w.split-is ∙ w.in_ok-split-in-Names.ensures.selected ∙ ap (λ which. selected which fields) (sym w.in-Names.is)
      | in-Patterns+in_ok-split-in-Patterns w ↦
          ap (λ split. pairs_of split.selected.items) w.split-is ∙ w.in_ok-split-in-Patterns.ensures.selected
          ∙ ap (λ patterns. kept_matching patterns false fields)
          (ap (map matcher_pattern) w.deref_mut.ensures.value ∙ subst (λ which. ArePatternsOf which (map matcher_pattern c.args.self.now.matchers.items)) w.in-Patterns.is c.requires.1)
          ∙ ap (λ which. selected which fields) (sym w.in-Patterns.is)
    ] in
    let left : split.others ≡ others options.fields fields = elim c.match-options.branch [
      | in-Names+in_ok-split-in-Names w ↦ ap (λ split. split.others) w.split-is ∙ w.in_ok-split-in-Names.ensures.others ∙ ap (λ which. others which fields) (sym w.in-Names.is)
      | in-Patterns+in_ok-split-in-Patterns w ↦
          ap (λ split. split.others) w.split-is ∙ w.in_ok-split-in-Patterns.ensures.others
          ∙ ap (λ patterns. kept_matching patterns true fields)
          (ap (map matcher_pattern) w.deref_mut.ensures.value ∙ subst (λ which. ArePatternsOf which (map matcher_pattern c.args.self.now.matchers.items)) w.in-Patterns.is c.requires.1)
          ∙ ap (λ which. others which fields) (sym w.in-Patterns.is)
    ] in
    let distinct : are_distinct (keys_of fields) ≡ true = elim c.match-options.branch [
      | in-Names+in_ok-split-in-Names w ↦ w.in_ok-split-in-Names.ensures.distinct
      | in-Patterns+in_ok-split-in-Patterns w ↦ w.in_ok-split-in-Patterns.ensures.distinct
    ] in
    on_ok_weaker c.push_split.result
    (λ pushed. record {
      gives = λ given holds. pushed ∙ ap (λ made. out ++ with_context c.args.ctx made) (long-made options fields (pairs_of split.selected.items) split.others distinct chosen left);
    })
    c.push_split.ensures

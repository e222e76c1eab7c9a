use Rattle.std.proofs.Common.{◌∷◌, [], map, ap, subst, ◌∙◌}
use Rattle.regex.specs.Bytes.{matcher_pattern}
use Rattle.verbs_summary.specs.Merging.{HasPatternsOf}
use Rattle.verbs_summary.proofs.Merging.{holding-made, matching-made, named-made}
use Rattle.verbs_summary.proofs.merge_fields.MergePerRecord.made.Goals as goal
use Rattle.verbs_summary.proofs.merge_fields.MergePerRecord.made.Goals.{in-Names+in_ok-made-in-Names, in-Patterns+in_ok-made-in-Patterns, in-Texts+in_ok-made-in-Texts}

pub returns-clause-made : goal.returns-clause-made
returns-clause-made c =
    let merge = c.args.self.now in
    let options = merge.options.now in
    let fields = c.args.fields in
    ap (λ made. made ∷ []) (elim c.match-options.branch [
      | in-Names+in_ok-made-in-Names w ↦ w.made-is ∙ w.in_ok-made-in-Names.ensures ∙ named-made options merge.statistics w.in-Names.names fields c.requires.1 w.in-Names.is
      | in-Patterns+in_ok-made-in-Patterns w ↦
          w.made-is ∙ w.in_ok-made-in-Patterns.ensures.made
          ∙ matching-made options merge.statistics w.in-Patterns.field-0 (map matcher_pattern w.deref_mut.result.now) fields c.requires.1 w.in-Patterns.is
          (ap (map matcher_pattern) w.deref_mut.ensures.value ∙ subst (λ inputs. HasPatternsOf inputs (map matcher_pattern merge.matchers.items)) w.in-Patterns.is c.requires.0)
      | in-Texts+in_ok-made-in-Texts w ↦ w.made-is ∙ w.in_ok-made-in-Texts.ensures ∙ holding-made options merge.statistics w.in-Texts.texts fields c.requires.1 w.in-Texts.is
    ])

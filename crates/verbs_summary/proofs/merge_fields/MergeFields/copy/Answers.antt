use Rattle.std.proofs.Common.{◌∙◌}
use Rattle.verbs_summary.specs.MergeFields.{merge_fields}
use Rattle.verbs_summary.proofs.Merging.{same-merge}
use Rattle.verbs_summary.proofs.merge_fields.MergeFields.copy.Goals as goal

pub returns-clause-meaning : goal.returns-clause-meaning
returns-clause-meaning c =
    let options = c.args.self.now in
    (λ i. merge_fields (record { accumulators = c.in_ok-copy_of.ensures i; inputs = c.in_ok-copy.field-0; output = (c.in_ok-copy_of-2.ensures.copied ∙ c.as_slice.ensures) i; keep = options.keep }))
    ∙ same-merge options c.in_ok-copy.field-0 options.inputs c.in_ok-copy.ensures

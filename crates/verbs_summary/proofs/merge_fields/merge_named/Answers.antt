use Rattle.std.proofs.Common.{◌≡◌, [], if◌then◌else◌, ap, sym, ◌∙◌}
use Rattle.mlr_spec.specs.Pairs.{put_each}
use Rattle.mlr_stats.specs.Statistic.{fields_of}
use Rattle.verbs_base.specs.Choosing.{dropped}
use Rattle.verbs_summary.specs.Merging.{values_named}
use Rattle.verbs_summary.proofs.merge_fields.merge_named.Goals as goal
use Rattle.verbs_summary.proofs.merge_fields.merge_named.Goals.{then-options, else-options}

pub returns : goal.returns
returns c =
    let keep = c.args.options.now.keep in
    let names = c.args.names.now in
    let values = values_named names c.args.fields in
    let stay : c.if-options.made ≡ (if keep then c.args.fields else dropped names c.args.fields) = elim c.if-options.branch [
      | then-options w ↦ w.made-is ∙ sym (ap (λ t. if t then c.args.fields else dropped names c.args.fields) w.if-options.true)
      | else-options w ↦ w.made-is ∙ w.drop_named-made.ensures ∙ sym (ap (λ t. if t then c.args.fields else dropped names c.args.fields) w.if-options.false)
    ] in
    c.in_ok-put_summary.ensures values (c.in_ok-add_named.ensures [] c.in_ok-summary.ensures)
    ∙ ap (λ fields. put_each fields (fields_of c.args.statistics.now c.as_slice.result.now values)) stay
    ∙ ap (λ name. put_each (if keep then c.args.fields else dropped names c.args.fields) (fields_of c.args.statistics.now name values)) c.as_slice.ensures

use Rattle.std.proofs.Common.{[], ap, refl, sym, ◌∙◌}
use Rattle.mlr_spec.specs.Pairs.{put_each}
use Rattle.mlr_spec.proofs.Flattening.{put_each-append}
use Rattle.verbs_base.specs.Choosing.{dropped}
use Rattle.verbs_join.specs.Join.{joined}
use Rattle.verbs_join.proofs.Moving.{prefixed-same}
use Rattle.verbs_join.proofs.taking.left_part.Goals as goal

pub returns : goal.returns
returns c =
    let options = c.args.options.now in
    let first = joined options c.args.left.now in
    let others = dropped options.left c.args.left.now in
    c.into_record.ensures ∙ c.in_ok-put_others.ensures ∙ ap (put_each c.put_joined.new.into) (prefixed-same (λ name. []) others (λ key is. refl))
    ∙ ap (λ made. put_each made others) (c.in_ok-put_joined.ensures ∙ ap (λ made. put_each made first) (c.new-made.ensures ∙ c.in_ok-new.ensures))
    ∙ sym (put_each-append [] first others)

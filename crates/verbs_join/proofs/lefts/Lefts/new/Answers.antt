use Rattle.std.proofs.Common.{◌≡◌, [], false, length, map, ap, subst, ◌∙◌, arith}
use Rattle.std.proofs.lemmas.List.{take_all}
use Rattle.mlr_groups.specs.Represents.{GroupsOf}
use Rattle.mlr_groups.specs.declared.group_by.GroupBy.TheVariants.{Texts}
use Rattle.verbs_join.specs.Places.{in_buckets}
use Rattle.verbs_join.specs.Represents.{AreIndexed, of_each_group}
use Rattle.verbs_join.proofs.Coming.{come-first}
use Rattle.verbs_join.proofs.lefts.Lefts.new.Goals as goal

pub returns-clause-lefts : goal.returns-clause-lefts
returns-clause-lefts c =
    let options = c.args.options.now in
    let lefts = c.in_ok-records.records.items in
    let groups = c.buckets_of.new.groups in
    let buckets = c.in_ok-buckets.buckets.items in
    let start = subst (λ names. GroupsOf (Texts names) [] c.new-groups.result) c.in_ok-copy.ensures c.new-groups.ensures in
    let indexed = subst (λ lefts. AreIndexed options.left lefts (length lefts) groups buckets) c.deref.ensures.value (c.in_ok-buckets.ensures options.left start) in
    let all = subst (λ first. GroupsOf (Texts options.left) first groups × (in_buckets lefts buckets ≡ of_each_group options.left first)) (take_all (length lefts) lefts (omega arith)) indexed in
    (all.0, all.1, c.in_ok-paired.ensures ∙ ap (map (λ bucket. false)) c.deref-2.ensures.value ∙ come-first options lefts buckets all.1)

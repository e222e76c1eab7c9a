use Rattle.std.proofs.Common.{◌≡◌, [], ap, sym, ◌∙◌}
use Rattle.std.specs.Option.{unwrap_or}
use Rattle.mlr_groups.specs.declared.group_by.GroupBy.TheVariants.{Texts}
use Rattle.group_state.specs.AtEnd.{by_groups}
use Rattle.verbs_summary.specs.KeptOfGroup.{group_gives_of}
use Rattle.verbs_summary.proofs.stats1.Stats1.verb.Goals as goal
use Rattle.verbs_summary.proofs.stats1.Stats1.verb.Goals.{in-Some, in-None}

pub returns-clause-meaning : goal.returns-clause-meaning
returns-clause-meaning c =
    let groups : c.match-groups.groups ≡ unwrap_or c.args.self.groups [] = elim c.match-groups.branch [
      | in-Some w ↦ w.groups-is ∙ sym (ap (λ o. unwrap_or o []) w.in-Some.is)
      | in-None w ↦ w.groups-is ∙ w.new-groups.ensures ∙ sym (ap (λ o. unwrap_or o []) w.in-None.is)
    ] in
    c.new-3.ensures.meaning
    ∙ (λ i. by_groups (Texts (c.in_ok-copy.ensures i)) (c.in_ok-none.ensures.gives i))
    ∙ (λ i. by_groups (Texts (groups i)) (group_gives_of (record { statistics = c.new.ensures i; names = c.args.self.names; groups = groups i })))

use Rattle.std.proofs.Common.{take}
use Rattle.std.proofs.lemmas.Result.{on_ok_weaker}
use Rattle.mlr_sort.specs.InOrder.{in_order}
use Rattle.group_state.specs.Grouped.{grouped}
use Rattle.group_state.specs.Represents.{common_of, none_of}
use Rattle.verbs_count.specs.Frequent.{by_number}
use Rattle.verbs_count.specs.GroupCount.{group_gives}
use Rattle.verbs_count.proofs.Sorting.{first-hold}
use Rattle.verbs_count.proofs.frequent.FrequentGroupsAtEnd.finish.Goals as goal

pub give_each-requires : goal.give_each-requires
give_each-requires c =
    let s = c.args.self.now in
    let rows = c.requires.0 in
    let late = group_gives (none_of s.groups) in (
      late,
      take s.count (in_order (by_number s.least) (grouped (common_of s.groups) rows)),
      first-hold s.least s.count late c.take_states-states.result.items c.sort_groups.new.states.items c.truncate.new.self.items (grouped (common_of s.groups) rows)
          (c.take_states-states.ensures.states (common_of s.groups) late rows c.requires.1) c.in_ok-sort_groups.ensures c.truncate.ensures.items,
    )

pub returns-clause-given : goal.returns-clause-given
returns-clause-given c =
    let s = c.args.self.now in
    let late = group_gives (none_of s.groups) in
    on_ok_weaker c.give_each.result
    (λ given. record {
      gives = λ rows held. given late (take s.count (in_order (by_number s.least) (grouped (common_of s.groups) rows)))
          (first-hold s.least s.count late c.take_states-states.result.items c.sort_groups.new.states.items c.truncate.new.self.items (grouped (common_of s.groups) rows)
          (c.take_states-states.ensures.states (common_of s.groups) late rows held) c.in_ok-sort_groups.ensures c.truncate.ensures.items);
    })
    c.give_each.ensures

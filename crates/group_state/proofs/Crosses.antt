-- What is kept of groups may be moved to another thread where a state may.
use denote.RattleType.{RattleType}
use denote.Param.Send.{IsSend, sendable}
use Rattle.std.proofs.Crossing.{crosses}
use Rattle.mlr_groups.proofs.Crosses.{crosses_groups}
use Rattle.group_state.specs.contracts.at_end.OfAll
use Rattle.group_state.specs.contracts.group_states.GroupStates
use Rattle.group_state.specs.contracts.of_groups.OfGroups
use Rattle.group_state.specs.contracts.of_groups_or_pass.OfGroupsOrPass

module _ (S : RattleType) (sends : IsSend S) where
  pub OfAll-send : IsSend (OfAll.the_field S).row
  OfAll-send = search (sends, crosses, sendable) depth 60 fits 20000

  pub GroupStates-send : IsSend (GroupStates.the_field S).row
  GroupStates-send = search (sends, crosses_groups, crosses, sendable) depth 60 fits 20000

  pub OfGroups-send : IsSend (OfGroups.the_field S).row
  OfGroups-send = search (GroupStates-send, crosses, sendable) depth 60 fits 20000

  pub OfGroupsOrPass-send : IsSend (OfGroupsOrPass.the_field S).row
  OfGroupsOrPass-send = search (GroupStates-send, crosses, sendable) depth 60 fits 20000

pub ruleset crosses_states = (OfAll-send, GroupStates-send, OfGroups-send, OfGroupsOrPass-send)

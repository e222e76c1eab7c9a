use denote.Param.Send.{sendable}
use Rattle.chain_core.proofs.Crosses.{Reader-send}
use Rattle.plan_verbs.proofs.Crosses.{Verb-send}
use Rattle.chain_tests.proofs.plan_parts.parts_move.Goals as goal

pub move_into_thread-requires-send-T : goal.move_into_thread-requires-send-T
move_into_thread-requires-send-T g c κs within = search (Reader-send, sendable) depth 20

pub move_into_thread-requires-3-send-T : goal.move_into_thread-requires-3-send-T
move_into_thread-requires-3-send-T g c κs within = search (Verb-send, sendable) depth 20

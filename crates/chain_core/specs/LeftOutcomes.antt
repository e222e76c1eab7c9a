-- How a run ends whose left files weren't all read whole. A turn that has more to read, and one that has read them all, end no run,
-- so these two cases never come.
use Rattle.left_files.specs.declared.reader.LeftTurn.{LeftTurn}
use Rattle.left_files.specs.declared.reader.LeftTurn.TheVariants as turn
use Rattle.serial_core.specs.declared.answer.Ended.{Ended}
use Rattle.serial_core.specs.declared.answer.Ended.TheVariants.{Data, Read, TooLong, NoMemory}

abbrev pub outcome_of : LeftTurn → Ended
outcome_of (turn.Faulted fault) = Data fault
outcome_of (turn.Failed name) = Read name
outcome_of turn.TooLong = TooLong
outcome_of turn.Went = NoMemory
outcome_of (turn.Ended lefts) = NoMemory
outcome_of turn.NoMemory = NoMemory

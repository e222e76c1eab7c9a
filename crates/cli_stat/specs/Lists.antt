-- Lists of accumulators and steppers in words. The grammar refuses a name that isn't known.
use Rattle.std.specs.Prelude.{List, [], codes}
use Rattle.std.specs.List.{filter_map}
use Rattle.stat_base.specs.Accumulators.{accumulator_named}
use Rattle.stat_base.specs.Steppers.{stepper_named}
use Rattle.stat_base.specs.declared.accumulator.Accumulator.{Accumulator}
use Rattle.stat_base.specs.declared.stepper.Stepper.{Stepper}
use Rattle.cli_grammar.specs.declared.given.Given.{Given}
use Rattle.cli_choices.specs.Choices.{word_or}
use Rattle.cli_choices.specs.Names.{all_names}

-- the accumulators in the word after the last `-a`, in their order
abbrev pub accumulators_after : List Given → List Accumulator
accumulators_after options = filter_map accumulator_named (all_names (word_or [] (codes "-a") options))

-- the steppers in the word after the last `-a`, in their order
abbrev pub steppers_after : List Given → List Stepper
steppers_after options = filter_map stepper_named (all_names (word_or [] (codes "-a") options))

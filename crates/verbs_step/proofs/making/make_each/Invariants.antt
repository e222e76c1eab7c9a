use Rattle.std.proofs.Common.{◌≡◌, List, length}
use Rattle.stat_base.specs.declared.stepper.Stepper.{Stepper}
use Rattle.verbs_base.specs.Records.{Fields}
use Rattle.verbs_step.specs.Represents.{kept_for, kept_in}
use Rattle.verbs_step.proofs.Named.{Making}
use Rattle.verbs_step.proofs.making.make_each.Given as goal

abbrev pub invariant-loop-place : goal.invariant-loop-place
invariant-loop-place l = record {
  places : length l.tracks ≡ length l.names;
  making : (steppers : List Stepper) (before : List Fields) → kept_in l.fn.tracks ≡ kept_for steppers l.names before → Making steppers l.names before l.fields l.fn.made.items l.place l.tracks l.made.items;
}

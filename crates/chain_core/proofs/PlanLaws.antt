-- Laws of what a plan means, by what its left files hold.
use Rattle.std.proofs.Common.{◌≡◌, true, List, ◌++◌, sym, subst}
use Rattle.mlr_event.specs.declared.event.Event.{Event}
use Rattle.mlr_event.specs.Verb.{Verb}
use Rattle.mlr_world.specs.Taken.{Take}
use Rattle.verb_chain.specs.Chain.{chain}
use Rattle.writers.specs.declared.options.WriteOpts.{WriteOpts}
use Rattle.serial_core.specs.Command.{Command}
use Rattle.serial_core.specs.Meaning.{Meaning, meaning_of}
use Rattle.serial_core.proofs.Stopping.{SourceFixed, SourceGrows, SourceList, result-fixed}
use Rattle.serial_core.proofs.Wholes.{ResultFixed, ResultGrows, TextGrows, text-grows}
use Rattle.verb_specs.specs.Verbs.{lefts_for, verbs_with}
use Rattle.plan_verbs.specs.declared.plan.Plan.{Plan}
use Rattle.chain_core.specs.Meanings.{IsMeaningOf}
use Rattle.plan_verbs.specs.Plans.{left_files}
use Rattle.chain_core.specs.Origins.{origin_of}
use Rattle.chain_core.proofs.WithLefts.{lefts-plain}
use Rattle.chain_core.proofs.Meanings.{chained}
use Rattle.chain_core.proofs.OverRecords.{AreOverRecords, are-over}
use Rattle.chain_core.proofs.Plain.{are_plain, result-plain}

-- what a chain makes grows with its events
abbrev pub ChainGrows : Type 0
ChainGrows = (verbs : List Verb) (events following : List Event) → (more : List Event) × (chain verbs (events ++ following) ≡ chain verbs events ++ more)

module _ (plan : Plan) (write : WriteOpts) where
  abbrev pub verbs_by : List (List Event) → List Verb
  verbs_by lefts = verbs_with plan.verbs (lefts_for plan.verbs lefts)

  abbrev pub command_by : List (List Event) → Command
  command_by lefts = record { origin = origin_of plan; verbs = verbs_by lefts; write = write }

  over : (lefts : List (List Event)) → AreOverRecords (verbs_by lefts)
  over lefts = are-over plan.verbs (lefts_for plan.verbs lefts)

  pub main-fixed : SourceList → SourceGrows → SourceFixed → ChainGrows → (lefts : List (List Event)) → ResultFixed (meaning_of (command_by lefts))
  main-fixed lists grows fixed growth lefts = result-fixed lists grows fixed (command_by lefts) (growth (verbs_by lefts)) (chained (verbs_by lefts) (over lefts))

  pub main-grows : SourceList → SourceGrows → SourceFixed → ChainGrows → TextGrows → (lefts : List (List Event)) → ResultGrows (meaning_of (command_by lefts))
  main-grows lists grows fixed growth texts lefts = text-grows lists grows fixed (command_by lefts) (growth (verbs_by lefts)) (chained (verbs_by lefts) (over lefts)) texts

  pub main-plain : (lefts : List (List Event)) (given : List Take) → are_plain ((meaning_of (command_by lefts)).result given) ≡ true
  main-plain lefts given = result-plain (command_by lefts) (over lefts) given

-- no piece comes of a plan
pub plan-plain : (plan : Plan) (meaning : Meaning) → IsMeaningOf plan meaning → (given : List Take) → are_plain (meaning.result given) ≡ true
plan-plain plan meaning is given =
    subst (λ m. are_plain (m.result given) ≡ true) (sym is.is) (lefts-plain (left_files plan.verbs) (origin_of plan) (verbs_by plan is.write) is.write (main-plain plan is.write) given)

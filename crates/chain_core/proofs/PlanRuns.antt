-- A run of a plan, by what became of its left files.
use Rattle.std.proofs.Common.{◌≡◌, ℕ, List, Option, refl, sym, subst, arith}
use Rattle.mlr_event.specs.declared.event.Event.{Event}
use Rattle.mlr_event.specs.declared.fault.Fault.{Fault}
use Rattle.mlr_event.specs.declared.names.InputName.{InputName}
use Rattle.mlr_event.specs.declared.names.Target.{Target}
use Rattle.mlr_event.specs.declared.names.Target.TheVariants.{Stdout}
use Rattle.mlr_world.specs.Counts.{Counted, Rose}
use Rattle.outlet.specs.Represents.{CountedIf}
use Rattle.std.specs.declared.alloc.Global.{Global}
use Rattle.std.specs.declared.vec.Vec.{Vec}
use Rattle.mlr_world.specs.Inputs.{Contents}
use Rattle.mlr_world.specs.Outputs.{Held}
use Rattle.mlr_world.specs.Taken.{Take, OpenEntry}
use Rattle.read_files.specs.Takes.{InOrder}
use Rattle.read_files.specs.Represents.{AllRead}
use Rattle.left_files.specs.declared.left_file.LeftFile.{LeftFile}
use Rattle.left_files.specs.declared.reader.LeftTurn.{LeftTurn}
use Rattle.left_files.specs.declared.reader.LeftTurn.TheVariants as turn
use Rattle.left_files.specs.Lefts.{lefts_of, names_of, whole}
use Rattle.left_files.specs.Represents.{ReadAll, TurnCause}
use Rattle.left_files.proofs.Stopping.{LeftsFixed, SourceEarly}
use Rattle.serial_core.specs.declared.answer.Ended.{Ended}
use Rattle.serial_core.specs.declared.answer.Ended.TheVariants as answer
use Rattle.serial_core.specs.Answer.{IsOfNoInput, has_failed, lacks_memory}
use Rattle.serial_core.specs.Meaning.{Meaning, meaning_of}
use Rattle.serial_core.specs.Represents.{InputCause}
use Rattle.serial_core.specs.Run.{HoldsFew, Run}
use Rattle.serial_core.proofs.Stopping.{SourceFixed, SourceGrows, SourceList}
use Rattle.serial_core.proofs.Wholes.{ResultFixed, ResultGrows, TextGrows}
use Rattle.plan_verbs.specs.declared.plan.Plan.{Plan}
use Rattle.chain_core.specs.LeftOutcomes.{outcome_of}
use Rattle.chain_core.specs.Meanings.{IsMeaningOf, meaning_by}
use Rattle.chain_core.specs.PlanRun.{PlanRun}
use Rattle.plan_verbs.specs.Plans.{left_files}
use Rattle.chain_core.specs.Origins.{origin_of}
use Rattle.chain_core.proofs.Composing.{SourceAll, faulted-run, failed-run, holds-main, long-run, main-run, never-long, short-run}
use Rattle.chain_core.proofs.Each.{plain-run}
use Rattle.chain_core.proofs.PlanLaws.{ChainGrows, command_by, main-fixed, main-grows, plan-plain, verbs_by}

-- left files that are whole were each read to their ends
abbrev pub LeftsRead : Type 0
LeftsRead = (files : List LeftFile) (given : List Take) (lefts : List (List Event)) → InOrder (names_of files) given → lefts_of files given ≡ whole lefts → AllRead (names_of files) given

-- The laws that a run rests on.
pub record RunLaws : Type 0 where
  pub lists : SourceList
  pub grows : SourceGrows
  pub fixed : SourceFixed
  pub early : SourceEarly
  pub all : SourceAll
  pub growth : ChainGrows
  pub texts : TextGrows
  pub lefts_fixed : LeftsFixed
  pub lefts_read : LeftsRead

-- the outcome says of the counts what the reader of the left files does
pub left-cause : (turned : LeftTurn) (before now : InputName → ℕ) → TurnCause turned before now → InputCause (outcome_of turned) before now
left-cause (turn.Faulted fault) before now cause = cause
left-cause (turn.Failed name) before now cause = cause
left-cause turn.TooLong before now cause = cause
left-cause turn.Went before now cause = cause
left-cause (turn.Ended lefts) before now cause = cause
left-cause turn.NoMemory before now cause = cause

pub left-counts : (turned : LeftTurn) (faults : Target → ℕ) → Counted (has_failed (outcome_of turned)) faults faults Stdout
left-counts (turn.Faulted fault) faults = λ other. refl
left-counts (turn.Failed name) faults = λ other. refl
left-counts turn.TooLong faults = λ other. refl
left-counts turn.Went faults = λ other. refl
left-counts (turn.Ended lefts) faults = λ other. refl
left-counts turn.NoMemory faults = λ other. refl

pub left-shortages : (turned : LeftTurn) (shortages : ℕ) → CountedIf (lacks_memory (outcome_of turned)) shortages shortages
left-shortages (turn.Faulted fault) shortages = refl
left-shortages (turn.Failed name) shortages = refl
left-shortages turn.TooLong shortages = refl
left-shortages turn.Went shortages = omega arith
left-shortages (turn.Ended lefts) shortages = omega arith
left-shortages turn.NoMemory shortages = omega arith

module _ (laws : RunLaws) (plan : Plan) (meaning : Meaning) (is : IsMeaningOf plan meaning) (contents : Option Contents) (taken : Option (List Take)) where
  abbrev files : List LeftFile
  files = left_files plan.verbs

  abbrev by_plan : Meaning
  by_plan = meaning_by plan is.write

  fixed-main : (lefts : List (List Event)) → ResultFixed (meaning_of (command_by plan is.write lefts))
  fixed-main = main-fixed plan is.write laws.lists laws.grows laws.fixed laws.growth

  grows-main : (lefts : List (List Event)) → ResultGrows (meaning_of (command_by plan is.write lefts))
  grows-main = main-grows plan is.write laws.lists laws.grows laws.fixed laws.growth laws.texts

  read-left : (given : List Take) (lefts : List (List Event)) → InOrder (names_of files) given → lefts_of files given ≡ whole lefts → AllRead (names_of files) given
  read-left = laws.lefts_read files

  -- each target has what it gets of the result
  each-so : (ended : Ended) (taken' : Option (List Take)) (entry' : Option OpenEntry) (held held' : Option Held) → Run ended by_plan contents taken taken' entry' held held' → PlanRun ended meaning is.rest contents taken taken' entry' held held'
  each-so ended taken' entry' held held' run =
      plain-run meaning (plan-plain plan meaning is) is.rest ended contents taken taken' entry' held held' (subst (λ m. Run ended m contents taken taken' entry' held held') (sym is.is) run)

  module _ (taken' : Option (List Take)) (entry' : Option OpenEntry) where
    pub left-faulted : (fault : Fault) → ReadAll (turn.Faulted fault) files contents taken taken' entry' → (held : Option Held) → PlanRun (answer.Data fault) meaning is.rest contents taken taken' entry' held held
    left-faulted fault read held =
        each-so (answer.Data fault) taken' entry' held held
        (faulted-run files (origin_of plan) (verbs_by plan is.write) is.write laws.lefts_fixed read-left laws.early laws.all fixed-main grows-main contents taken read.given taken' entry' read.order read.following read.early read.few fault read.says held)

    pub left-failed : (name : InputName) → ReadAll (turn.Failed name) files contents taken taken' entry' → (held : Option Held) → PlanRun (answer.Read name) meaning is.rest contents taken taken' entry' held held
    left-failed name read held =
        each-so (answer.Read name) taken' entry' held held
        (failed-run files (origin_of plan) (verbs_by plan is.write) is.write laws.lefts_fixed read-left laws.early laws.all fixed-main grows-main contents taken read.given taken' entry' read.order read.following read.early read.few name read.says.0 read.says.1 read.says.2 held)

    pub left-long : ReadAll turn.TooLong files contents taken taken' entry' → (held : Option Held) → PlanRun answer.TooLong meaning is.rest contents taken taken' entry' held held
    left-long read held =
        each-so answer.TooLong taken' entry' held held
        (long-run files (origin_of plan) (verbs_by plan is.write) is.write laws.lefts_fixed read-left laws.early laws.all fixed-main grows-main contents taken read.given taken' entry' read.order read.following read.early read.few read.says.0 read.says.1 held)

    -- where there was no memory
    pub left-short : (turned : LeftTurn) → ReadAll turned files contents taken taken' entry' → (held : Option Held) → PlanRun answer.NoMemory meaning is.rest contents taken taken' entry' held held
    left-short turned read held =
        each-so answer.NoMemory taken' entry' held held
        (short-run files (origin_of plan) (verbs_by plan is.write) is.write laws.lefts_fixed read-left laws.early laws.all fixed-main grows-main contents taken read.given taken' entry' read.order read.following read.early read.few held)

    -- no left file is too long where each holds few bytes
    pub left-few : ReadAll turn.TooLong files contents taken taken' entry' → HoldsFew meaning contents taken → ⊥
    left-few read holds =
        never-long files (origin_of plan) (verbs_by plan is.write) is.write laws.lefts_fixed read-left laws.early laws.all fixed-main grows-main contents taken read.given taken' entry' read.order read.following read.early read.few
        (subst (λ m. HoldsFew m contents taken) is.is holds) read.says.1

    -- whatever became of them, but that all were read whole
    pub left-ended : (turned : LeftTurn) → ReadAll turned files contents taken taken' entry' → (held : Option Held) → PlanRun (outcome_of turned) meaning is.rest contents taken taken' entry' held held
    left-ended (turn.Faulted fault) read held = left-faulted fault read held
    left-ended (turn.Failed name) read held = left-failed name read held
    left-ended turn.TooLong read held = left-long read held
    left-ended turn.Went read held = left-short turn.Went read held
    left-ended (turn.Ended lefts) read held = left-short (turn.Ended lefts) read held
    left-ended turn.NoMemory read held = left-short turn.NoMemory read held

    pub left-completes : (turned : LeftTurn) (before now : InputName → ℕ) → ReadAll turned files contents taken taken' entry' → TurnCause turned before now → HoldsFew meaning contents taken
        → ((name : InputName) → ¬ Rose (before name) (now name)) → IsOfNoInput (outcome_of turned)
    left-completes (turn.Faulted fault) before now read cause holds quiet = tt
    left-completes (turn.Failed name) before now read cause holds quiet = quiet name cause.1
    left-completes turn.TooLong before now read cause holds quiet = left-few read holds
    left-completes turn.Went before now read cause holds quiet = tt
    left-completes (turn.Ended lefts) before now read cause holds quiet = tt
    left-completes turn.NoMemory before now read cause holds quiet = tt

    module _ (lefts : Vec (List Event) Global) (read : ReadAll (turn.Ended lefts) files contents taken taken' entry') where
      pub main-following : (ended : Ended) (taken'' : Option (List Take)) (entry'' : Option OpenEntry) (held held' : Option Held) → Run ended (meaning_of (command_by plan is.write lefts.items)) contents taken' taken'' entry'' held held'
          → PlanRun ended meaning is.rest contents taken taken'' entry'' held held'
      main-following ended taken'' entry'' held held' run =
          each-so ended taken'' entry'' held held'
          (main-run files (origin_of plan) (verbs_by plan is.write) is.write laws.lefts_fixed read-left laws.early laws.all fixed-main grows-main contents taken read.given taken' entry' read.order read.following lefts.items read.says ended taken'' entry'' held held' run)

      pub main-few : HoldsFew meaning contents taken → HoldsFew (meaning_of (command_by plan is.write lefts.items)) contents taken'
      main-few holds =
          holds-main files (origin_of plan) (verbs_by plan is.write) is.write laws.lefts_fixed read-left laws.early laws.all fixed-main grows-main contents taken read.given taken' entry' read.order read.following lefts.items read.says
          (subst (λ m. HoldsFew m contents taken) is.is holds)

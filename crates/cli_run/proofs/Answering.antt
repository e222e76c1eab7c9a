-- What a run says of what words come to, and what it leaves with its message.
use Rattle.std.proofs.Common.{◌≡◌, ℕ, false, List, [], ◌++◌, drop, Option, Some, None, refl, ap, sym, subst, arith}
use Rattle.std.specs.Prelude.{IfSome}
use Rattle.std.specs.Option.{option_map}
use Rattle.read_files.specs.Takes.{ArePrefixesTaken}
use Rattle.mlr_event.specs.declared.names.Target.{Target}
use Rattle.mlr_event.specs.declared.names.Target.TheVariants.{Stdout, Stderr, File}
use Rattle.mlr_world.specs.Inputs.{Contents}
use Rattle.mlr_world.specs.Outputs.{Held, ChangesAt}
use Rattle.mlr_world.specs.Taken.{Take, OpenEntry}
use Rattle.mlr_world.specs.declared.outputs.Done.{Done}
use Rattle.serial_core.specs.declared.answer.Ended.{Ended}
use Rattle.serial_core.specs.declared.answer.Ended.TheVariants as answer
use Rattle.serial_core.specs.Answer.{IsOfNoInput, is_refused}
use Rattle.serial_core.specs.Meaning.{Meaning, text}
use Rattle.serial_core.proofs.Running.{following-none}
use Rattle.serial_core.specs.Run.{HoldsFew}
use Rattle.serial_core.specs.Whole.{Gets, whole_of}
use Rattle.serial_core.specs.Represents as outcomes
use Rattle.chain_core.specs.Outputs.{LeavesEach, WhereTold, clear}
use Rattle.chain_core.specs.PlanRun.{PlanRun}
use Rattle.chain_core.specs.Meanings.{IsMeaningOf}
use Rattle.plan_verbs.specs.declared.plan.Plan.{Plan}
use Rattle.cli_plan.specs.declared.planned.Planned.{Planned}
use Rattle.cli_plan.specs.declared.planned.Planned.TheVariants as planned
use Rattle.cli_run.specs.Meaning.{Answers, Runs}
use Rattle.cli_run.specs.Message.{Appends}
use Rattle.cli_run.specs.Run.{LeavesFor, LeavesText, OfWhole, Ran, RanWhole, Stops, Takes}

-- where a meaning was run the outcome isn't Refused
pub never-refused : (ended : Ended) (meaning : Meaning) (given : List Take) → outcomes.Says ended meaning given → is_refused ended ≡ false
never-refused answer.Done meaning given says = refl
never-refused (answer.Refused refusal) meaning given says = absurd says
never-refused (answer.Data fault) meaning given says = refl
never-refused (answer.Read name) meaning given says = refl
never-refused (answer.Written target) meaning given says = refl
never-refused answer.TooLong meaning given says = refl
never-refused answer.NoMemory meaning given says = refl

-- where nothing is run nothing was taken
told-nothing : (contents : Option Contents) (taken : Option (List Take)) → IfSome contents (λ told. IfSome taken (λ _. Stops None told []))
told-nothing None taken = tt
told-nothing (Some told) None = tt
told-nothing (Some told) (Some takes) = tt

apart : Stdout ≡ Stderr → ⊥
apart e = cc

abbrev takes-none : (ended : Ended) (contents : Option Contents) (taken : Option (List Take)) (name : Option OpenEntry) → Takes None ended [] contents taken taken
takes-none ended contents taken name =
    let none = following-none contents taken name in
    record { order = tt; few = omega arith; entries = none.entries; prefixes = none.prefixes; says = refl; early = told-nothing contents taken }

-- words that come to nothing that is run or said
pub ran-none : (come : Planned) (ended : Ended) (Quiet : Type 0) → Answers come ended → Runs come None → ((one : Target) (before : Option (List ℕ)) → LeavesFor come None ended [] one before before)
    → (contents : Option Contents) (taken : Option (List Take)) (name : Option OpenEntry) (held : Option Held) → Ran come ended Quiet contents taken taken held held
ran-none come ended Quiet answers runs leaves contents taken name held = record {
  answers = answers;
  meant = None;
  runs = runs;
  given = [];
  takes = takes-none ended contents taken name;
  each = each held;
  whole = told-nothing contents taken;
  completes = tt;
}
  where
    each : (held : Option Held) → WhereTold (λ before now. (one : Target) → LeavesFor come None ended [] one (before one) (now one)) held held
    each None = tt
    each (Some told) = λ one. leaves one (told one)

-- what a text leaves in each target
said-each : (text : List ℕ) (ended : Ended) (before now : Option Held) → ChangesAt Stdout (LeavesText text ended Stdout) before now
    → WhereTold (λ before now. (one : Target) → LeavesText text ended one (before one) (now one)) before now
said-each text ended None None changes = tt
said-each text ended None (Some now) changes = changes
said-each text ended (Some before) None changes = changes
said-each text ended (Some before) (Some now) changes = λ one. at one
  where
    at : (one : Target) → LeavesText text ended one (before one) (now one)
    at Stdout = changes.here
    at Stderr = changes.elsewhere Stderr (λ e. apart (sym e))
    at (File name) = changes.elsewhere (File name) (λ e. let none : ⊥ = cc in none)

pub ran-said : (text : List ℕ) (ended : Ended) (Quiet : Type 0) → Answers (planned.Say text) ended
    → (contents : Option Contents) (taken : Option (List Take)) (name : Option OpenEntry) (held held' : Option Held) → ChangesAt Stdout (LeavesText text ended Stdout) held held'
    → Ran (planned.Say text) ended Quiet contents taken taken held held'
ran-said text ended Quiet answers contents taken name held held' changes = record {
  answers = answers;
  meant = None;
  runs = tt;
  given = [];
  takes = takes-none ended contents taken name;
  each = said-each text ended held held' changes;
  whole = told-nothing contents taken;
  completes = tt;
}

-- what holds where takes are known, before and now
told-before : (contents : Option Contents) (taken taken' : Option (List Take)) (given : List Take) (P : Contents → Type 0) → taken' ≡ option_map (λ before. before ++ given) taken
    → IfSome contents (λ told. IfSome taken' (λ _. P told)) → IfSome contents (λ told. IfSome taken (λ _. P told))
told-before None taken taken' given P is holds = tt
told-before (Some told) None taken' given P is holds = tt
told-before (Some told) (Some before) taken' given P is holds = subst (λ t. IfSome t (λ _. P told)) is holds

-- a run of a plan
pub ran-plan : (plan : Plan) (meaning : Meaning) (is : IsMeaningOf plan meaning) (ended : Ended) (Quiet : Type 0) (contents : Option Contents) (taken taken' : Option (List Take)) (name' : Option OpenEntry) (held held' : Option Held)
    → PlanRun ended meaning is.rest contents taken taken' name' held held' → (HoldsFew meaning contents taken → Quiet → IsOfNoInput ended)
    → Ran (planned.Ok plan) ended Quiet contents taken taken' held held'
ran-plan plan meaning is ended Quiet contents taken taken' name' held held' r completes = record {
  answers = never-refused ended meaning r.run.given r.run.says;
  meant = Some meaning;
  runs = is;
  given = r.run.given;
  takes = record {
    order = r.run.order;
    few = r.run.few;
    entries = r.run.following.entries;
    prefixes = told-before contents taken taken' r.run.given (λ told. ArePrefixesTaken told r.run.given) r.run.following.entries r.run.following.prefixes;
    says = r.run.says;
    early = r.run.early;
  };
  each = subst (λ others. LeavesEach ended meaning.write others (clear (meaning.result r.run.given)) held held') (sym (ap (drop 1) is.styles_are)) r.each;
  whole = r.run.whole;
  completes = completes;
}

-- a message leaves what standard output got
told-following : (step : Option (List ℕ) → Option (List ℕ) → Type 0) (message : List ℕ) (result : Done) (h0 h1 h2 : Option Held)
    → ChangesAt Stdout step h0 h1 → ChangesAt Stderr (Appends message result) h1 h2 → WhereTold (λ before now. step (before Stdout) (now Stdout)) h0 h2
told-following step message result None None None out err = tt
told-following step message result None None (Some c) out err = err
told-following step message result None (Some b) h2 out err = absurd out
told-following step message result (Some a) None h2 out err = absurd out
told-following step message result (Some a) (Some b) None out err = err
told-following step message result (Some a) (Some b) (Some c) out err = subst (step (a Stdout)) (sym (err.elsewhere Stdout apart)) out.here

pub whole-following : (ended : Ended) (meant : Option Meaning) (message : List ℕ) (result : Done) (h0 h1 h2 : Option Held) (contents : Option Contents) (taken : Option (List Take))
    → ChangesAt Stderr (Appends message result) h1 h2 → IfSome contents (λ told. IfSome taken (λ _. RanWhole ended meant told h0 h1)) → IfSome contents (λ told. IfSome taken (λ _. OfWhole ended meant told h0 h2))
whole-following ended meant message result h0 h1 h2 None taken err whole = tt
whole-following ended meant message result h0 h1 h2 (Some told) None err whole = tt
whole-following ended None message result h0 h1 h2 (Some told) (Some takes) err whole = tt
whole-following ended (Some meaning) message result h0 h1 h2 (Some told) (Some takes) err whole =
    (whole.verdict, told-following (Gets ended (text meaning (whole_of told meaning.names))) message result h0 h1 h2 whole.gets err)

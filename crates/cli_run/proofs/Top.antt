-- A run with its message.
use Rattle.std.proofs.Common.{◌≡◌, ℕ, ◌≤◌, Bool, true, false, List, Option, Some, None, refl, sym, subst, ◌∙◌, inl, inr, arith}
use Rattle.std.specs.Prelude.{◌⊎◌}
use Rattle.mlr_event.specs.declared.names.Target.{Target}
use Rattle.mlr_event.specs.declared.names.Target.TheVariants.{Stdout, Stderr}
use Rattle.mlr_world.specs.Counts.{Rose, Counted, Tallied}
use Rattle.mlr_world.specs.Taken.{Take}
use Rattle.mlr_world.specs.Outputs.{Held, ChangesAt, call_failed, lacked_memory}
use Rattle.mlr_world.specs.declared.outputs.Done.{Done}
use Rattle.mlr_world.specs.declared.outputs.Done.TheVariants as done
use Rattle.outlet.specs.Represents.{CountedIf}
use Rattle.serial_core.specs.declared.answer.Ended.{Ended}
use Rattle.serial_core.specs.declared.answer.Ended.TheVariants as answer
use Rattle.serial_core.specs.Answer.{has_failed, lacks_memory}
use Rattle.serial_core.specs.Meaning.{Meaning}
use Rattle.serial_core.specs.Represents as outcomes
use Rattle.cli_plan.specs.declared.planned.Planned.{Planned}
use Rattle.cli_plan.specs.declared.planned.Planned.TheVariants as planned
use Rattle.cli_run.specs.Meaning.{Answers, IsSaid, Runs, inputs_named, styles_named, verbs_named}
use Rattle.cli_run.specs.Message.{Appends, message_of}
use Rattle.cli_run.specs.Run.{Between, Says, Leaves, LeavesFor, LeavesMessage, OutputCause}
use Rattle.chain_core.specs.Outputs.{WhereTold}

-- counts over a call, and over a later one
pub never_falls : {N : Type 0} (failed : Bool) (before now : N → ℕ) (name : N) → Counted failed before now name → (other : N) → before other ≤ now other
never_falls true before now name counted other = counted.0 other
never_falls false before now name counted other = omega (arith, counted other)

pub Rose-later : (a b c : ℕ) → Rose a b → b ≤ c → Rose a c
Rose-later a b c rose le = omega arith

-- what the message leaves in standard error
message_left : (message : List ℕ) (result : Done) (before now : Option (List ℕ)) (f1 f2 : Target → ℕ) (s1 s2 : ℕ) → Counted (call_failed result) f1 f2 Stderr → Tallied (lacked_memory result) s1 s2
    → Appends message result before now → LeavesMessage message (Rose (f1 Stderr) (f2 Stderr) ⊎ Rose s1 s2) before now
message_left message done.Ok before now f1 f2 s1 s2 counted tallied appends = inl appends
message_left message done.Failed before now f1 f2 s1 s2 counted tallied appends = inr (inl counted.1, appends)
message_left message done.NoMemory before now f1 f2 s1 s2 counted tallied appends = inr (inr tallied.1, appends)

pub leaves_all : (words : List (List ℕ)) (come : Planned) (meant : Option Meaning) (ended : Ended) (given : List Take) (result : Done) (h0 h1 h2 : Option Held) (f1 f2 : Target → ℕ) (s1 s2 : ℕ)
    → Counted (call_failed result) f1 f2 Stderr → Tallied (lacked_memory result) s1 s2
    → WhereTold (λ before now. (one : Target) → LeavesFor come meant ended given one (before one) (now one)) h0 h1 → ChangesAt Stderr (Appends (message_of words (inputs_named come) (verbs_named come) (styles_named come) ended) result) h1 h2
    → WhereTold (Leaves words come meant ended given (Rose (f1 Stderr) (f2 Stderr) ⊎ Rose s1 s2)) h0 h2
leaves_all words come meant ended given result None None None f1 f2 s1 s2 counted tallied each err = tt
leaves_all words come meant ended given result None None (Some c) f1 f2 s1 s2 counted tallied each err = err
leaves_all words come meant ended given result None (Some b) h2 f1 f2 s1 s2 counted tallied each err = absurd each
leaves_all words come meant ended given result (Some a) None h2 f1 f2 s1 s2 counted tallied each err = absurd each
leaves_all words come meant ended given result (Some a) (Some b) None f1 f2 s1 s2 counted tallied each err = err
leaves_all words come meant ended given result (Some a) (Some b) (Some c) f1 f2 s1 s2 counted tallied each err = record {
  each = λ one apart. subst (LeavesFor come meant ended given one (a one)) (sym (err.elsewhere one apart)) (each one);
  own = b Stderr;
  err = each Stderr;
  message = message_left (message_of words (inputs_named come) (verbs_named come) (styles_named come) ended) result (b Stderr) (c Stderr) f1 f2 s1 s2 counted tallied err.here;
}

-- why the outcome is what it is, by the counts of the outputs
pub cause : (ended : Ended) (meaning : Meaning) (given : List Take) (result : Done) (f0 f1 f2 : Target → ℕ)
    → outcomes.Says ended meaning given → (ended ≡ answer.Done → result ≡ done.Ok) → Counted (has_failed ended) f0 f1 Stdout → Counted (call_failed result) f1 f2 Stderr → OutputCause ended f0 f2
cause answer.Done meaning given result f0 f1 f2 says silent first second =
    λ target. subst (λ r. Counted (call_failed r) f1 f2 Stderr) (silent refl) second target ∙ first target
cause (answer.Refused refusal) meaning given result f0 f1 f2 says silent first second = tt
cause (answer.Data found) meaning given result f0 f1 f2 says silent first second = tt
cause (answer.Read name) meaning given result f0 f1 f2 says silent first second = tt
cause (answer.Written target) meaning given result f0 f1 f2 says silent first second =
    subst (λ t. Rose (f0 t) (f2 t)) (sym says) (Rose-later (f0 Stdout) (f1 Stdout) (f2 Stdout) first.1 (never_falls (call_failed result) f1 f2 Stderr second Stdout))
cause answer.TooLong meaning given result f0 f1 f2 says silent first second = tt
cause answer.NoMemory meaning given result f0 f1 f2 says silent first second = tt

-- the same where nothing is run
cause_said : (ended : Ended) (result : Done) (f0 f1 f2 : Target → ℕ) → IsSaid ended → (ended ≡ answer.Done → result ≡ done.Ok) → Counted (has_failed ended) f0 f1 Stdout → Counted (call_failed result) f1 f2 Stderr → OutputCause ended f0 f2
cause_said answer.Done result f0 f1 f2 said silent first second = λ target. subst (λ r. Counted (call_failed r) f1 f2 Stderr) (silent refl) second target ∙ first target
cause_said (answer.Refused refusal) result f0 f1 f2 said silent first second = absurd said
cause_said (answer.Data found) result f0 f1 f2 said silent first second = absurd said
cause_said (answer.Read name) result f0 f1 f2 said silent first second = absurd said
cause_said (answer.Written target) result f0 f1 f2 said silent first second =
    subst (λ t. Rose (f0 t) (f2 t)) (sym said) (Rose-later (f0 Stdout) (f1 Stdout) (f2 Stdout) first.1 (never_falls (call_failed result) f1 f2 Stderr second Stdout))
cause_said answer.TooLong result f0 f1 f2 said silent first second = absurd said
cause_said answer.NoMemory result f0 f1 f2 said silent first second = tt

-- the same of what words come to
pub cause_given : (come : Planned) (ended : Ended) (meant : Option Meaning) (given : List Take) (result : Done) (f0 f1 f2 : Target → ℕ)
    → Answers come ended → Runs come meant → Says ended meant given → (ended ≡ answer.Done → result ≡ done.Ok) → Counted (has_failed ended) f0 f1 Stdout → Counted (call_failed result) f1 f2 Stderr → OutputCause ended f0 f2
cause_given come ended (Some meaning) given result f0 f1 f2 answers runs says silent first second = cause ended meaning given result f0 f1 f2 says silent first second
cause_given (planned.Ok plan) ended None given result f0 f1 f2 answers runs says silent first second = absurd runs
cause_given (planned.Say text) ended None given result f0 f1 f2 answers runs says silent first second = cause_said ended result f0 f1 f2 answers silent first second
cause_given (planned.Refused why) ended None given result f0 f1 f2 answers runs says silent first second = subst (λ e. OutputCause e f0 f2) (sym answers) tt
cause_given planned.NoMemory ended None given result f0 f1 f2 answers runs says silent first second = subst (λ e. OutputCause e f0 f2) (sym answers) tt

pub never_lacks : (lacked : Bool) (before now : ℕ) → Tallied lacked before now → before ≤ now
never_lacks true before now tallied = tallied.0
never_lacks false before now tallied = omega (arith, tallied)

-- the counts before the message
abbrev pub counts_between : (ended : Ended) (result : Done) (f0 f1 f2 : Target → ℕ) (s0 s1 s2 : ℕ) → Counted (has_failed ended) f0 f1 Stdout → CountedIf (lacks_memory ended) s0 s1
    → Counted (call_failed result) f1 f2 Stderr → Tallied (lacked_memory result) s1 s2 → (ended ≡ answer.Done → result ≡ done.Ok) → Between ended f0 f2 s0 s2
counts_between ended result f0 f1 f2 s0 s1 s2 ran short counted tallied silent = record {
  faults_before = f1;
  shortages_before = s1;
  run_faults = ran;
  run_shortages = short;
  message_faults = never_falls (call_failed result) f1 f2 Stderr counted;
  message_shortages = never_lacks (lacked_memory result) s1 s2 tallied;
  silent = λ is. (subst (λ r. Counted (call_failed r) f1 f2 Stderr) (silent is) counted, subst (λ r. Tallied (lacked_memory r) s1 s2) (silent is) tallied);
}

-- What a run without pieces leaves in each target.
use Rattle.std.proofs.Common.{◌≡◌, ℕ, true, false, List, [], ◌∷◌, ◌++◌, Option, Some, None, refl, ap, sym, subst, inl}
use Rattle.std.specs.List.{list_any}
use Rattle.mlr_event.specs.declared.event.Event.{Event}
use Rattle.mlr_event.specs.declared.event.Event.TheVariants as event
use Rattle.mlr_event.specs.declared.names.Target.{Target}
use Rattle.mlr_event.specs.declared.names.Target.TheVariants as target
use Rattle.mlr_event.specs.Verb.{is_end}
use Rattle.mlr_world.specs.Outputs.{Held, ChangesAt}
use Rattle.mlr_world.specs.Inputs.{Contents}
use Rattle.mlr_world.specs.Taken.{Take, OpenEntry}
use Rattle.mlr_world.proofs.Changes.{with_bytes-none}
use Rattle.outlet.specs.Out.{out_of}
use Rattle.outlet.proofs.Writing.{nothing-put}
use Rattle.writers.specs.declared.options.WriteOpts.{WriteOpts}
use Rattle.serial_core.specs.declared.answer.Ended.{Ended}
use Rattle.serial_core.specs.declared.answer.Ended.TheVariants as answer
use Rattle.serial_core.specs.Meaning.{Meaning}
use Rattle.serial_core.specs.Represents.{Leaves}
use Rattle.serial_core.specs.Run.{Run}
use Rattle.chain_core.specs.Outputs.{LeavesEach, LeavesFor, clear, clear_after, opened_by, pieces_for, style_by, text_of}
use Rattle.chain_core.specs.PlanRun.{PlanRun}
use Rattle.chain_core.proofs.Plain.{are_plain}

pub no-pieces : (one : Target) (events : List Event) → are_plain events ≡ true → pieces_for one events ≡ []
no-pieces one [] plain = refl
no-pieces one (event.Rec pairs ctx ∷ events) plain = no-pieces one events plain
no-pieces one (event.Text text ∷ events) plain = no-pieces one events plain
no-pieces one (event.Out other piece ∷ events) plain = absurd (let e : false ≡ true = plain in cc)
no-pieces one (event.End ctx ∷ events) plain = no-pieces one events plain
no-pieces one (event.Fault found ∷ events) plain = no-pieces one events plain

clear-same : (before events : List Event) → are_plain events ≡ true → clear_after before events ≡ events
clear-same before [] plain = refl
clear-same before (event.Rec pairs ctx ∷ events) plain = ap (λ rest. event.Rec pairs ctx ∷ rest) (clear-same (before ++ event.Rec pairs ctx ∷ []) events plain)
clear-same before (event.Text text ∷ events) plain = ap (λ rest. event.Text text ∷ rest) (clear-same (before ++ event.Text text ∷ []) events plain)
clear-same before (event.Out other piece ∷ events) plain = absurd (let e : false ≡ true = plain in cc)
clear-same before (event.End ctx ∷ events) plain = ap (λ rest. event.End ctx ∷ rest) (clear-same (before ++ event.End ctx ∷ []) events plain)
clear-same before (event.Fault found ∷ events) plain = ap (λ rest. event.Fault found ∷ rest) (clear-same (before ++ event.Fault found ∷ []) events plain)

-- a target without a text is as it was
leaves-nothing : (ended : Ended) (before : Option (List ℕ)) → Leaves ended [] before before
leaves-nothing answer.Done before = with_bytes-none before
leaves-nothing (answer.Refused refusal) before = refl
leaves-nothing (answer.Data fault) before = with_bytes-none before
leaves-nothing (answer.Read name) before = with_bytes-none before
leaves-nothing (answer.Written one) before = nothing-put [] before before refl
leaves-nothing answer.TooLong before = with_bytes-none before
leaves-nothing answer.NoMemory before = nothing-put [] before before refl

leaves-before : (ended : Ended) (before now : Option (List ℕ)) (written : List ℕ) (base : Option (List ℕ)) → written ≡ [] → base ≡ before → now ≡ before → Leaves ended written base now
leaves-before ended before now written base none kept same =
    subst (λ t. Leaves ended t base now) (sym none) (subst (λ b. Leaves ended [] b now) (sym kept) (subst (Leaves ended [] before) (sym same) (leaves-nothing ended before)))

module _ (ended : Ended) (first : WriteOpts) (others : List WriteOpts) (events : List Event) (plain : are_plain events ≡ true) where
  stays : (one : Target) → (one ≡ target.Stdout → ⊥) → (before now : Option (List ℕ)) → now ≡ before → LeavesFor ended first others events one before now
  stays target.Stdout apart before now same = absurd (apart refl)
  stays target.Stderr apart before now same =
      inl (leaves-before ended before now (text_of first (pieces_for target.Stderr events) (list_any is_end events)) before (ap (λ pieces. text_of first pieces (list_any is_end events)) (no-pieces target.Stderr events plain)) refl same)
  stays (target.File name) apart before now same =
      let pieces = pieces_for (target.File name) events in
      let none = no-pieces (target.File name) events plain in
      inl (leaves-before ended before now (text_of (style_by first others pieces) pieces (list_any is_end events)) (opened_by pieces before)
      (ap (λ ps. text_of (style_by first others ps) ps (list_any is_end events)) none) (ap (λ ps. opened_by ps before) none) same)

  pub leaves-each : (held held' : Option Held) → ChangesAt target.Stdout (Leaves ended (out_of first events)) held held' → LeavesEach ended first others (clear events) held held'
  leaves-each None None leaves = tt
  leaves-each None (Some now) leaves = leaves
  leaves-each (Some before) None leaves = leaves
  leaves-each (Some before) (Some now) leaves =
      subst (λ es. (one : Target) → LeavesFor ended first others es one (before one) (now one)) (sym (clear-same [] events plain))
      (λ one. each one)
    where
      each : (one : Target) → LeavesFor ended first others events one (before one) (now one)
      each target.Stdout = inl leaves.here
      each target.Stderr = stays target.Stderr (λ e. let f = e in cc) (before target.Stderr) (now target.Stderr) (leaves.elsewhere target.Stderr (λ e. let f = e in cc))
      each (target.File name) = stays (target.File name) (λ e. let f = e in cc) (before (target.File name)) (now (target.File name)) (leaves.elsewhere (target.File name) (λ e. let f = e in cc))

pub plain-run : (meaning : Meaning) → ((given : List Take) → are_plain (meaning.result given) ≡ true) → (others : List WriteOpts) (ended : Ended) (contents : Option Contents) (taken taken' : Option (List Take)) (entry' : Option OpenEntry) (held held' : Option Held)
    → Run ended meaning contents taken taken' entry' held held' → PlanRun ended meaning others contents taken taken' entry' held held'
plain-run meaning plain others ended contents taken taken' entry' held held' run = record {
  run = run;
  each = leaves-each ended meaning.write others (meaning.result run.given) (plain run.given) held held' run.leaves;
}

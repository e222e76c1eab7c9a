-- How far left files are read doesn't change after a fault, nor when all are whole.
use Rattle.std.proofs.Common.{◌≡◌, Bool, true, false, ◌||◌, List, [], ◌∷◌, Option, Some, None, refl, ap, ap₂, sym, ◌∙◌, inl, inr}
use Rattle.std.specs.Prelude.{if◌then◌else◌}
use Rattle.std.specs.List.{list_any}
use Rattle.std.proofs.lemmas.Bool.{cases_Bool, true≢false}
use Rattle.std.proofs.lemmas.List.Folds.{list_any-append}
use Rattle.mlr_event.specs.declared.event.Event.{Event}
use Rattle.mlr_event.specs.declared.event.Event.TheVariants as event
use Rattle.mlr_event.specs.declared.fault.Fault.{Fault}
use Rattle.mlr_event.specs.declared.names.InputName.{InputName}
use Rattle.mlr_event.specs.declared.options.ReadOpts.{ReadOpts}
use Rattle.mlr_event.specs.Verb.{is_fault, is_open}
use Rattle.mlr_world.specs.Taken.{Take}
use Rattle.read_files.specs.Takes.{GoesOn, InOrder, TakeGoesOn}
use Rattle.read_files.specs.Sources.{ctx_from, is_whole, source, zero_context}
use Rattle.read_files.proofs.Events.{fault-closed}
use Rattle.read_files.proofs.Fixed.{all-taken}
use Rattle.read_files.proofs.Steps.{source-faulty}
use Rattle.left_files.specs.declared.left_file.LeftFile.{LeftFile}
use Rattle.left_files.specs.Lefts.{LeftState, fault_in, faulted, left_events, left_state, lefts_of, names_of, reading, then_state, whole}
use Rattle.left_files.proofs.Files.{left-clear, left-faulted}
use Rattle.left_files.proofs.Finding.{none-clear}

abbrev pub SourceFixed : Type 0
SourceFixed = (opts : ReadOpts) (names : List InputName) (given longer : List Take) → InOrder names given → InOrder names longer → GoesOn given longer → is_open (source opts names given) ≡ false
    → source opts names longer ≡ source opts names given

pub order-first : (name : InputName) (names : List InputName) (t : Take) (takes : List Take) → InOrder (name ∷ names) (t ∷ takes) → t.name ≡ name
order-first name names t [] order = order
order-first name names t (u ∷ takes) order = order.0

pub order-rest : (name : InputName) (names : List InputName) (t : Take) (takes : List Take) → InOrder (name ∷ names) (t ∷ takes) → InOrder names takes
order-rest name names t [] order = tt
order-rest name names t (u ∷ takes) order = order.2

has-fault : (xs : List Event) (fault : Fault) → fault_in xs ≡ Some fault → list_any is_fault xs ≡ true
has-fault xs fault found = elim (cases_Bool (list_any is_fault xs)) [
  | inl some ↦ some
  | inr none ↦ absurd (let e : Some fault ≡ None = sym found ∙ none-clear xs none in cc)
]

module _ (fixed : SourceFixed) where
  module _ (file : LeftFile) (t u : Take) (same : t.name ≡ file.name) (same' : u.name ≡ file.name) (on : TakeGoesOn t u) where
    -- a fault, whatever follows
    module _ (some : list_any is_fault (left_events file t) ≡ true) where
      source-now : source file.read (file.name ∷ []) (u ∷ []) ≡ left_events file t
      source-now =
          fixed file.read (file.name ∷ []) (t ∷ []) (u ∷ []) same same' (on, tt) (ap is_open (source-faulty file.read (file.name ∷ []) (t ∷ []) some) ∙ fault-closed (left_events file t) some)
          ∙ source-faulty file.read (file.name ∷ []) (t ∷ []) some

      end-clear : (b : Bool) → list_any is_fault (if b then event.End (ctx_from file.read zero_context (u ∷ [])) ∷ [] else []) ≡ false
      end-clear true = refl
      end-clear false = refl

      fault-still : list_any is_fault (left_events file u) ≡ true
      fault-still = elim (cases_Bool (list_any is_fault (left_events file u))) [
        | inl is ↦ is
        | inr none ↦
            let end = (if is_whole file.read (file.name ∷ []) (u ∷ []) then event.End (ctx_from file.read zero_context (u ∷ [])) ∷ [] else []) in
            absurd (true≢false (sym (ap (list_any is_fault) source-now ∙ some) ∙ list_any-append is_fault (left_events file u) end ∙ ap₂ (λ a b. a || b) none (end-clear (is_whole file.read (file.name ∷ []) (u ∷ [])))))
      ]

      events-same : left_events file u ≡ left_events file t
      events-same = sym (source-faulty file.read (file.name ∷ []) (u ∷ []) fault-still) ∙ source-now

    -- all of it
    take-all : t.ended ≡ true → u ≡ t
    take-all ended =
        let same-list : u ∷ [] ≡ t ∷ [] = all-taken (file.name ∷ []) (t ∷ []) (u ∷ []) same same' (on, tt) (ap (λ b. if b then None else Some file.name) ended) in
        let e : u ≡ t = cc in e

    left-by-fault : (found : Option Fault) → fault_in (left_events file t) ≡ found → (left_state file t ≡ reading → ⊥) → left_state file u ≡ left_state file t
    left-by-fault (Some fault) found some = left-faulted file u fault (ap fault_in (events-same (has-fault (left_events file t) fault found)) ∙ found) ∙ sym (left-faulted file t fault found)
    left-by-fault None found some = elim (cases_Bool t.ended) [
      | inl all ↦ ap (left_state file) (take-all all)
      | inr part ↦ absurd (some (left-clear file t found ∙ ap (λ b. if b then whole (left_events file t ∷ []) else reading) part))
    ]

    left-fixed : (left_state file t ≡ reading → ⊥) → left_state file u ≡ left_state file t
    left-fixed some = left-by-fault (fault_in (left_events file t)) refl some

  -- after a file by its state
  next-fixed : (state first rest : LeftState) → (then_state state first ≡ reading → ⊥) → ((first ≡ reading → ⊥) → rest ≡ first) → then_state state rest ≡ then_state state first
  next-fixed reading first rest some more = refl
  next-fixed (faulted fault) first rest some more = refl
  next-fixed (whole lefts) first rest some more = ap (then_state (whole lefts)) (more (λ is. some (ap (then_state (whole lefts)) is)))

  pub lefts-fixed : (files : List LeftFile) (given longer : List Take) → InOrder (names_of files) given → InOrder (names_of files) longer → GoesOn given longer → (lefts_of files given ≡ reading → ⊥) → lefts_of files longer ≡ lefts_of files given
  lefts-fixed [] given longer order order' on some = refl
  lefts-fixed (file ∷ files) [] longer order order' on some = absurd (some refl)
  lefts-fixed (file ∷ files) (t ∷ given) [] order order' on some = absurd on
  lefts-fixed (file ∷ files) (t ∷ given) (u ∷ longer) order order' on some =
      ap (λ state. then_state state (lefts_of files longer))
      (left-fixed file t u (order-first file.name (names_of files) t given order) (order-first file.name (names_of files) u longer order') on.0 (λ is. some (ap (λ state. then_state state (lefts_of files given)) is)))
      ∙ next-fixed (left_state file t) (lefts_of files given) (lefts_of files longer) some
      (lefts-fixed files given longer (order-rest file.name (names_of files) t given order) (order-rest file.name (names_of files) u longer order') on.1)

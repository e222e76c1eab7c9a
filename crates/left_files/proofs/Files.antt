-- What a reader of one left file says of how far it is read.
use Rattle.std.proofs.Common.{◌≡◌, ℕ, ◌^◌, Bool, true, false, not, List, [], ◌∷◌, ◌++◌, length, Option, Some, None, refl, ap, ap₂, sym, length-append, ◌∙◌, inl, inr, arith}
use Rattle.std.specs.Prelude.{if◌then◌else◌, is_some}
use Rattle.std.specs.List.{list_any}
use Rattle.std.specs.Option.{option_and_then, option_to_list}
use Rattle.std.proofs.lemmas.Bool.{and_parts, cases_Bool, true≢false}
use Rattle.std.proofs.lemmas.List.{append-nil}
use Rattle.mlr_event.specs.declared.event.Event.{Event}
use Rattle.mlr_event.specs.declared.event.Event.TheVariants as event
use Rattle.mlr_event.specs.declared.fault.Fault.{Fault}
use Rattle.mlr_event.specs.declared.names.InputName.{InputName}
use Rattle.mlr_event.specs.Verb.{is_fault, is_list, is_open}
use Rattle.mlr_world.specs.Taken.{Take}
use Rattle.read_files.specs.Takes.{InOrder, ends, stops_at, total}
use Rattle.read_files.specs.Sources.{ctx_from, events_taken, is_whole, source, zero_context}
use Rattle.read_files.proofs.Events.{end-closed, open-clear}
use Rattle.read_files.proofs.Steps.{source-faulty, source-whole, taken-open}
use Rattle.left_files.specs.declared.left_file.LeftFile.{LeftFile}
use Rattle.left_files.specs.Lefts.{LeftState, at_left, fault_in, fault_of, faulted, left_events, left_state, lefts_of, reading, then_state, whole}
use Rattle.left_files.proofs.Finding.{clear-none, fault-before, fault-last, none-clear}

-- what was taken of one input is one entry at most
pub one-entry : (P : List Take → Type 0) (name : InputName) (takes : List Take) → InOrder (name ∷ []) takes → P [] → ((take : Take) → take.name ≡ name → P (take ∷ [])) → P takes
one-entry P name [] order none one = none
one-entry P name (take ∷ []) order none one = one take order
one-entry P name (take ∷ next ∷ takes) order none one = absurd order.2

pub left-order : (name : InputName) (names : List InputName) (takes : List Take) → InOrder (name ∷ []) takes → InOrder (name ∷ names) takes
left-order name names takes order = one-entry (λ takes. InOrder (name ∷ names) takes) name takes order tt (λ take same. same)

-- the state of a file by its fault
abbrev left-by : LeftFile → Take → Option Fault → LeftState
left-by file take found = elim found [ Some fault ↦ faulted (at_left file.number fault) | None ↦ if take.ended then whole (left_events file take ∷ []) else reading ]

pub left-faulted : (file : LeftFile) (take : Take) (fault : Fault) → fault_in (left_events file take) ≡ Some fault → left_state file take ≡ faulted (at_left file.number fault)
left-faulted file take fault found = ap (left-by file take) found

pub left-clear : (file : LeftFile) (take : Take) → fault_in (left_events file take) ≡ None → left_state file take ≡ (if take.ended then whole (left_events file take ∷ []) else reading)
left-clear file take found = ap (left-by file take) found

-- lists that end in one event more
last-same : (xs ys : List Event) (a b : Event) → xs ++ a ∷ [] ≡ ys ++ b ∷ [] → xs ≡ ys
last-same [] [] a b same = refl
last-same [] (y ∷ ys) a b same = absurd (omega (arith, ap length same, length-append ys (b ∷ [])))
last-same (x ∷ xs) [] a b same = absurd (omega (arith, ap length same, length-append xs (a ∷ [])))
last-same (x ∷ xs) (y ∷ ys) a b same = ap₂ (λ z zs. z ∷ zs) (let e : x ≡ y = cc in e) (last-same xs ys a b (let e : xs ++ a ∷ [] ≡ ys ++ b ∷ [] = cc in e))

module _ (file : LeftFile) where
  abbrev gives : List Take → List Event
  gives takes = source file.read (file.name ∷ []) takes

  -- while what it gives is open it has no fault and no end
  open-clear-so : (takes : List Take) → is_open (gives takes) ≡ true → list_any is_fault (events_taken file.read takes) ≡ false
  open-clear-so takes opens = elim (cases_Bool (list_any is_fault (events_taken file.read takes))) [
    | inl some ↦
        let none = open-clear (gives takes) opens in
        absurd (true≢false (sym some ∙ ap (list_any is_fault) (sym (source-faulty file.read (file.name ∷ []) takes some)) ∙ none))
    | inr none ↦ none
  ]

  pub open-unended : (take : Take) → is_open (gives (take ∷ [])) ≡ true → take.ended ≡ false
  open-unended take opens = elim (cases_Bool take.ended) [
    | inl is ↦
        let stops : stops_at (file.name ∷ []) (take ∷ []) ≡ None = ap (λ b. if b then None else Some file.name) is in
        absurd (true≢false (sym opens ∙ ap is_open (source-whole file.read (file.name ∷ []) (take ∷ []) stops (open-clear-so (take ∷ []) opens))
        ∙ end-closed (events_taken file.read (take ∷ [])) (event.End (ctx_from file.read zero_context (take ∷ []))) refl))
    | inr none ↦ none
  ]

  pub open-reading : (rest : List LeftFile) (takes : List Take) → InOrder (file.name ∷ []) takes → is_open (gives takes) ≡ true → lefts_of (file ∷ rest) takes ≡ reading
  open-reading rest takes order = one-entry (λ takes. is_open (gives takes) ≡ true → lefts_of (file ∷ rest) takes ≡ reading) file.name takes order (λ opens. refl)
      (λ take same opens.
      ap (λ state. then_state state (lefts_of rest [])) (left-clear file take (none-clear (left_events file take) (open-clear-so (take ∷ []) opens))
      ∙ ap (λ b. if b then whole (left_events file take ∷ []) else reading) (open-unended take opens)))

  pub open-ends : (takes : List Take) → InOrder (file.name ∷ []) takes → is_open (gives takes) ≡ true → ends takes ≡ 0
  open-ends takes order = one-entry (λ takes. is_open (gives takes) ≡ true → ends takes ≡ 0) file.name takes order (λ opens. refl)
      (λ take same opens. let e : (if take.ended then 1 else 0) ≡ 0 = ap {B = ℕ} (λ b. if b then 1 else 0) (open-unended take opens) in let f : ends (take ∷ []) ≡ 0 = omega (arith, e) in f)

  pub open-stops : (rest : List InputName) (takes : List Take) → InOrder (file.name ∷ []) takes → is_open (gives takes) ≡ true → stops_at (file.name ∷ rest) takes ≡ Some file.name
  open-stops rest takes order = one-entry (λ takes. is_open (gives takes) ≡ true → stops_at (file.name ∷ rest) takes ≡ Some file.name) file.name takes order (λ opens. refl)
      (λ take same opens. ap (λ b. if b then stops_at rest [] else Some file.name) (open-unended take opens))

  -- and has no end
  pub open-taken : (takes : List Take) → is_open (gives takes) ≡ true → gives takes ≡ events_taken file.read takes
  open-taken takes opens = elim (cases_Bool (is_whole file.read (file.name ∷ []) takes)) [
    | inl all ↦
        let now : gives takes ≡ events_taken file.read takes ++ event.End (ctx_from file.read zero_context takes) ∷ [] =
        ap (λ b. events_taken file.read takes ++ (if b then event.End (ctx_from file.read zero_context takes) ∷ [] else [])) all in
        absurd (true≢false (sym opens ∙ ap is_open now ∙ end-closed (events_taken file.read takes) (event.End (ctx_from file.read zero_context takes)) refl))
    | inr part ↦
        ap (λ b. events_taken file.read takes ++ (if b then event.End (ctx_from file.read zero_context takes) ∷ [] else [])) part ∙ append-nil (events_taken file.read takes)
  ]

  -- so many bytes were taken of it
  pub one-long : (takes : List Take) → InOrder (file.name ∷ []) takes → total takes ≡ 2 ^ 60 → (take : Take) × (takes ≡ take ∷ []) × (length take.bytes ≡ 2 ^ 60)
  one-long takes order = one-entry (λ takes. total takes ≡ 2 ^ 60 → (take : Take) × (takes ≡ take ∷ []) × (length take.bytes ≡ 2 ^ 60)) file.name takes order (λ long. absurd (omega (arith, long)))
      (λ take same long. (take, refl, omega (arith, long)))

  -- where what it gives is closed it has a fault, or was read whole
  abbrev pub ClosesAs : Option Fault → Take → List Event → Type 0
  ClosesAs (Some fault) take before = left_state file take ≡ faulted (at_left file.number fault)
  ClosesAs None take before = (take.ended ≡ true) × (left_state file take ≡ whole (before ∷ []))

  pub record FileClosed (takes : List Take) (before : List Event) (found : Option Fault) : Type 0 where
    pub take : Take
    pub takes_are : takes ≡ take ∷ []
    pub same : take.name ≡ file.name
    pub by : ClosesAs found take before

  nothing-open : is_open (gives []) ≡ true
  nothing-open = refl

  module _ (take : Take) (same : take.name ≡ file.name) (closed : is_open (gives (take ∷ [])) ≡ false) (before : List Event) (last : Option Event) (none : last ≡ None → before ≡ []) (is : gives (take ∷ []) ≡ before ++ option_to_list last)
      (list : is_list (gives (take ∷ [])) ≡ true) where
    end-none : (b : Bool) → fault_in (if b then event.End (ctx_from file.read zero_context (take ∷ [])) ∷ [] else []) ≡ None
    end-none true = refl
    end-none false = refl

    found-is : fault_in (left_events file take) ≡ option_and_then fault_of last
    found-is =
        sym (fault-before (left_events file take) (if is_whole file.read (file.name ∷ []) (take ∷ []) then event.End (ctx_from file.read zero_context (take ∷ [])) ∷ [] else []) (end-none (is_whole file.read (file.name ∷ []) (take ∷ []))))
        ∙ ap fault_in is ∙ fault-last before last none (sym (ap is_list is) ∙ list)

    whole-so : fault_in (left_events file take) ≡ None → is_whole file.read (file.name ∷ []) (take ∷ []) ≡ true
    whole-so clear = elim (cases_Bool (is_whole file.read (file.name ∷ []) (take ∷ []))) [
      | inl all ↦ all
      | inr part ↦
          let now : gives (take ∷ []) ≡ left_events file take =
          ap (λ b. left_events file take ++ (if b then event.End (ctx_from file.read zero_context (take ∷ [])) ∷ [] else [])) part ∙ append-nil (left_events file take) in
          absurd (true≢false (sym (ap is_open now ∙ taken-open file.read (take ∷ []) (clear-none (left_events file take) clear)) ∙ closed))
    ]

    ended-by : (b : Bool) → not (is_some (if b then None else Some file.name)) ≡ true → b ≡ true
    ended-by true all = refl
    ended-by false all = absurd (let e : false ≡ true = all in cc)

    before-is : (l : Option Event) → last ≡ l → fault_in (left_events file take) ≡ None → before ≡ left_events file take
    before-is None l clear = absurd (true≢false (sym (ap is_open (is ∙ ap (λ xs. xs ++ option_to_list last) (none l) ∙ ap option_to_list l)) ∙ closed))
    before-is (Some e) l clear = last-same before (left_events file take) e (event.End (ctx_from file.read zero_context (take ∷ [])))
        (sym (is ∙ ap (λ o. before ++ option_to_list o) l) ∙ ap (λ b. left_events file take ++ (if b then event.End (ctx_from file.read zero_context (take ∷ [])) ∷ [] else [])) (whole-so clear))

    pub closed-by : (found : Option Fault) → option_and_then fault_of last ≡ found → FileClosed (take ∷ []) before found
    closed-by (Some fault) f = record { take = take; takes_are = refl; same = same; by = left-faulted file take fault (found-is ∙ f) }
    closed-by None f =
        let clear : fault_in (left_events file take) ≡ None = found-is ∙ f in
        let all = whole-so clear in
        let ended : take.ended ≡ true = ended-by take.ended (and_parts (not (is_some (stops_at (file.name ∷ []) (take ∷ [])))) (not (list_any is_fault (events_taken file.read (take ∷ [])))) all).0 in
        record {
          take = take;
          takes_are = refl;
          same = same;
          by = (ended, left-clear file take clear ∙ ap (λ b. if b then whole (left_events file take ∷ []) else reading) ended ∙ ap (λ xs. whole (xs ∷ [])) (sym (before-is last refl clear)));
        }

  pub file-closed : (takes : List Take) → InOrder (file.name ∷ []) takes → is_open (gives takes) ≡ false → (before : List Event) (last : Option Event) → (last ≡ None → before ≡ []) → gives takes ≡ before ++ option_to_list last → is_list (gives takes) ≡ true
      → FileClosed takes before (option_and_then fault_of last)
  file-closed takes order closed before last none is list =
      one-entry (λ takes. is_open (gives takes) ≡ false → gives takes ≡ before ++ option_to_list last → is_list (gives takes) ≡ true → FileClosed takes before (option_and_then fault_of last)) file.name takes order
      (λ closed is list. absurd (true≢false (sym nothing-open ∙ closed)))
      (λ take same closed is list. closed-by take same closed before last none is list (option_and_then fault_of last) refl)
      closed is list

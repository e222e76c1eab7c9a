-- Events pass through verbs, one verb after another.
use Rattle.std.proofs.Common.{◌≡◌, ℕ, suc, ◌+◌, ◌<◌, Bool, true, false, not, ◌&&◌, List, [], ◌∷◌, ◌++◌, length, Option, Some, None, refl, ap, sym, ◌∙◌, subst, append_assoc, arith, slice_index_or, slice_set}
use Rattle.std.proofs.lemmas.List.{append-nil, length-append, map-append}
use Rattle.std.proofs.Math.Seq.{get_or-append_seam, set-append_seam}
use Rattle.mlr_event.specs.declared.event.Event.{Event}
use Rattle.mlr_event.specs.declared.event.Event.TheVariants as event
use Rattle.mlr_event.specs.Verb.{KeepsOrder, Verb, is_list}
use Rattle.mlr_event.proofs.Ordered.{made-list, open-list}
use Rattle.verb_chain.specs.Chain.{chain_from, closing, cut, last_context, zero_context}
use Rattle.verb_chain.specs.declared.stage.Stage.{Stage}
use Rattle.verb_chain.specs.Represents.{GateRepresents, IsSameGate, StagesRepresent, made_at, verbs_of}
use Rattle.verb_chain.proofs.Cutting.{closing-open}

-- whether the place after some verbs is quiet
abbrev pub quiet_after : Bool → List Verb → Bool
quiet_after quiet [] = quiet
quiet_after quiet (verb ∷ verbs) = quiet_after (quiet && not verb.effects) verbs

pub chain-append : (quiet : Bool) (verbs more : List Verb) (events : List Event) → chain_from quiet (verbs ++ more) events ≡ chain_from (quiet_after quiet verbs) more (chain_from quiet verbs events)
chain-append quiet [] more events = refl
chain-append quiet (verb ∷ verbs) more events = chain-append (quiet && not verb.effects) verbs more (made_at quiet verb events)

following-append : (quiet : Bool) (verbs more : List Verb) → quiet_after quiet (verbs ++ more) ≡ quiet_after (quiet_after quiet verbs) more
following-append quiet [] more = refl
following-append quiet (verb ∷ verbs) more = following-append (quiet && not verb.effects) verbs more

-- a verb is given a list that ends with its first end or fault
cut-list : (quiet : Bool) (verb : Verb) (events : List Event) → is_list events ≡ true → is_list (cut quiet verb events) ≡ true
cut-list false verb events list = list
cut-list true verb events list = go (closing verb events) refl
  where
    go : (o : Option (List Event)) → closing verb events ≡ o → is_list (elim o [ Some prefix ↦ prefix ++ event.End (last_context zero_context prefix) ∷ [] | None ↦ events ]) ≡ true
    go None is = list
    go (Some prefix) is = open-list prefix (event.End (last_context zero_context prefix) ∷ []) (closing-open verb events prefix is) refl

pub made-at-list : (quiet : Bool) (verb : Verb) (events : List Event) → KeepsOrder verb → is_list events ≡ true → is_list (made_at quiet verb events) ≡ true
made-at-list quiet verb events order list = made-list verb order (cut quiet verb events) (cut-list quiet verb events list)

module _ {S : Type 0} (verb : S → Verb) (represents : S → List Event → Type 0) where
  pub represent-append : (quiet : Bool) (given : List Event) (done : List (Stage S)) (stage : Stage S) → StagesRepresent verb represents quiet given done
      → stage.gate.quiet ≡ quiet_after quiet (verbs_of verb done) → GateRepresents verb represents (chain_from quiet (verbs_of verb done) given) stage.gate → stage.made ≡ []
      → StagesRepresent verb represents quiet given (done ++ stage ∷ [])
  represent-append quiet given [] stage all is at empty = (is, at, empty, tt)
  represent-append quiet given (s ∷ done) stage all is at empty =
      (all.0, all.1, all.2, represent-append (quiet && not (verb s.gate.verb).effects) (made_at quiet (verb s.gate.verb) given) done stage all.3 is at empty)

  -- The first verbs have taken the events, and the remaining ones are still to take the events that came out.
  pub record Through (first done rest : List (Stage S)) (events out : List Event) (quiet : Bool) (given : List Event) : Type 0 where
    pub at : StagesRepresent verb represents quiet (given ++ events) done
    pub made : chain_from quiet (verbs_of verb first) (given ++ events) ≡ chain_from quiet (verbs_of verb first) given ++ out
    pub list : is_list (chain_from quiet (verbs_of verb first) given ++ out) ≡ true
    pub later : StagesRepresent verb represents (quiet_after quiet (verbs_of verb first)) (chain_from quiet (verbs_of verb first) given) rest

  pub record InPass (initial : List (Stage S)) (events : List Event) (stages : List (Stage S)) (out : List Event) (place : ℕ) : Type 0 where
    pub first : List (Stage S)
    pub done : List (Stage S)
    pub rest : List (Stage S)
    pub initial_is : initial ≡ first ++ rest
    pub stages_is : stages ≡ done ++ rest
    pub count : length done ≡ place
    pub same : verbs_of verb done ≡ verbs_of verb first
    pub through : (quiet : Bool) (given : List Event) → StagesRepresent verb represents quiet given initial → is_list (given ++ events) ≡ true → Through first done rest events out quiet given

  pub pass-begins : (initial : List (Stage S)) (events : List Event) → InPass initial events initial events 0
  pass-begins initial events = record {
    first = [];
    done = [];
    rest = initial;
    initial_is = refl;
    stages_is = refl;
    count = refl;
    same = refl;
    through = λ quiet given at list. record { at = tt; made = refl; list = list; later = at };
  }

  -- the next stage, which is still to take the events
  pub record Coming (initial : List (Stage S)) (events : List Event) (stages : List (Stage S)) (out : List Event) (place : ℕ) : Type 0 where
    pub first : List (Stage S)
    pub done : List (Stage S)
    pub stage : Stage S
    pub rest : List (Stage S)
    pub initial_is : initial ≡ first ++ stage ∷ rest
    pub stages_is : stages ≡ done ++ stage ∷ rest
    pub count : length done ≡ place
    pub same : verbs_of verb done ≡ verbs_of verb first
    pub through : (quiet : Bool) (given : List Event) → StagesRepresent verb represents quiet given initial → is_list (given ++ events) ≡ true → Through first done (stage ∷ rest) events out quiet given

  pub coming : (initial : List (Stage S)) (events : List Event) (stages : List (Stage S)) (out : List Event) (place : ℕ) → InPass initial events stages out place → place < length stages → Coming initial events stages out place
  coming initial events stages out place now below = go now.rest refl
    where
      go : (rest : List (Stage S)) → now.rest ≡ rest → Coming initial events stages out place
      go [] is = absurd (
          let e : length stages ≡ length now.done = ap length (now.stages_is ∙ ap (λ r. now.done ++ r) is ∙ append-nil now.done) in
          let f : length now.done ≡ place = now.count in
          omega arith
          )
      go (stage ∷ rest) is = record {
        first = now.first;
        done = now.done;
        stage = stage;
        rest = rest;
        initial_is = now.initial_is ∙ ap (λ r. now.first ++ r) is;
        stages_is = now.stages_is ∙ ap (λ r. now.done ++ r) is;
        count = now.count;
        same = now.same;
        through = λ quiet given at list. subst (λ r. Through now.first now.done r events out quiet given) is (now.through quiet given at list);
      }

  pub stage-at : (initial : List (Stage S)) (events : List Event) (stages : List (Stage S)) (out : List Event) (place : ℕ) (next : Coming initial events stages out place) (d : Stage S) → slice_index_or stages place d ≡ next.stage
  stage-at initial events stages out place next d =
      ap (λ xs. slice_index_or xs place d) next.stages_is
      ∙ ap (λ n. slice_index_or (next.done ++ next.stage ∷ next.rest) n d) (sym next.count)
      ∙ get_or-append_seam next.done next.stage next.rest d

  -- the requirements of the next stage
  pub next-represents : (initial : List (Stage S)) (events : List Event) (stages : List (Stage S)) (out : List Event) (place : ℕ) (next : Coming initial events stages out place) (quiet : Bool) (given : List Event)
      → StagesRepresent verb represents quiet given initial → is_list (given ++ events) ≡ true
      → GateRepresents verb represents (chain_from quiet (verbs_of verb next.first) given) next.stage.gate × (is_list (chain_from quiet (verbs_of verb next.first) given ++ out) ≡ true) × (next.stage.made ≡ [])
  next-represents initial events stages out place next quiet given at list = let through = next.through quiet given at list in (through.later.1, through.list, through.later.2)

  pub verbs-last : (xs : List (Stage S)) (x : Stage S) → verbs_of verb (xs ++ x ∷ []) ≡ verbs_of verb xs ++ verb x.gate.verb ∷ []
  verbs-last xs x = map-append (λ stage. verb stage.gate.verb) xs (x ∷ [])

  -- the next stage has taken the events
  pub pass-next : ((s : S) → KeepsOrder (verb s)) → (initial : List (Stage S)) (events : List Event) (stages : List (Stage S)) (out : List Event) (place : ℕ) (next : Coming initial events stages out place) (then_ : Stage S) (out_then : List Event)
      → IsSameGate verb then_.gate next.stage.gate → then_.made ≡ []
      → ((given : List Event) → GateRepresents verb represents given next.stage.gate → is_list (given ++ out) ≡ true → GateRepresents verb represents (given ++ out) then_.gate)
      → ((given : List Event) → GateRepresents verb represents given next.stage.gate → is_list (given ++ out) ≡ true → made_at next.stage.gate.quiet (verb next.stage.gate.verb) (given ++ out) ≡ made_at next.stage.gate.quiet (verb next.stage.gate.verb) given ++ out_then)
      → InPass initial events (slice_set stages place then_) out_then (place + 1)
  pass-next order initial events stages out place next then_ out_then same empty stood made_more = record {
    first = next.first ++ next.stage ∷ [];
    done = next.done ++ then_ ∷ [];
    rest = next.rest;
    initial_is = next.initial_is ∙ sym (append_assoc next.first (next.stage ∷ []) next.rest);
    stages_is =
        ap (λ xs. slice_set xs place then_) next.stages_is
        ∙ ap (λ n. slice_set (next.done ++ next.stage ∷ next.rest) n then_) (sym next.count)
        ∙ set-append_seam next.done next.stage next.rest then_
        ∙ sym (append_assoc next.done (then_ ∷ []) next.rest);
    count = length-append next.done (then_ ∷ []) ∙ ap (λ n. n + 1) next.count;
    same = verbs-last next.done then_ ∙ ap (λ vs. vs ++ verb then_.gate.verb ∷ []) next.same ∙ ap (λ v. verbs_of verb next.first ++ v ∷ []) same.0 ∙ sym (verbs-last next.first next.stage);
    through = λ quiet given at list. go quiet given (next.through quiet given at list);
  }
    where
      go : (quiet : Bool) (given : List Event) → Through next.first next.done (next.stage ∷ next.rest) events out quiet given → Through (next.first ++ next.stage ∷ []) (next.done ++ then_ ∷ []) next.rest events out_then quiet given
      go quiet given through =
          let v = verb next.stage.gate.verb in
          let prefix = verbs_of verb next.first in
          let q = quiet_after quiet prefix in
          let g = chain_from quiet prefix given in
          let quiet_is : next.stage.gate.quiet ≡ q = through.later.0 in
          let whole : (xs : List Event) → chain_from quiet (verbs_of verb (next.first ++ next.stage ∷ [])) xs ≡ made_at q v (chain_from quiet prefix xs) =
          (λ xs. ap (λ vs. chain_from quiet vs xs) (verbs-last next.first next.stage) ∙ chain-append quiet prefix (v ∷ []) xs) in
          let more : made_at q v (g ++ out) ≡ made_at q v g ++ out_then = subst (λ b. made_at b v (g ++ out) ≡ made_at b v g ++ out_then) quiet_is (made_more g through.later.1 through.list) in
          record {
            at =
                represent-append quiet (given ++ events) next.done then_ through.at (same.1 ∙ quiet_is ∙ ap (quiet_after quiet) (sym next.same))
                (subst (λ t. GateRepresents verb represents t then_.gate) (sym (ap (λ vs. chain_from quiet vs (given ++ events)) next.same ∙ through.made)) (stood g through.later.1 through.list))
                empty;
            made = whole (given ++ events) ∙ ap (made_at q v) through.made ∙ more ∙ ap (λ t. t ++ out_then) (sym (whole given));
            list = ap (λ t. is_list (t ++ out_then)) (whole given) ∙ ap is_list (sym more) ∙ made-at-list q v (g ++ out) (order next.stage.gate.verb) through.list;
            later =
                subst (λ b. StagesRepresent verb represents b (chain_from quiet (verbs_of verb (next.first ++ next.stage ∷ [])) given) next.rest) (sym (ap (quiet_after quiet) (verbs-last next.first next.stage) ∙ following-append quiet prefix (v ∷ [])))
                (subst (λ t. StagesRepresent verb represents (q && not v.effects) t next.rest) (sym (whole given)) through.later.3);
          }

  -- all stages have taken the events
  pub rest-none : (initial : List (Stage S)) (events : List Event) (stages : List (Stage S)) (out : List Event) (place : ℕ) (now : InPass initial events stages out place) → length stages ≡ length initial → place ≡ length initial → now.rest ≡ []
  rest-none initial events stages out place now = go now.rest refl
    where
      go : (rest : List (Stage S)) → now.rest ≡ rest → length stages ≡ length initial → place ≡ length initial → rest ≡ []
      go [] is same_length end_is = refl
      go (stage ∷ rest) is same_length end_is = absurd (
          let e : length stages ≡ length now.done + length (stage ∷ rest) = ap length (now.stages_is ∙ ap (λ r. now.done ++ r) is) ∙ length-append now.done (stage ∷ rest) in
          let f : length now.done ≡ place = now.count in
          let h : length (stage ∷ rest) ≡ suc (length rest) = refl in
          omega arith
          )

  module _ (initial : List (Stage S)) (events : List Event) (stages : List (Stage S)) (out : List Event) (place : ℕ) (now : InPass initial events stages out place) (none : now.rest ≡ []) where
    stages-done : stages ≡ now.done
    stages-done = now.stages_is ∙ ap (λ r. now.done ++ r) none ∙ append-nil now.done

    initial-first : initial ≡ now.first
    initial-first = now.initial_is ∙ ap (λ r. now.first ++ r) none ∙ append-nil now.first

    pub passed-same : verbs_of verb stages ≡ verbs_of verb initial
    passed-same = ap (verbs_of verb) stages-done ∙ now.same ∙ ap (verbs_of verb) (sym initial-first)

    pub passed-represents : (quiet : Bool) (given : List Event) → StagesRepresent verb represents quiet given initial → is_list (given ++ events) ≡ true → StagesRepresent verb represents quiet (given ++ events) stages
    passed-represents quiet given at list = subst (StagesRepresent verb represents quiet (given ++ events)) (sym stages-done) (now.through quiet given at list).at

    pub passed-made : (quiet : Bool) (given : List Event) → StagesRepresent verb represents quiet given initial → is_list (given ++ events) ≡ true → chain_from quiet (verbs_of verb initial) (given ++ events) ≡ chain_from quiet (verbs_of verb initial) given ++ out
    passed-made quiet given at list =
        subst (λ xs. chain_from quiet (verbs_of verb xs) (given ++ events) ≡ chain_from quiet (verbs_of verb xs) given ++ out) (sym initial-first) (now.through quiet given at list).made

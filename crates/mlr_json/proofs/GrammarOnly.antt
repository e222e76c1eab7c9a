-- What the grammar says of a text, the machine finds: so it says one thing.
use Rattle.std.proofs.Common.{◌≡◌, ℕ, ◌+◌, ◌<◌, ◌≤◌, cond, List, [], ◌∷◌, ◌++◌, length, take, Option, Some, None, ◌⊎◌, inl, inr, refl, ap, sym, subst, ◌∙◌, append_assoc, arith}
use Rattle.std.proofs.Math.Seq.{take-append-add}
use Rattle.std.proofs.lemmas.List.{append-nil, map-append}
use Rattle.std.proofs.lemmas.Bool.{le-ltb, lt-ltb}
use Rattle.std.specs.List.{count_by}
use Rattle.mlr_spec.specs.JsonTokens.{Token}
use Rattle.mlr_spec.specs.JsonGrammar.{Syntax, tokens_in, value_of, Begins, is_opening, is_closing, level_of, IsShallow, bare}
use Rattle.mlr_json.specs.declared.frame.Frame.{Frame}
use Rattle.mlr_json.specs.declared.frame.Phase.{Phase}
use Rattle.mlr_json.specs.declared.frame.Phase.TheVariants as phase
use Rattle.mlr_json.specs.Machine.{Step, on, whole, wrong, step, Outcome, read, syntax, deep, outcome_after, outcome_cut, outcome_from}
use Rattle.mlr_json.proofs.Grammar.{Represents, Leads, leads}
use Rattle.mlr_json.proofs.GrammarRuns.{begins-prefix, represents-begins, run, run_on, run-cons, run-whole}
use Rattle.mlr_json.proofs.GrammarOutcome.{one_if, Balanced, balanced, count-push, run-append, run-push, run_on-nil, begins-run, Reads, reads-nothing, reads-push, level-push, outcome_on, outcome-step, Holds}

-- a run leads where the grammar leads
leads-run : (frames : List Frame) (at : Phase) (before tokens : List Token) → Represents frames at before → Leads (run frames at tokens) (before ++ tokens)
leads-run frames at before [] h = subst (Represents frames at) (sym (append-nil before)) h
leads-run frames at before (t ∷ tokens) h =
    subst (λ s. Leads s (before ++ t ∷ tokens)) (sym (run-cons frames at t tokens))
    (subst (Leads (run_on (step frames at t) tokens)) (append_assoc before (t ∷ []) tokens)
    (on-step (step frames at t) (before ++ t ∷ []) tokens (λ more next represents. leads-run more next (before ++ t ∷ []) tokens represents) (leads frames at t before h)))
  where
    on-step : (s : Step) (xs ys : List Token) → ((more : List Frame) (next : Phase) → Represents more next xs → Leads (run more next ys) (xs ++ ys)) → Leads s xs → Leads (run_on s ys) (xs ++ ys)
    on-step (on more next) xs ys later h = later more next h
    on-step (whole value) xs [] later h = (h.0, append-nil xs ∙ h.1, h.2)
    on-step (whole value) xs (y ∷ ys) later h = tt
    on-step wrong xs ys later h = tt

-- the level after a step
abbrev LevelAt : Step → List Token → Type 0
LevelAt (on frames at) tokens = count_by is_opening tokens ≡ count_by is_closing tokens + length frames
LevelAt (whole value) tokens = count_by is_opening tokens ≡ count_by is_closing tokens + 0
LevelAt wrong tokens = Unit {0}

level-step : (s : Step) (before : List Token) (n : ℕ) (t : Token) → count_by is_opening before ≡ count_by is_closing before + n → Balanced s n t → LevelAt s (before ++ t ∷ [])
level-step (on more next) before n t h b =
    let o : count_by is_opening (before ++ t ∷ []) ≡ count_by is_opening before + one_if (is_opening t) = count-push is_opening before t in
    let c : count_by is_closing (before ++ t ∷ []) ≡ count_by is_closing before + one_if (is_closing t) = count-push is_closing before t in
    let e : length more + one_if (is_closing t) ≡ n + one_if (is_opening t) = b in
    omega arith
level-step (whole value) before n t h b =
    let o : count_by is_opening (before ++ t ∷ []) ≡ count_by is_opening before + one_if (is_opening t) = count-push is_opening before t in
    let c : count_by is_closing (before ++ t ∷ []) ≡ count_by is_closing before + one_if (is_closing t) = count-push is_closing before t in
    let e : one_if (is_closing t) ≡ n + one_if (is_opening t) = b in
    omega arith
level-step wrong before n t h b = tt

level-run : (frames : List Frame) (at : Phase) (before tokens : List Token) → count_by is_opening before ≡ count_by is_closing before + length frames → LevelAt (run frames at tokens) (before ++ tokens)
level-run frames at before [] h = subst (λ x. count_by is_opening x ≡ count_by is_closing x + length frames) (sym (append-nil before)) h
level-run frames at before (t ∷ tokens) h =
    subst (λ s. LevelAt s (before ++ t ∷ tokens)) (sym (run-cons frames at t tokens))
    (subst (LevelAt (run_on (step frames at t) tokens)) (append_assoc before (t ∷ []) tokens)
    (on-step (step frames at t) (before ++ t ∷ []) tokens (λ more next e. level-run more next (before ++ t ∷ []) tokens e)
    (level-step (step frames at t) before (length frames) t h (balanced frames at t))))
  where
    on-step : (s : Step) (xs ys : List Token) → ((more : List Frame) (next : Phase) → count_by is_opening xs ≡ count_by is_closing xs + length more → LevelAt (run more next ys) (xs ++ ys))
        → LevelAt s xs → LevelAt (run_on s ys) (xs ++ ys)
    on-step (on more next) xs ys later h = later more next h
    on-step (whole value) xs [] later h = subst (λ x. count_by is_opening x ≡ count_by is_closing x + 0) (sym (append-nil xs)) h
    on-step (whole value) xs (y ∷ ys) later h = tt
    on-step wrong xs ys later h = tt

-- the outcome after tokens that were passed
abbrev outcome_at : ℕ → Step → List (ℕ × Token) → Option ℕ → Outcome
outcome_at end (on frames at) tokens stop = outcome_from end frames at tokens stop
outcome_at end (whole value) tokens stop = outcome_after value tokens stop
outcome_at end wrong tokens stop = syntax end

module _ (end : ℕ) (stop : Option ℕ) where
  passes-step : (done before tokens : List (ℕ × Token)) (place : ℕ) (t : Token) (frames : List Frame) (at : Phase) → Reads done frames at → IsShallow (bare (done ++ (place, t) ∷ before))
      → ((more : List Frame) (next : Phase) → Reads (done ++ (place, t) ∷ []) more next → (run more next (bare before) ≡ wrong → ⊥)
      → outcome_from end more next (before ++ tokens) stop ≡ outcome_at end (run more next (bare before)) tokens stop)
      → (s : Step) → step frames at t ≡ s → (run_on s (bare before) ≡ wrong → ⊥)
      → outcome_on end (before ++ tokens) stop place s ≡ outcome_at end (run_on s (bare before)) tokens stop
  passes-step done before tokens place t frames at reads shallow later (on more next) is right =
      let balance : length more + one_if (is_closing t) ≡ length frames + one_if (is_opening t) = subst (λ x. Balanced x (length frames) t) is (balanced frames at t) in
      let level : count_by is_opening (bare done ++ t ∷ []) ≡ count_by is_closing (bare done ++ t ∷ []) + length more = level-push done frames at t (length more) reads balance in
      let prefix : take (length (bare done) + 1) (bare (done ++ (place, t) ∷ before)) ≡ bare done ++ t ∷ [] =
      ap (take (length (bare done) + 1)) (map-append (λ x. x.1) done ((place, t) ∷ before)) ∙ take-append-add (bare done) (t ∷ bare before) 1 in
      let low : level_of (bare done ++ t ∷ []) ≤ 100 = subst (λ x. level_of x ≤ 100) prefix (shallow (length (bare done) + 1)) in
      let few : length more ≤ 100 = omega arith in
      ap (λ b. cond b (deep place) (outcome_from end more next (before ++ tokens) stop)) (le-ltb 100 (length more) few)
      ∙ later more next (reads-push done frames at place t more next reads is few) right
  passes-step done [] tokens place t frames at reads shallow later (whole value) is right = refl
  passes-step done (b ∷ before) tokens place t frames at reads shallow later (whole value) is right = absurd (right refl)
  passes-step done before tokens place t frames at reads shallow later wrong is right = absurd (right refl)

  passes : (done before tokens : List (ℕ × Token)) (frames : List Frame) (at : Phase) → Reads done frames at → IsShallow (bare (done ++ before)) → (run frames at (bare before) ≡ wrong → ⊥)
      → outcome_from end frames at (before ++ tokens) stop ≡ outcome_at end (run frames at (bare before)) tokens stop
  passes done [] tokens frames at reads shallow right = refl
  passes done ((place, t) ∷ before) tokens frames at reads shallow right =
      let cons : run frames at (t ∷ bare before) ≡ run_on (step frames at t) (bare before) = run-cons frames at t (bare before) in
      outcome-step end frames at place t (before ++ tokens) stop
      ∙ passes-step done before tokens place t frames at reads shallow
      (λ more next reads_2 right_2. passes (done ++ (place, t) ∷ []) before tokens more next reads_2 (subst (λ x. IsShallow (bare x)) (sym (append_assoc done ((place, t) ∷ []) before)) shallow) right_2)
      (step frames at t) refl (λ e. right (cons ∙ e))
      ∙ ap (λ s. outcome_at end s tokens stop) (sym cons)

  -- from the start, up to a place
  up_to : (all before tokens : List (ℕ × Token)) → all ≡ before ++ tokens → IsShallow (bare before) → Begins (bare before)
      → outcome_from end [] phase.Value all stop ≡ outcome_at end (run [] phase.Value (bare before)) tokens stop
  up_to all before tokens parts shallow begins =
      ap (λ x. outcome_from end [] phase.Value x stop) parts
      ∙ passes [] before tokens [] phase.Value reads-nothing shallow (begins-run (bare before) begins)

  wrong-place : (before following : List (ℕ × Token)) (p : ℕ) (t : Token) → Begins (bare before) → (Begins (bare before ++ t ∷ []) → ⊥) → (s : Step) → run [] phase.Value (bare before) ≡ s
      → outcome_at end s ((p, t) ∷ following) stop ≡ syntax p
  wrong-place before following p t begins not (on frames at) is =
      outcome-step end frames at p t following stop ∙ stuck (step frames at t) refl
    where
      represents : Represents frames at (bare before)
      represents = subst (λ s. Leads s (bare before)) is (leads-run [] phase.Value [] (bare before) refl)

      stuck : (s : Step) → step frames at t ≡ s → outcome_on end following stop p s ≡ syntax p
      stuck (on more next) e = absurd (not (represents-begins more next (bare before ++ t ∷ []) (subst (λ s. Leads s (bare before ++ t ∷ [])) e (leads frames at t (bare before) represents))))
      stuck (whole value) e =
          let came = subst (λ s. Leads s (bare before ++ t ∷ [])) e (leads frames at t (bare before) represents) in
          absurd (not (record { syntax = came.0; more = []; whole = append-nil (bare before ++ t ∷ []) ∙ came.1 }))
      stuck wrong e = refl
  wrong-place before following p t begins not (whole value) is = refl
  wrong-place before following p t begins not wrong is = absurd (begins-run (bare before) begins is)

  deep-place : (before following : List (ℕ × Token)) (p : ℕ) (t : Token) → Begins (bare before ++ t ∷ []) → level_of (bare before ++ t ∷ []) ≡ 101 → (s : Step) → run [] phase.Value (bare before) ≡ s
      → outcome_at end s ((p, t) ∷ following) stop ≡ deep p
  deep-place before following p t begins level (on frames at) is =
      outcome-step end frames at p t following stop ∙ opened (step frames at t) refl
    where
      ran : run [] phase.Value (bare before ++ t ∷ []) ≡ step frames at t
      ran = run-push [] phase.Value (bare before) t frames at is ∙ run_on-nil (step frames at t)

      opened : (s : Step) → step frames at t ≡ s → outcome_on end following stop p s ≡ deep p
      opened (on more next) e =
          let l : count_by is_opening (bare before ++ t ∷ []) ≡ count_by is_closing (bare before ++ t ∷ []) + length more =
          subst (λ s. LevelAt s (bare before ++ t ∷ [])) (ran ∙ e) (level-run [] phase.Value [] (bare before ++ t ∷ []) refl) in
          let many : 100 < length more = omega arith in
          ap (λ b. cond b (deep p) (outcome_from end more next following stop)) (lt-ltb 100 (length more) many)
      opened (whole value) e =
          let l : count_by is_opening (bare before ++ t ∷ []) ≡ count_by is_closing (bare before ++ t ∷ []) + 0 =
          subst (λ s. LevelAt s (bare before ++ t ∷ [])) (ran ∙ e) (level-run [] phase.Value [] (bare before ++ t ∷ []) refl) in
          absurd (omega arith)
      opened wrong e = absurd (begins-run (bare before ++ t ∷ []) begins (ran ∙ e))
  deep-place before following p t begins level (whole value) is =
      absurd (begins-run (bare before ++ t ∷ []) begins (run-append [] phase.Value (bare before) (t ∷ []) ∙ ap (λ s. run_on s (t ∷ [])) is))
  deep-place before following p t begins level wrong is =
      absurd (begins-run (bare before) (begins-prefix (bare before) (t ∷ []) begins) is)

  cut-place : (all : List (ℕ × Token)) (p : ℕ) → Begins (bare all) → ((stop ≡ Some p) ⊎ ((stop ≡ None) × (p ≡ end) × ((s : Syntax) → bare all ≡ tokens_in s → ⊥))) → (s : Step) → run [] phase.Value (bare all) ≡ s
      → outcome_at end s [] stop ≡ syntax p
  cut-place all p begins (inl at_p) (on frames at) is = ap (outcome_cut end) at_p
  cut-place all p begins (inr ended) (on frames at) is = ap (outcome_cut end) ended.0 ∙ ap syntax (sym ended.1)
  cut-place all p begins (inl at_p) (whole value) is = ap (outcome_after value []) at_p
  cut-place all p begins (inr ended) (whole value) is =
      let came = subst (λ s. Leads s (bare all)) is (leads-run [] phase.Value [] (bare all) refl) in
      absurd (ended.2 came.0 came.1)
  cut-place all p begins how wrong is = absurd (begins-run (bare all) begins is)

  -- whatever the grammar says of the tokens is the outcome
  pub only : (all : List (ℕ × Token)) (o : Outcome) → Holds all stop end o → outcome_from end [] phase.Value all stop ≡ o
  only all (read value) h =
      let begins : Begins (bare all) = record { syntax = h.0; more = []; whole = append-nil (bare all) ∙ h.1 } in
      up_to all all [] (sym (append-nil all)) (subst IsShallow (sym h.1) h.3) begins
      ∙ ap (λ s. outcome_at end s [] stop) (ap (run [] phase.Value) h.1 ∙ run-whole h.0)
      ∙ ap (outcome_after (value_of h.0) []) h.2 ∙ ap read (sym h.4)
  only all (syntax p) (inl w) =
      up_to all w.before ((p, w.token) ∷ w.following) w.parts w.shallow w.begins
      ∙ wrong-place w.before w.following p w.token w.begins w.wrong (run [] phase.Value (bare w.before)) refl
  only all (syntax p) (inr c) =
      up_to all all [] (sym (append-nil all)) c.shallow c.begins
      ∙ cut-place all p c.begins c.stop (run [] phase.Value (bare all)) refl
  only all (deep p) d =
      up_to all d.before ((p, d.token) ∷ d.following) d.parts d.shallow (begins-prefix (bare d.before) (d.token ∷ []) d.begins)
      ∙ deep-place d.before d.following p d.token d.begins d.deep (run [] phase.Value (bare d.before)) refl

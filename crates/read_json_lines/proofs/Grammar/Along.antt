-- The machine of a stream accepts the tokens with which a stream of the grammar may begin.
use Rattle.std.proofs.Common.{◌≡◌, ℕ, ◌+◌, ◌≤◌, List, [], ◌∷◌, ◌++◌, length, take, refl, ap, ap₂, sym, subst, ◌∙◌, append_assoc, cond}
use Rattle.std.proofs.Math.Seq.{take-append-add}
use Rattle.std.proofs.lemmas.Bool.{le-ltb}
use Rattle.std.proofs.lemmas.List.{append-nil, map-append}
use Rattle.mlr_spec.specs.Tree.{map_of}
use Rattle.mlr_spec.specs.JsonTokens.{Token}
use Rattle.mlr_spec.specs.JsonGrammar.{Members, level_of, IsShallow, bare}
use Rattle.mlr_json.specs.declared.frame.Frame.{Frame}
use Rattle.mlr_json.specs.declared.frame.Phase.{Phase}
use Rattle.mlr_json.specs.Machine.{Step, on, whole, wrong, step}
use Rattle.mlr_json.proofs.GrammarRuns.{run, run_on, run-cons}
use Rattle.mlr_json.proofs.GrammarOutcome.{bare-push}
use Rattle.mlr_event.specs.declared.names.FileRef.{FileRef}
use Rattle.mlr_event.specs.Reading.{fields}
use Rattle.read_json_lines.specs.declared.listing.Listing.{Listing}
use Rattle.read_json_lines.specs.declared.listing.Trouble.TheVariants.{Deep}
use Rattle.read_json_lines.specs.Records.{State, Turn, goes, gives, fails, turn, record_turn, value_turn, after_record, Ending, items_of}
use Rattle.read_json_lines.specs.Grammar.{record_of, records}
use Rattle.read_json_lines.proofs.Pairs.{pairs-in-fields}
use Rattle.read_json_lines.proofs.Grammar.Maps.{IsMapAt, map-on, map-open, map-level}
use Rattle.read_json_lines.proofs.Grammar.Positions.{between}
use Rattle.read_json_lines.proofs.Grammar.Items.{items_on, items-cons}

-- ---- following tokens

-- a token is accepted, and these maps are complete after it
abbrev pub Gives : Turn → List Members → State → Type 0
Gives (goes s) maps next = (maps ≡ []) × (s ≡ next)
Gives (gives pairs s) maps next = (m : Members) × (maps ≡ m ∷ []) × (pairs ≡ record_of m) × (s ≡ next)
Gives (fails trouble) maps next = ⊥

abbrev pub Goes : State → List Token → List Members → State → Type 0
Goes s [] maps next = (maps ≡ []) × (next ≡ s)
Goes s (t ∷ tokens) maps next = (first : List Members) × (mid : State) × (more : List Members) × Gives (turn s t) first mid × Goes mid tokens more next × (maps ≡ first ++ more)

pub goes-one : (s next : State) (t : Token) → turn s t ≡ goes next → Goes s (t ∷ []) [] next
goes-one s next t is = ([], next, [], subst (λ r. Gives r [] next) (sym is) (refl, refl), (refl, refl), refl)

pub goes-append : (a b : List Token) (s mid next : State) (g h : List Members) → Goes s a g mid → Goes mid b h next → Goes s (a ++ b) (g ++ h) next
goes-append [] b s mid next g h x y = subst (λ k. Goes s b (k ++ h) next) (sym x.0) (subst (λ q. Goes q b h next) x.1 y)
goes-append (t ∷ a) b s mid next g h x y =
    (x.0, x.1, x.2 ++ h, x.3, goes-append a b x.1 mid next x.2 h x.4 y, ap (λ k. k ++ h) x.5 ∙ append_assoc x.0 x.2 h)

-- the items are the records of the maps
module _ (file : FileRef) (ending : Ending) where
  turn-items : (place : ℕ) (tokens : List (ℕ × Token)) (r : Turn) (maps : List Members) (next : State) → Gives r maps next
      → items_on file place tokens ending r ≡ records maps ++ items_of file next tokens ending
  turn-items place tokens (goes s) maps next h = ap (λ x. items_of file x tokens ending) h.1 ∙ ap (λ k. records k ++ items_of file next tokens ending) (sym h.0)
  turn-items place tokens (gives pairs s) maps next h =
      ap₂ (λ p x. fields p ∷ items_of file x tokens ending) h.2 h.3 ∙ ap (λ k. records k ++ items_of file next tokens ending) (sym h.1)
  turn-items place tokens (fails trouble) maps next h = absurd h

  pub goes-items : (before rest : List (ℕ × Token)) (s next : State) (maps : List Members) → Goes s (bare before) maps next
      → items_of file s (before ++ rest) ending ≡ records maps ++ items_of file next rest ending
  goes-items [] rest s next maps h = ap (λ x. items_of file x rest ending) (sym h.1) ∙ ap (λ k. records k ++ items_of file next rest ending) (sym h.0)
  goes-items ((place, t) ∷ before) rest s next maps h =
      items-cons file place (before ++ rest) ending s t
      ∙ turn-items place (before ++ rest) (turn s t) h.0 h.1 h.3
      ∙ ap (λ x. records h.0 ++ x) (goes-items before rest h.1 next h.2 h.4)
      ∙ sym (ap (λ k. records k ++ items_of file next rest ending) h.5 ∙ ap (λ x. x ++ items_of file next rest ending) (records-append h.0 h.2)
      ∙ append_assoc (records h.0) (records h.2) (items_of file next rest ending))
    where
      records-append : (a b : List Members) → records (a ++ b) ≡ records a ++ records b
      records-append a b = map-append (λ m. fields (record_of m)) a b

-- ---- within a map

abbrev pub inner : Listing → List Frame → Phase → State
inner listing frames at = record { list = listing; frames = frames; phase = at }

-- the step after the tokens of a map that is at most 100 levels deep
abbrev pub Along : Listing → List (ℕ × Token) → List Frame → Phase → List Token → Step → Type 0
Along listing done frames at tokens (on more next) =
    (all : List (ℕ × Token)) × (bare all ≡ bare done ++ tokens) × IsMapAt all more next × Goes (inner listing frames at) tokens [] (inner listing more next)
Along listing done frames at tokens (whole value) = (m : Members) → value ≡ map_of (record_of m) → Goes (inner listing frames at) tokens (m ∷ []) (between (after_record listing))
Along listing done frames at tokens wrong = Unit {0}

module _ (listing : Listing) where
  -- a step that doesn't exceed the level
  inner-on : (f g : Frame) (frames more : List Frame) (at next : Phase) (t : Token) → step (f ∷ frames) at t ≡ on (g ∷ more) next → length (g ∷ more) ≤ 100
      → turn (inner listing (f ∷ frames) at) t ≡ goes (inner listing (g ∷ more) next)
  inner-on f g frames more at next t is few =
      ap (value_turn listing) is ∙ ap (λ b. cond b (fails Deep) (goes (inner listing (g ∷ more) next))) (le-ltb 100 (length (g ∷ more)) few)

  along-step : (done : List (ℕ × Token)) (f : Frame) (frames : List Frame) (at : Phase) (t : Token) (tokens : List Token) → IsMapAt done (f ∷ frames) at → IsShallow (bare done ++ t ∷ tokens)
      → ((g : Frame) (more : List Frame) (next : Phase) → IsMapAt (done ++ (0, t) ∷ []) (g ∷ more) next
      → Along listing (done ++ (0, t) ∷ []) (g ∷ more) next tokens (run (g ∷ more) next tokens))
      → (s : Step) → step (f ∷ frames) at t ≡ s → Along listing done (f ∷ frames) at (t ∷ tokens) (run_on s tokens)
  along-step done f frames at t tokens h shallow later (on [] next) is = absurd (map-open done (f ∷ frames) at h t next is)
  along-step done f frames at t tokens h shallow later (on (g ∷ more) next) is =
      by (run (g ∷ more) next tokens) (later g more next (map-on done (f ∷ frames) at h t (g ∷ more) next is few))
    where
      few : length (g ∷ more) ≤ 100
      few =
          let prefix : take (length (bare done) + 1) (bare done ++ t ∷ tokens) ≡ bare done ++ t ∷ [] = take-append-add (bare done) (t ∷ tokens) 1 in
          subst (λ n. n ≤ 100) (ap level_of prefix ∙ map-level done (f ∷ frames) at h t (g ∷ more) next is) (shallow (length (bare done) + 1))

      one_on : Goes (inner listing (f ∷ frames) at) (t ∷ []) [] (inner listing (g ∷ more) next)
      one_on = goes-one (inner listing (f ∷ frames) at) (inner listing (g ∷ more) next) t (inner-on f g frames more at next t is few)

      by : (s : Step) → Along listing (done ++ (0, t) ∷ []) (g ∷ more) next tokens s → Along listing done (f ∷ frames) at (t ∷ tokens) s
      by (on last end) a = (
        a.0,
        a.1 ∙ ap (λ x. x ++ tokens) (bare-push done 0 t) ∙ append_assoc (bare done) (t ∷ []) tokens,
        a.2,
        goes-append (t ∷ []) tokens (inner listing (f ∷ frames) at) (inner listing (g ∷ more) next) (inner listing last end) [] [] one_on a.3,
      )
      by (whole value) a = λ m e.
          goes-append (t ∷ []) tokens (inner listing (f ∷ frames) at) (inner listing (g ∷ more) next) (between (after_record listing)) [] (m ∷ []) one_on (a m e)
      by wrong a = tt
  along-step done f frames at t [] h shallow later (whole value) is = λ m e. (
    m ∷ [],
    between (after_record listing),
    [],
    subst (λ r. Gives r (m ∷ []) (between (after_record listing))) (sym (ap (value_turn listing) is ∙ ap (record_turn listing) e)) (m, refl, pairs-in-fields (record_of m), refl),
    (refl, refl),
    refl,
  )
  along-step done f frames at t (u ∷ tokens) h shallow later (whole value) is = tt
  along-step done f frames at t tokens h shallow later wrong is = tt

  pub along : (tokens : List Token) (done : List (ℕ × Token)) (f : Frame) (frames : List Frame) (at : Phase) → IsMapAt done (f ∷ frames) at → IsShallow (bare done ++ tokens)
      → Along listing done (f ∷ frames) at tokens (run (f ∷ frames) at tokens)
  along [] done f frames at h shallow = (done, sym (append-nil (bare done)), h, (refl, refl))
  along (t ∷ tokens) done f frames at h shallow =
      subst (Along listing done (f ∷ frames) at (t ∷ tokens)) (sym (run-cons (f ∷ frames) at t tokens))
      (along-step done f frames at t tokens h shallow
      (λ g more next k. along tokens (done ++ (0, t) ∷ []) g more next k
      (subst IsShallow (sym (ap (λ x. x ++ tokens) (bare-push done 0 t) ∙ append_assoc (bare done) (t ∷ []) tokens)) shallow))
      (step (f ∷ frames) at t) refl)

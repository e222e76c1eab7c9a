-- Each token leads the machine of a stream to the state that the grammar says, or is the fault that the
-- grammar says.
use Rattle.std.proofs.Common.{◌≡◌, ℕ, ◌<◌, ◌≤◌, cond, List, [], ◌∷◌, ◌++◌, inl, inr, length, refl, ap, sym, subst, ◌∙◌, append_assoc, ltb}
use Rattle.std.proofs.lemmas.List.{map-append}
use Rattle.std.proofs.lemmas.List.Elements.{All-nil, All-push}
use Rattle.std.proofs.lemmas.Bool.{ltb-true, ltb-false, cases_Bool}
use Rattle.mlr_spec.specs.declared.json.JsonMark.TheVariants.{BeginArray, EndArray}
use Rattle.mlr_spec.specs.JsonTokens.{Token, sign}
use Rattle.mlr_spec.specs.JsonGrammar.{object, Members, tokens_in, value_of, element_tokens, level_of, IsShallow, bare}
use Rattle.mlr_json.specs.declared.frame.Frame.{Frame}
use Rattle.mlr_json.specs.declared.frame.Frame.TheVariants.{Array}
use Rattle.mlr_json.specs.declared.frame.Phase.{Phase}
use Rattle.mlr_json.specs.declared.frame.Phase.TheVariants as phase
use Rattle.mlr_json.specs.Machine.{Step, on, whole, wrong, step, with_value}
use Rattle.mlr_json.proofs.GrammarOutcome.{bare-push}
use Rattle.read_json_lines.specs.declared.listing.Listing.{Listing}
use Rattle.read_json_lines.specs.declared.listing.Listing.TheVariants.{Outside}
use Rattle.read_json_lines.specs.declared.listing.Trouble.TheVariants.{Deep}
use Rattle.read_json_lines.specs.Records.{Turn, goes, gives, fails, value_turn, record_turn}
use Rattle.read_json_lines.specs.Grammar.{one, list, objects, record_of, comma_after, open_tokens, begun_tokens, BeginsValues, IsTrouble}
use Rattle.read_json_lines.proofs.Pairs.{pairs-in-fields}
use Rattle.read_json_lines.proofs.Grammar.Flows.{no-values, some-values}
use Rattle.read_json_lines.proofs.Grammar.Over.{over, step-over}
use Rattle.read_json_lines.proofs.Grammar.Parts.{list-push}
use Rattle.read_json_lines.proofs.Grammar.Maps.{map-level, map-deep, map-on, map-open, map-goes, map-whole}
use Rattle.read_json_lines.proofs.Grammar.Positions.{Position, outside, map_open, after_map, listed_map, between, state_at, open_at, list_frame, frames_at, phase_at, Stood, stood-on, stood-map, stood-part, records-go}

-- the outcome of a token after these tokens and maps
abbrev pub Says : Turn → List Token → List Members → Position → Token → Type 0
Says (goes s) before maps position t = (next : Position) × (s ≡ state_at next) × Stood (before ++ t ∷ []) maps next × (level_of (begun_tokens (open_at position) ++ t ∷ []) ≤ 100)
Says (gives pairs s) before maps position t =
    (next : Position) × (s ≡ state_at next) × (m : Members) × (pairs ≡ record_of m) × Stood (before ++ t ∷ []) (maps ++ m ∷ []) next
    × (level_of (begun_tokens (open_at position) ++ t ∷ []) ≤ 100)
Says (fails trouble) before maps position t = IsTrouble trouble before (open_at position) t

-- ---- within a map

-- a token that isn't allowed
pub wrong-values : (before : List Token) (maps : List Members) (position : Position) (t : Token) → Stood before maps position → step (frames_at position) (phase_at position) t ≡ wrong
    → BeginsValues (before ++ t ∷ []) → ⊥
wrong-values before maps position t h is =
    subst (λ x. BeginsValues (x ++ t ∷ []) → ⊥) (sym h.tokens_are) (no-values h.parts (open_tokens (open_at position)) (frames_at position) (phase_at position) h.reaches t is)

pub right-values : (before : List Token) (maps : List Members) (position : Position) (t : Token) → Stood before maps position → (step (frames_at position) (phase_at position) t ≡ wrong → ⊥)
    → BeginsValues (before ++ t ∷ [])
right-values before maps position t h right =
    subst (λ x. BeginsValues (x ++ t ∷ [])) (sym h.tokens_are) (some-values h.parts (open_tokens (open_at position)) (frames_at position) (phase_at position) h.reaches t right)

-- a step that stays within the map: it is accepted, or it opens level 101
module _ (before : List Token) (maps : List Members) (position : Position) (t : Token) (listing : Listing) (f : Frame) (more : List Frame) (next : Phase) where
  on-says : (length (f ∷ more) ≤ 100 → Says (goes (record { list = listing; frames = f ∷ more; phase = next })) before maps position t)
      → (100 < length (f ∷ more) → IsTrouble Deep before (open_at position) t) → Says (value_turn listing (on (f ∷ more) next)) before maps position t
  on-says low deep =
      elim (cases_Bool (ltb 100 (length (f ∷ more)))) as (λ _. Says (cond (ltb 100 (length (f ∷ more))) (fails Deep) (goes (record { list = listing; frames = f ∷ more; phase = next }))) before maps position t) [
        | inl past ↦ rw past (deep (ltb-true 100 (length (f ∷ more)) past))
        | inr few ↦ rw few (low (ltb-false 100 (length (f ∷ more)) few))
      ]

module _ (before : List Token) (maps : List Members) (done : List (ℕ × Token)) (f : Frame) (frames : List Frame) (at : Phase) (t : Token) where
  -- outside lists
  pub map-says : Stood before maps (map_open done f frames at) → (s : Step) → step (f ∷ frames) at t ≡ s → Says (value_turn Outside s) before maps (map_open done f frames at) t
  map-says h wrong is = wrong-values before maps (map_open done f frames at) t h is
  map-says h (on [] next) is = absurd (map-open done (f ∷ frames) at h.has_map t next is)
  map-says h (on (g ∷ more) next) is =
      on-says before maps (map_open done f frames at) t Outside g more next
      (λ few. (
        map_open (done ++ (0, t) ∷ []) g more next,
        refl,
        stood-on before maps (map_open done f frames at) t h (map_open (done ++ (0, t) ∷ []) g more next) (sym (bare-push done 0 t)) refl is (map-on done (f ∷ frames) at h.has_map t (g ∷ more) next is few),
        subst (λ n. n ≤ 100) (sym (map-level done (f ∷ frames) at h.has_map t (g ∷ more) next is)) few,
      ))
      (λ many.
      let m = map-goes done (f ∷ frames) at h.has_map t (g ∷ more) next is in
      (records-go before maps (map_open done f frames at) t h (one m.0) m.1 m.2, map-deep done (f ∷ frames) at h.has_map t (g ∷ more) next is many))
  map-says h (whole value) is =
      let w = map-whole done (f ∷ frames) at h.has_map t value is in
      subst (λ v. Says (record_turn Outside v) before maps (map_open done f frames at) t) (sym w.value_is) (
        outside,
        refl,
        w.members,
        pairs-in-fields (record_of w.members),
        stood-part before maps (map_open done f frames at) t h (one w.members) (w.members ∷ []) w.tokens_are refl (All-push (λ m. IsShallow (tokens_in (object m))) [] w.members (All-nil (λ m. IsShallow (tokens_in (object m)))) w.shallow),
        w.level,
      )

-- the tokens of a list with one more map
list-tokens : (maps : List Members) (m : Members) (begun : List Token) → begun ≡ tokens_in (object m)
    → sign BeginArray ∷ element_tokens (objects maps) ++ comma_after maps ++ begun ≡ sign BeginArray ∷ element_tokens (objects (maps ++ m ∷ []))
list-tokens maps m begun is = ap (λ x. sign BeginArray ∷ element_tokens (objects maps) ++ comma_after maps ++ x) is ∙ ap (λ x. sign BeginArray ∷ x) (sym (list-push maps m))

frame-push : (maps : List Members) (m : Members) → with_value (value_of (object m)) (list_frame maps ∷ []) ≡ on (list_frame (maps ++ m ∷ []) ∷ []) phase.Later
frame-push maps m = ap (λ x. on (Array x ∷ []) phase.Later) (sym (map-append (λ k. value_of (object k)) maps (m ∷ [])))

module _ (before : List Token) (maps : List Members) (listing : Listing) (listed : List Members) (done : List (ℕ × Token)) (f : Frame) (frames : List Frame) (at : Phase) (t : Token)
    (h : Stood before maps (listed_map listing listed done f frames at)) where
  stepped : (s : Step) → step (f ∷ frames) at t ≡ s → step (f ∷ frames ++ list_frame listed ∷ []) at t ≡ over (list_frame listed ∷ []) s
  stepped s is = step-over (list_frame listed ∷ []) f frames at t ∙ ap (over (list_frame listed ∷ [])) is

  assoc : (sign BeginArray ∷ element_tokens (objects listed) ++ comma_after listed ++ bare done) ++ t ∷ [] ≡ sign BeginArray ∷ element_tokens (objects listed) ++ comma_after listed ++ (bare done ++ t ∷ [])
  assoc = append_assoc (sign BeginArray ∷ element_tokens (objects listed) ++ comma_after listed) (bare done) (t ∷ [])

  -- within a list
  pub listed-says : (s : Step) → step (f ∷ frames) at t ≡ s → Says (value_turn listing s) before maps (listed_map listing listed done f frames at) t
  listed-says wrong is = wrong-values before maps (listed_map listing listed done f frames at) t h (stepped wrong is)
  listed-says (on [] next) is = absurd (map-open done (f ∷ frames) at h.has_map.0 t next is)
  listed-says (on (g ∷ more) next) is =
      on-says before maps (listed_map listing listed done f frames at) t listing g more next
      (λ few. (
        listed_map listing listed (done ++ (0, t) ∷ []) g more next,
        refl,
        stood-on before maps (listed_map listing listed done f frames at) t h (listed_map listing listed (done ++ (0, t) ∷ []) g more next)
            (assoc ∙ ap (λ x. sign BeginArray ∷ element_tokens (objects listed) ++ comma_after listed ++ x) (sym (bare-push done 0 t))) refl (stepped (on (g ∷ more) next) is)
            (map-on done (f ∷ frames) at h.has_map.0 t (g ∷ more) next is few, h.has_map.1),
        subst (λ n. n ≤ 100) (sym (map-level done (f ∷ frames) at h.has_map.0 t (g ∷ more) next is)) few,
      ))
      (λ many.
      let m = map-goes done (f ∷ frames) at h.has_map.0 t (g ∷ more) next is in (
        records-go before maps (listed_map listing listed done f frames at) t h (list (listed ++ m.0 ∷ [])) (m.1 ++ sign EndArray ∷ [])
            (regroup (sign BeginArray ∷ element_tokens (objects listed) ++ comma_after listed) (bare done) (t ∷ []) m.1 (sign EndArray ∷ [])
            ∙ ap (λ x. x ++ sign EndArray ∷ []) (list-tokens listed m.0 ((bare done ++ t ∷ []) ++ m.1) m.2)),
        map-deep done (f ∷ frames) at h.has_map.0 t (g ∷ more) next is many,
      ))
    where
      regroup : (a b c d e : List Token) → ((a ++ b) ++ c) ++ (d ++ e) ≡ (a ++ ((b ++ c) ++ d)) ++ e
      regroup a b c d e = simp append_assoc
  listed-says (whole value) is =
      let w = map-whole done (f ∷ frames) at h.has_map.0 t value is in
      subst (λ v. Says (record_turn listing v) before maps (listed_map listing listed done f frames at) t) (sym w.value_is) (
        after_map listed w.members,
        ap between h.has_map.1,
        w.members,
        pairs-in-fields (record_of w.members),
        stood-map before maps (listed_map listing listed done f frames at) t h listed w.members refl (assoc ∙ list-tokens listed w.members (bare done ++ t ∷ []) w.tokens_are)
            (stepped (whole value) is ∙ ap (λ v. with_value v (list_frame listed ∷ [])) w.value_is ∙ frame-push listed w.members) w.shallow,
        w.level,
      )

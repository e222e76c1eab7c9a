-- The items of the tokens of a stream are those of the grammar.
use Rattle.std.proofs.Common.{◌≡◌, ℕ, Bool, true, false, cond, List, [], ◌∷◌, ◌++◌, inl, inr, refl, ap, sym, subst, ◌∙◌, append_assoc}
use Rattle.std.proofs.lemmas.List.{append-nil, map-append}
use Rattle.std.proofs.lemmas.Bool.{cases_Bool}
use Rattle.std.proofs.Math.Bool.{and-false}
use Rattle.mlr_spec.specs.Tree.{Tree}
use Rattle.mlr_spec.specs.JsonTokens.{Token, word_token}
use Rattle.mlr_spec.specs.JsonGrammar.{Members, bare}
use Rattle.mlr_json.specs.declared.frame.Frame.{Frame}
use Rattle.mlr_json.specs.declared.frame.Phase.{Phase}
use Rattle.mlr_json.specs.declared.frame.Phase.TheVariants as phase
use Rattle.mlr_json.specs.Machine.{whole, wrong, takes_value, with_value, step}
use Rattle.mlr_json.proofs.GrammarOutcome.{bare-push}
use Rattle.mlr_event.specs.declared.names.FileRef.{FileRef}
use Rattle.mlr_event.specs.Reading.{Item, fields}
use Rattle.mlr_event.specs.Reading as reading
use Rattle.read_json_lines.specs.declared.listing.Trouble.TheVariants.{Syntax}
use Rattle.read_json_lines.specs.Records.{State, Turn, goes, gives, fails, turn, fault_of, Ending, goes_on, begins, stops, ends, end_items, is_outside, items_of}
use Rattle.read_json_lines.specs.Grammar.{stream_tokens, open_tokens, record_of, records, IsLast, HasItems}
use Rattle.mlr_json.proofs.GrammarRuns.{step-word}
use Rattle.read_json_lines.proofs.Grammar.Flows.{no-stream}
use Rattle.read_json_lines.proofs.Grammar.Over.{value-represents}
use Rattle.read_json_lines.proofs.Grammar.Positions.{Position, outside, map_open, list_open, after_map, after_comma, listed_map, state_at, open_at, list_frame, frames_at, phase_at, Stood, stood-nothing, stood-prefix}
use Rattle.read_json_lines.proofs.Grammar.Turns.{Says, wrong-values, right-values}
use Rattle.read_json_lines.proofs.Grammar.Between.{turn-says}

-- ---- the end of the tokens

module _ (file : FileRef) (before : List Token) (maps : List Members) (place : ℕ) where
  -- a word that has begun within a map
  within-last : (position : Position) (f : Frame) (frames : List Frame) (at : Phase) → frames_at position ≡ f ∷ frames → phase_at position ≡ at → Stood before maps position
      → IsLast file before (begins place) (cond (takes_value at) [] (reading.fault (fault_of file Syntax place) ∷ []))
  within-last position f frames at frames_are at_is h =
      elim (cases_Bool (takes_value at)) as (λ _. IsLast file before (begins place) (cond (takes_value at) [] (reading.fault (fault_of file Syntax place) ∷ []))) [
        | inl takes ↦ rw takes (inl (λ value. right-values before maps position (word_token value) h (λ e. value-represents value f frames (sym (stepped value true takes) ∙ e)), refl))
        | inr refuses ↦ rw refuses (inr (λ value. wrong-values before maps position (word_token value) h (stepped value false refuses), refl))
      ]
    where
      stepped : (value : Tree) (takes : Bool) → takes_value at ≡ takes → step (frames_at position) (phase_at position) (word_token value) ≡ cond takes (with_value value (f ∷ frames)) wrong
      stepped value takes is =
          ap (λ x. step x (phase_at position) (word_token value)) frames_are ∙ ap (λ x. step (f ∷ frames) x (word_token value)) at_is ∙ step-word value (f ∷ frames) at takes is

  word-last : (position : Position) → Stood before maps position → IsLast file before (begins place) (end_items file (state_at position) (begins place))
  word-last outside h = inl (λ value. right-values before maps outside (word_token value) h (λ e. let x : whole value ≡ wrong = sym (step-word value [] phase.Value true refl) ∙ e in cc), refl)
  word-last (map_open done f frames at) h = within-last (map_open done f frames at) f frames at refl refl h
  word-last list_open h =
      inl (λ value. right-values before maps list_open (word_token value) h (λ e. value-represents value (list_frame []) [] (sym (step-word value (list_frame [] ∷ []) phase.FirstItem true refl) ∙ e)), refl)
  word-last (after_map listed m) h =
      inr (λ value. wrong-values before maps (after_map listed m) (word_token value) h (step-word value (list_frame (listed ++ m ∷ []) ∷ []) phase.Later false refl), refl)
  word-last (after_comma listed m) h =
      inl (
        λ value. right-values before maps (after_comma listed m) (word_token value) h
            (λ e. value-represents value (list_frame (listed ++ m ∷ [])) [] (sym (step-word value (list_frame (listed ++ m ∷ []) ∷ []) phase.Value true refl) ∙ e)),
        refl,
      )
  word-last (listed_map listing listed done f frames at) h =
      within-last (listed_map listing listed done f frames at) f (frames ++ list_frame listed ∷ []) at refl refl h

  open-last : (position : Position) → Stood before maps position → (frames_at position ≡ [] → ⊥)
      → IsLast file before (ends place) (reading.fault (fault_of file Syntax place) ∷ [])
  open-last position h some =
      inr (λ parts is. no-stream h.parts (open_tokens (open_at position)) (frames_at position) (phase_at position) h.reaches some parts (sym h.tokens_are ∙ is), refl)

  whole-last : (position : Position) → Stood before maps position → IsLast file before (ends place) (end_items file (state_at position) (ends place))
  whole-last outside h = inl (h.parts, h.tokens_are ∙ append-nil (stream_tokens h.parts), refl)
  whole-last (map_open done f frames at) h = open-last (map_open done f frames at) h (λ e. let x : f ∷ frames ≡ [] = e in cc)
  whole-last list_open h = open-last list_open h (λ e. let x : list_frame [] ∷ [] ≡ [] = e in cc)
  whole-last (after_map listed m) h = open-last (after_map listed m) h (λ e. let x : list_frame (listed ++ m ∷ []) ∷ [] ≡ [] = e in cc)
  whole-last (after_comma listed m) h = open-last (after_comma listed m) h (λ e. let x : list_frame (listed ++ m ∷ []) ∷ [] ≡ [] = e in cc)
  whole-last (listed_map listing listed done f frames at) h =
      subst (λ b. IsLast file before (ends place) (cond b [] (reading.fault (fault_of file Syntax place) ∷ []))) (sym (and-false (is_outside listing)))
      (open-last (listed_map listing listed done f frames at) h (λ e. let x : f ∷ frames ++ list_frame listed ∷ [] ≡ [] = e in cc))

pub last-says : (file : FileRef) (before : List Token) (maps : List Members) (position : Position) (ending : Ending) → Stood before maps position
    → IsLast file before ending (end_items file (state_at position) ending)
last-says file before maps position goes_on h = refl
last-says file before maps position (begins place) h = word-last file before maps place position h
last-says file before maps position (stops place) h = refl
last-says file before maps position (ends place) h = whole-last file before maps place position h

-- ---- all tokens

-- the items of an outcome, and of the tokens after it
abbrev pub items_on : FileRef → ℕ → List (ℕ × Token) → Ending → Turn → List Item
items_on file place tokens ending (goes next) = items_of file next tokens ending
items_on file place tokens ending (gives pairs next) = fields pairs ∷ items_of file next tokens ending
items_on file place tokens ending (fails trouble) = reading.fault (fault_of file trouble place) ∷ []

pub items-cons : (file : FileRef) (place : ℕ) (tokens : List (ℕ × Token)) (ending : Ending) (s : State) (t : Token)
    → items_of file s ((place, t) ∷ tokens) ending ≡ items_on file place tokens ending (turn s t)
items-cons file place tokens ending s t = elim (turn s t) as (λ r. elim r as (λ _. List Item) [
  | goes next ↦ items_of file next tokens ending
  | gives pairs next ↦ fields pairs ∷ items_of file next tokens ending
  | fails trouble ↦ reading.fault (fault_of file trouble place) ∷ []
] ≡ items_on file place tokens ending r) [
  | goes next ↦ refl
  | gives pairs next ↦ refl
  | fails trouble ↦ refl
]

pub records-push : (maps : List Members) (m : Members) (rest : List Item) → records (maps ++ m ∷ []) ++ rest ≡ records maps ++ (fields (record_of m) ∷ rest)
records-push maps m rest =
    ap (λ x. x ++ rest) (map-append (λ k. fields (record_of k)) maps (m ∷ [])) ∙ append_assoc (records maps) (fields (record_of m) ∷ []) rest

module _ (file : FileRef) (ending : Ending) where
  items-step : (all before tokens : List (ℕ × Token)) (place : ℕ) (t : Token) (maps : List Members) (position : Position) → all ≡ before ++ (place, t) ∷ tokens → Stood (bare before) maps position
      → ((more : List Members) (next : Position) → Stood (bare (before ++ (place, t) ∷ [])) more next → HasItems file all ending (records more ++ items_of file (state_at next) tokens ending))
      → (r : Turn) → Says r (bare before) maps position t → HasItems file all ending (records maps ++ items_on file place tokens ending r)
  items-step all before tokens place t maps position parts h later (goes s) says =
      subst (λ x. HasItems file all ending (records maps ++ items_of file x tokens ending)) (sym says.1)
      (later maps says.0 (subst (λ x. Stood x maps says.0) (sym (bare-push before place t)) says.2))
  items-step all before tokens place t maps position parts h later (gives pairs s) says =
      subst (HasItems file all ending)
      (records-push maps says.2 (items_of file (state_at says.0) tokens ending)
      ∙ ap (λ x. records maps ++ (fields x ∷ items_of file (state_at says.0) tokens ending)) (sym says.3)
      ∙ ap (λ x. records maps ++ (fields pairs ∷ items_of file x tokens ending)) (sym says.1))
      (later (maps ++ says.2 ∷ []) says.0 (subst (λ x. Stood x (maps ++ says.2 ∷ []) says.0) (sym (bare-push before place t)) says.4))
  items-step all before tokens place t maps position parts h later (fails trouble) says =
      inl (record {
        before = before;
        place = place;
        token = t;
        following = tokens;
        maps = maps;
        opened = open_at position;
        why = trouble;
        parts = parts;
        prefix = stood-prefix (bare before) maps position h;
        why_is = says;
        items_are = refl;
      })

  items-from : (all before tokens : List (ℕ × Token)) (maps : List Members) (position : Position) → all ≡ before ++ tokens → Stood (bare before) maps position
      → HasItems file all ending (records maps ++ items_of file (state_at position) tokens ending)
  items-from all before [] maps position parts h =
      let e : all ≡ before = parts ∙ append-nil before in
      subst (λ x. HasItems file x ending (records maps ++ end_items file (state_at position) ending)) (sym e)
      (inr (record {
        maps = maps;
        opened = open_at position;
        last = end_items file (state_at position) ending;
        prefix = stood-prefix (bare before) maps position h;
        last_is = last-says file (bare before) maps position ending h;
        items_are = refl;
      }))
  items-from all before ((place, t) ∷ tokens) maps position parts h =
      subst (λ x. HasItems file all ending (records maps ++ x)) (sym (items-cons file place tokens ending (state_at position) t))
      (items-step all before tokens place t maps position parts h
      (λ more next stood. items-from all (before ++ (place, t) ∷ []) tokens more next (parts ∙ sym (append_assoc before ((place, t) ∷ []) tokens)) stood)
      (turn (state_at position) t) (turn-says (bare before) maps position t h))

pub has-items : (file : FileRef) (tokens : List (ℕ × Token)) (ending : Ending) → HasItems file tokens ending (items_of file (state_at outside) tokens ending)
has-items file tokens ending = items-from file ending tokens [] tokens [] outside refl stood-nothing

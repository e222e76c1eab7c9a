-- Each token between the maps of a stream, and each token at all.
use Rattle.std.proofs.Common.{◌≡◌, List, [], ◌∷◌, ◌++◌, ◌⊎◌, inl, inr, refl, ap, sym, subst, ◌∙◌, append_assoc, arith}
use Rattle.std.proofs.lemmas.List.{append-nil}
use Rattle.std.proofs.lemmas.List.Elements.{All-nil}
use Rattle.mlr_spec.specs.declared.json.JsonMark.TheVariants.{BeginMap, EndMap, BeginArray, EndArray, Colon, Comma}
use Rattle.mlr_spec.specs.JsonTokens.{Token, sign, text_token, word_token}
use Rattle.mlr_spec.specs.JsonGrammar.{object, Members, tokens_in, element_tokens, IsShallow, text_value}
use Rattle.mlr_json.specs.declared.frame.Frame.TheVariants.{Array, Map}
use Rattle.mlr_json.specs.declared.frame.Phase.TheVariants as phase
use Rattle.mlr_json.specs.Machine.{on, whole, wrong, step}
use Rattle.mlr_json.proofs.GrammarOutcome.{reads-nothing, reads-push}
use Rattle.read_json_lines.specs.declared.listing.Listing.TheVariants.{First, Next}
use Rattle.read_json_lines.specs.declared.listing.Trouble.TheVariants.{Kind}
use Rattle.read_json_lines.specs.Records.{turn}
use Rattle.read_json_lines.specs.Grammar.{Part, one, list, objects, stream_tokens, comma_after, open_tokens, open_maps, BeginsRecords, IsTrouble}
use Rattle.read_json_lines.proofs.Grammar.Over.{value-represents}
use Rattle.read_json_lines.proofs.Grammar.Parts.{join-right, each_map, each-comma, comma-push, parts-following, list-following, MayCome}
use Rattle.read_json_lines.proofs.Grammar.Maps.{IsMapAt}
use Rattle.read_json_lines.proofs.Grammar.Positions.{Position, outside, map_open, list_open, after_map, after_comma, listed_map, state_at, open_at, list_frame, frames_at, phase_at, Stood, stood-on, stood-part}
use Rattle.read_json_lines.proofs.Grammar.Turns.{Says, wrong-values, right-values, map-says, listed-says}

-- ---- tokens that can't begin a record

first-token : (parts : List Part) (t : Token) (rest : List Token) → t ∷ rest ≡ stream_tokens parts → (t ≡ sign BeginMap) ⊎ (t ≡ sign BeginArray)
first-token [] t rest e = absurd cc
first-token (one m ∷ parts) t rest e = inl cc
first-token (list maps ∷ parts) t rest e = inr cc

-- records that begin with these tokens, after those that are open
records-open : (before : List Token) (maps : List Members) (position : Position) (t : Token) → Stood before maps position → (b : BeginsRecords (before ++ t ∷ []))
    → (parts : List Part) × (open_tokens (open_at position) ++ t ∷ b.more ≡ stream_tokens parts)
records-open before maps position t h b =
    parts-following h.parts b.parts (open_tokens (open_at position) ++ t ∷ b.more)
    (sym (ap (λ x. (x ++ t ∷ []) ++ b.more) h.tokens_are ∙ join-right (stream_tokens h.parts) (open_tokens (open_at position)) (t ∷ []) b.more) ∙ b.whole)

no-records : (before : List Token) (maps : List Members) (t : Token) → Stood before maps outside → ((t ≡ sign BeginMap) ⊎ (t ≡ sign BeginArray) → ⊥) → BeginsRecords (before ++ t ∷ []) → ⊥
no-records before maps t h not b =
    let r = records-open before maps outside t h b in
    not (first-token r.0 t b.more r.1)

no-map : (before : List Token) (maps listed : List Members) (position : Position) (t : Token) → Stood before maps position → open_tokens (open_at position) ≡ sign BeginArray ∷ each_map listed
    → (MayCome t → ⊥) → BeginsRecords (before ++ t ∷ []) → ⊥
no-map before maps listed position t h is not b =
    let r = records-open before maps position t h b in
    by r.0 (sym (ap (λ x. x ++ t ∷ b.more) is) ∙ r.1)
  where
    by : (parts : List Part) → sign BeginArray ∷ (each_map listed ++ t ∷ b.more) ≡ stream_tokens parts → ⊥
    by [] e = cc
    by (one m ∷ parts) e = cc
    by (list all ∷ parts) e =
        let left : each_map listed ++ t ∷ b.more ≡ (element_tokens (objects all) ++ sign EndArray ∷ []) ++ stream_tokens parts = cc in
        not (list-following listed all t b.more (stream_tokens parts) (left ∙ append_assoc (element_tokens (objects all)) (sign EndArray ∷ []) (stream_tokens parts)))

-- the tokens of an open list after a comma: each map is followed by a comma
open-comma : (maps : List Members) (m : Members) → open_tokens (open_at (after_comma maps m)) ≡ sign BeginArray ∷ each_map (maps ++ m ∷ [])
open-comma maps m =
    append-nil (sign BeginArray ∷ element_tokens (objects (maps ++ m ∷ [])) ++ comma_after (maps ++ m ∷ [])) ∙ ap (λ x. sign BeginArray ∷ x) (each-comma (maps ++ m ∷ []))

no-start : (t : Token) → (t ≡ sign BeginMap → ⊥) → (t ≡ sign BeginArray → ⊥) → (t ≡ sign BeginMap) ⊎ (t ≡ sign BeginArray) → ⊥
no-start t a b (inl e) = a e
no-start t a b (inr e) = b e

no-item : (t : Token) → (t ≡ sign BeginMap → ⊥) → (t ≡ sign EndArray → ⊥) → MayCome t → ⊥
no-item t a b (inl e) = a e
no-item t a b (inr e) = b e

-- ---- the start of a map

pub map-first : IsMapAt ((0, sign BeginMap) ∷ []) (Map [] [] ∷ []) phase.FirstKey
unfolding step
map-first = record {
  reads = reads-push [] [] phase.Value 0 (sign BeginMap) (Map [] [] ∷ []) phase.FirstKey reads-nothing refl (omega arith);
  few = omega arith;
  rest = [];
  begins = refl;
}

-- ---- outside lists and maps

module _ (before : List Token) (maps : List Members) (h : Stood before maps outside) where
  outside-says : (t : Token) → Says (turn (state_at outside) t) before maps outside t
  unfolding step
  outside-says (sign BeginMap) = (
    map_open ((0, sign BeginMap) ∷ []) (Map [] []) [] phase.FirstKey,
    refl,
    stood-on before maps outside (sign BeginMap) h (map_open ((0, sign BeginMap) ∷ []) (Map [] []) [] phase.FirstKey) refl refl refl map-first,
    omega arith,
  )
  outside-says (sign BeginArray) = (list_open, refl, stood-on before maps outside (sign BeginArray) h list_open refl refl refl tt, omega arith)
  outside-says (sign EndMap) = wrong-values before maps outside (sign EndMap) h refl
  outside-says (sign EndArray) = wrong-values before maps outside (sign EndArray) h refl
  outside-says (sign Colon) = wrong-values before maps outside (sign Colon) h refl
  outside-says (sign Comma) = wrong-values before maps outside (sign Comma) h refl
  outside-says (text_token t) = (
    right-values before maps outside (text_token t) h (λ e. let x : whole (text_value t) ≡ wrong = e in cc),
    no-records before maps (text_token t) h (no-start (text_token t) (λ e. cc) (λ e. cc)),
  )
  outside-says (word_token value) = (
    right-values before maps outside (word_token value) h (λ e. let x : whole value ≡ wrong = e in cc),
    no-records before maps (word_token value) h (no-start (word_token value) (λ e. cc) (λ e. cc)),
  )

-- ---- in a list

-- a value that isn't a map
module _ (before : List Token) (maps listed : List Members) (position : Position) (t : Token) (h : Stood before maps position) where
  kind-says : open_tokens (open_at position) ≡ sign BeginArray ∷ each_map listed → (MayCome t → ⊥) → (step (frames_at position) (phase_at position) t ≡ wrong → ⊥)
      → IsTrouble Kind before (open_at position) t
  kind-says is not right = (right-values before maps position t h right, no-map before maps listed position t h is not)

  -- the end of the list
  list-says : (all : List Members) → open_tokens (open_at position) ++ t ∷ [] ≡ sign BeginArray ∷ element_tokens (objects all) ++ sign EndArray ∷ [] → open_maps (open_at position) ≡ all
      → Stood (before ++ t ∷ []) maps outside
  list-says all tokens same =
      subst (λ x. Stood (before ++ t ∷ []) x outside) (append-nil maps)
      (stood-part before maps position t h (list all) [] tokens (append-nil (open_maps (open_at position)) ∙ same) (All-nil (λ m. IsShallow (tokens_in (object m)))))

module _ (before : List Token) (maps : List Members) (h : Stood before maps list_open) where
  first-says : (t : Token) → Says (turn (state_at list_open) t) before maps list_open t
  unfolding step
  first-says (sign BeginMap) = (
    listed_map First [] ((0, sign BeginMap) ∷ []) (Map [] []) [] phase.FirstKey,
    refl,
    stood-on before maps list_open (sign BeginMap) h (listed_map First [] ((0, sign BeginMap) ∷ []) (Map [] []) [] phase.FirstKey) refl refl refl (map-first, refl),
    omega arith,
  )
  first-says (sign BeginArray) =
      kind-says before maps [] list_open (sign BeginArray) h refl (no-item (sign BeginArray) (λ e. cc) (λ e. cc))
      (λ e. let x : on (Array [] ∷ list_frame [] ∷ []) phase.FirstItem ≡ wrong = e in cc)
  first-says (sign EndMap) = wrong-values before maps list_open (sign EndMap) h refl
  first-says (sign EndArray) = (outside, refl, list-says before maps [] list_open (sign EndArray) h [] refl refl, omega arith)
  first-says (sign Colon) = wrong-values before maps list_open (sign Colon) h refl
  first-says (sign Comma) = wrong-values before maps list_open (sign Comma) h refl
  first-says (text_token t) =
      kind-says before maps [] list_open (text_token t) h refl (no-item (text_token t) (λ e. cc) (λ e. cc))
      (value-represents (text_value t) (list_frame []) [])
  first-says (word_token value) =
      kind-says before maps [] list_open (word_token value) h refl (no-item (word_token value) (λ e. cc) (λ e. cc))
      (value-represents value (list_frame []) [])

module _ (before : List Token) (maps listed : List Members) (m : Members) where
  following-says : Stood before maps (after_map listed m) → (t : Token) → Says (turn (state_at (after_map listed m)) t) before maps (after_map listed m) t
  unfolding step
  following-says h (sign BeginMap) = wrong-values before maps (after_map listed m) (sign BeginMap) h refl
  following-says h (sign BeginArray) = wrong-values before maps (after_map listed m) (sign BeginArray) h refl
  following-says h (sign EndMap) = wrong-values before maps (after_map listed m) (sign EndMap) h refl
  following-says h (sign EndArray) = (outside, refl, list-says before maps [] (after_map listed m) (sign EndArray) h (listed ++ m ∷ []) refl refl, omega arith)
  following-says h (sign Colon) = wrong-values before maps (after_map listed m) (sign Colon) h refl
  following-says h (sign Comma) = (
    after_comma listed m,
    refl,
    stood-on before maps (after_map listed m) (sign Comma) h (after_comma listed m)
        (sym (append-nil (sign BeginArray ∷ element_tokens (objects (listed ++ m ∷ [])) ++ comma_after (listed ++ m ∷ []))
        ∙ ap (λ x. sign BeginArray ∷ element_tokens (objects (listed ++ m ∷ [])) ++ x) (comma-push listed m)))
        refl refl tt,
    omega arith,
  )
  following-says h (text_token t) = wrong-values before maps (after_map listed m) (text_token t) h refl
  following-says h (word_token value) = wrong-values before maps (after_map listed m) (word_token value) h refl

  comma-says : Stood before maps (after_comma listed m) → (t : Token) → Says (turn (state_at (after_comma listed m)) t) before maps (after_comma listed m) t
  unfolding step
  comma-says h (sign BeginMap) = (
    listed_map Next (listed ++ m ∷ []) ((0, sign BeginMap) ∷ []) (Map [] []) [] phase.FirstKey,
    refl,
    stood-on before maps (after_comma listed m) (sign BeginMap) h (listed_map Next (listed ++ m ∷ []) ((0, sign BeginMap) ∷ []) (Map [] []) [] phase.FirstKey)
        (ap (λ x. x ++ sign BeginMap ∷ []) (append-nil (sign BeginArray ∷ element_tokens (objects (listed ++ m ∷ [])) ++ comma_after (listed ++ m ∷ []))))
        refl refl (map-first, refl),
    omega arith,
  )
  comma-says h (sign BeginArray) =
      kind-says before maps (listed ++ m ∷ []) (after_comma listed m) (sign BeginArray) h (open-comma listed m) (no-item (sign BeginArray) (λ e. cc) (λ e. cc))
      (λ e. let x : on (Array [] ∷ list_frame (listed ++ m ∷ []) ∷ []) phase.FirstItem ≡ wrong = e in cc)
  comma-says h (sign EndMap) = wrong-values before maps (after_comma listed m) (sign EndMap) h refl
  comma-says h (sign EndArray) = wrong-values before maps (after_comma listed m) (sign EndArray) h refl
  comma-says h (sign Colon) = wrong-values before maps (after_comma listed m) (sign Colon) h refl
  comma-says h (sign Comma) = wrong-values before maps (after_comma listed m) (sign Comma) h refl
  comma-says h (text_token t) =
      kind-says before maps (listed ++ m ∷ []) (after_comma listed m) (text_token t) h (open-comma listed m) (no-item (text_token t) (λ e. cc) (λ e. cc))
      (value-represents (text_value t) (list_frame (listed ++ m ∷ [])) [])
  comma-says h (word_token value) =
      kind-says before maps (listed ++ m ∷ []) (after_comma listed m) (word_token value) h (open-comma listed m) (no-item (word_token value) (λ e. cc) (λ e. cc))
      (value-represents value (list_frame (listed ++ m ∷ [])) [])

-- ---- at any place

pub turn-says : (before : List Token) (maps : List Members) (position : Position) (t : Token) → Stood before maps position → Says (turn (state_at position) t) before maps position t
turn-says before maps outside t h = outside-says before maps h t
turn-says before maps (map_open done f frames at) t h = map-says before maps done f frames at t h (step (f ∷ frames) at t) refl
turn-says before maps list_open t h = first-says before maps h t
turn-says before maps (after_map listed m) t h = following-says before maps listed m h t
turn-says before maps (after_comma listed m) t h = comma-says before maps listed m h t
turn-says before maps (listed_map listing listed done f frames at) t h = listed-says before maps listing listed done f frames at t h (step (f ∷ frames) at t) refl

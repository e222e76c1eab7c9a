-- The state of the machine of a stream after tokens, in the grammar's terms.
use Rattle.std.proofs.Common.{◌≡◌, ℕ, List, [], ◌∷◌, ◌++◌, map, refl, ap, sym, subst, ◌∙◌, append_assoc}
use Rattle.std.proofs.lemmas.List.{append-nil}
use Rattle.std.proofs.lemmas.List.Elements.{All-append, All-nil, All-push}
use Rattle.mlr_spec.specs.declared.json.JsonMark.TheVariants.{BeginMap, EndMap, BeginArray}
use Rattle.mlr_spec.specs.JsonTokens.{Token, sign}
use Rattle.mlr_spec.specs.JsonGrammar.{object, Members, tokens_in, member_tokens, value_of, element_tokens, IsShallow, bare}
use Rattle.mlr_json.specs.declared.frame.Frame.{Frame}
use Rattle.mlr_json.specs.declared.frame.Frame.TheVariants.{Array}
use Rattle.mlr_json.specs.declared.frame.Phase.{Phase}
use Rattle.mlr_json.specs.declared.frame.Phase.TheVariants as phase
use Rattle.mlr_json.specs.Machine.{on, step}
use Rattle.mlr_json.proofs.GrammarOutcome.{reads-nothing}
use Rattle.read_json_lines.specs.declared.listing.Listing.{Listing}
use Rattle.read_json_lines.specs.declared.listing.Listing.TheVariants.{Outside, First, After, Next}
use Rattle.read_json_lines.specs.Records.{State, after_record}
use Rattle.read_json_lines.specs.Grammar as grammar
use Rattle.read_json_lines.specs.Grammar.{Part, one, list, objects, part_tokens, stream_tokens, stream_maps, record_of, AreShallow, Open, nothing, in_map, in_list, map_in_list, comma_after, open_tokens, open_maps, begun_tokens, HasBegun, IsPrefix, BeginsRecords}
use Rattle.read_json_lines.proofs.Grammar.Flows.{join-middle, Reaches, reaches-push}
use Rattle.read_json_lines.proofs.Grammar.Parts.{parts-push, maps-push}
use Rattle.read_json_lines.proofs.Grammar.Maps.{IsMapAt, map-begun}

-- outside lists and maps; in a map; in a list before its first map, after a map, or after a comma; or in a
-- map of a list
pub data Position : Type 0 where
  outside : Position
  map_open : List (ℕ × Token) → Frame → List Frame → Phase → Position
  list_open : Position
  after_map : List Members → Members → Position
  after_comma : List Members → Members → Position
  listed_map : Listing → List Members → List (ℕ × Token) → Frame → List Frame → Phase → Position

abbrev pub between : Listing → State
between listing = record { list = listing; frames = []; phase = phase.Value }

abbrev pub state_at : Position → State
state_at outside = between Outside
state_at (map_open done f frames at) = record { list = Outside; frames = f ∷ frames; phase = at }
state_at list_open = between First
state_at (after_map maps m) = between After
state_at (after_comma maps m) = between Next
state_at (listed_map listing maps done f frames at) = record { list = listing; frames = f ∷ frames; phase = at }

abbrev pub open_at : Position → Open
open_at outside = nothing
open_at (map_open done f frames at) = in_map (bare done)
open_at list_open = in_list []
open_at (after_map maps m) = in_list (maps ++ m ∷ [])
open_at (after_comma maps m) = map_in_list (maps ++ m ∷ []) []
open_at (listed_map listing maps done f frames at) = map_in_list maps (bare done)

-- the frame of a list in the machine of values
abbrev pub list_frame : List Members → Frame
list_frame maps = Array (map (λ m. value_of (object m)) maps)

abbrev pub frames_at : Position → List Frame
frames_at outside = []
frames_at (map_open done f frames at) = f ∷ frames
frames_at list_open = list_frame [] ∷ []
frames_at (after_map maps m) = list_frame (maps ++ m ∷ []) ∷ []
frames_at (after_comma maps m) = list_frame (maps ++ m ∷ []) ∷ []
frames_at (listed_map listing maps done f frames at) = f ∷ frames ++ list_frame maps ∷ []

abbrev pub phase_at : Position → Phase
phase_at outside = phase.Value
phase_at (map_open done f frames at) = at
phase_at list_open = phase.FirstItem
phase_at (after_map maps m) = phase.Later
phase_at (after_comma maps m) = phase.Value
phase_at (listed_map listing maps done f frames at) = at

abbrev pub HasMap : Position → Type 0
HasMap outside = Unit {0}
HasMap (map_open done f frames at) = IsMapAt done (f ∷ frames) at
HasMap list_open = Unit {0}
HasMap (after_map maps m) = Unit {0}
HasMap (after_comma maps m) = Unit {0}
HasMap (listed_map listing maps done f frames at) = IsMapAt done (f ∷ frames) at × (after_record listing ≡ After)

pub record Stood (before : List Token) (maps : List Members) (position : Position) : Type 0 where
  pub parts : List Part
  pub tokens_are : before ≡ stream_tokens parts ++ open_tokens (open_at position)
  pub maps_are : maps ≡ stream_maps parts ++ open_maps (open_at position)
  pub reaches : Reaches (open_tokens (open_at position)) (frames_at position) (phase_at position)
  pub has_map : HasMap position
  pub shallow : AreShallow maps

pub stood-nothing : Stood [] [] outside
stood-nothing = record { parts = []; tokens_are = refl; maps_are = refl; reaches = record { represents = refl; runs = refl }; has_map = tt; shallow = All-nil (λ m. IsShallow (tokens_in (object m))) }

has-begun : (position : Position) → HasMap position → HasBegun (open_at position)
has-begun outside h = tt
has-begun (map_open done f frames at) h = map-begun done (f ∷ frames) at h
has-begun list_open h = tt
has-begun (after_map maps m) h = tt
has-begun (after_comma maps m) h = record { members = m; next = sign BeginMap; more = member_tokens m ++ sign EndMap ∷ []; whole = refl; shallow = reads-nothing.shallow }
has-begun (listed_map listing maps done f frames at) h = map-begun done (f ∷ frames) at h.0

pub stood-prefix : (before : List Token) (maps : List Members) (position : Position) → Stood before maps position → IsPrefix before maps (open_at position)
stood-prefix before maps position h = record {
  parts = h.parts;
  tokens_are = h.tokens_are;
  maps_are = h.maps_are;
  begun = has-begun position h.has_map;
  shallow = h.shallow;
}

-- ---- one more token

module _ (before : List Token) (maps : List Members) (position : Position) (t : Token) (h : Stood before maps position) where
  -- the same parts, with other tokens open after them
  pub stood-on : (next : Position) → open_tokens (open_at position) ++ t ∷ [] ≡ open_tokens (open_at next) → open_maps (open_at position) ≡ open_maps (open_at next)
      → step (frames_at position) (phase_at position) t ≡ on (frames_at next) (phase_at next) → HasMap next → Stood (before ++ t ∷ []) maps next
  stood-on next tokens same is has = record {
    parts = h.parts;
    tokens_are = ap (λ x. x ++ t ∷ []) h.tokens_are ∙ append_assoc (stream_tokens h.parts) (open_tokens (open_at position)) (t ∷ []) ∙ ap (λ x. stream_tokens h.parts ++ x) tokens;
    maps_are = h.maps_are ∙ ap (λ x. stream_maps h.parts ++ x) same;
    reaches = subst (λ x. Reaches x (frames_at next) (phase_at next)) tokens
        (reaches-push (open_tokens (open_at position)) (frames_at position) (phase_at position) t (frames_at next) (phase_at next) h.reaches is);
    has_map = has;
    shallow = h.shallow;
  }

  -- the open list has one more map
  pub stood-map : (listed : List Members) (m : Members) → open_maps (open_at position) ≡ listed → open_tokens (open_at position) ++ t ∷ [] ≡ sign BeginArray ∷ element_tokens (objects (listed ++ m ∷ []))
      → step (frames_at position) (phase_at position) t ≡ on (list_frame (listed ++ m ∷ []) ∷ []) phase.Later → IsShallow (tokens_in (object m))
      → Stood (before ++ t ∷ []) (maps ++ m ∷ []) (after_map listed m)
  stood-map listed m same tokens is low = record {
    parts = h.parts;
    tokens_are = ap (λ x. x ++ t ∷ []) h.tokens_are ∙ append_assoc (stream_tokens h.parts) (open_tokens (open_at position)) (t ∷ []) ∙ ap (λ x. stream_tokens h.parts ++ x) tokens;
    maps_are = ap (λ x. x ++ m ∷ []) h.maps_are ∙ append_assoc (stream_maps h.parts) (open_maps (open_at position)) (m ∷ []) ∙ ap (λ x. stream_maps h.parts ++ (x ++ m ∷ [])) same;
    reaches = subst (λ x. Reaches x (list_frame (listed ++ m ∷ []) ∷ []) phase.Later) tokens
        (reaches-push (open_tokens (open_at position)) (frames_at position) (phase_at position) t (list_frame (listed ++ m ∷ []) ∷ []) phase.Later h.reaches is);
    has_map = tt;
    shallow = All-push (λ x. IsShallow (tokens_in (object x))) maps m h.shallow low;
  }

  -- one more part is complete
  pub stood-part : (p : Part) (more : List Members) → open_tokens (open_at position) ++ t ∷ [] ≡ part_tokens p → open_maps (open_at position) ++ more ≡ grammar.part_maps p → AreShallow more
      → Stood (before ++ t ∷ []) (maps ++ more) outside
  stood-part p more tokens same low = record {
    parts = h.parts ++ p ∷ [];
    tokens_are =
        ap (λ x. x ++ t ∷ []) h.tokens_are ∙ append_assoc (stream_tokens h.parts) (open_tokens (open_at position)) (t ∷ [])
        ∙ ap (λ x. stream_tokens h.parts ++ x) (tokens ∙ sym (append-nil (part_tokens p))) ∙ sym (parts-push h.parts p []);
    maps_are =
        ap (λ x. x ++ more) h.maps_are ∙ append_assoc (stream_maps h.parts) (open_maps (open_at position)) more
        ∙ ap (λ x. stream_maps h.parts ++ x) same ∙ sym (maps-push h.parts p) ∙ sym (append-nil (stream_maps (h.parts ++ p ∷ [])));
    reaches = stood-nothing.reaches;
    has_map = tt;
    shallow = All-append (λ m. IsShallow (tokens_in (object m))) maps more h.shallow low;
  }

  -- the tokens can be completed to records, with these tokens after them
  pub records-go : (p : Part) (rest : List Token) → (open_tokens (open_at position) ++ t ∷ []) ++ rest ≡ part_tokens p → BeginsRecords (before ++ t ∷ [])
  records-go p rest tokens = record {
    parts = h.parts ++ p ∷ [];
    more = rest;
    whole =
        ap (λ x. (x ++ t ∷ []) ++ rest) h.tokens_are
        ∙ join-middle (stream_tokens h.parts) (open_tokens (open_at position)) (t ∷ []) rest
        ∙ ap (λ x. stream_tokens h.parts ++ x) (tokens ∙ sym (append-nil (part_tokens p))) ∙ sym (parts-push h.parts p []) ∙ append-nil (stream_tokens (h.parts ++ p ∷ []));
  }

-- The machine gives the items that the grammar says, so the grammar determines them.
use Rattle.std.proofs.Common.{◌≡◌, ℕ, ◌+◌, ◌≤◌, List, [], ◌∷◌, ◌++◌, inl, inr, length, refl, ap, sym, subst, ◌∙◌, append_assoc, arith}
use Rattle.std.proofs.lemmas.List.{append-nil}
use Rattle.std.proofs.lemmas.Grind.{flat_map-append}
use Rattle.std.specs.List.{count_by}
use Rattle.mlr_spec.specs.declared.json.JsonMark.TheVariants.{BeginArray, EndArray}
use Rattle.mlr_spec.specs.Tree.{empty}
use Rattle.mlr_spec.specs.JsonTokens.{Token, sign}
use Rattle.mlr_spec.specs.JsonGrammar.{object, Members, tokens_in, element_tokens, is_opening, is_closing, level_of, bare}
use Rattle.mlr_json.proofs.GrammarOutcome.{one_if, count-push}
use Rattle.mlr_event.specs.declared.names.FileRef.{FileRef}
use Rattle.mlr_event.specs.Reading.{Item}
use Rattle.mlr_event.specs.Reading as reading
use Rattle.read_json_lines.specs.declared.listing.Trouble.{Trouble}
use Rattle.read_json_lines.specs.declared.listing.Trouble.TheVariants.{Syntax, Deep, Kind}
use Rattle.read_json_lines.specs.Records.{State, Turn, goes, gives, fails, turn, fault_of, Ending, goes_on, begins, stops, ends, end_items, items_of, start_state}
use Rattle.read_json_lines.specs.Grammar.{Part, one, list, objects, part_tokens, stream_tokens, Open, nothing, in_map, in_list, map_in_list, comma_after, open_tokens, begun_tokens, HasBegun, IsPrefix, BeginsRecords, IsTrouble, records, HasFault, IsLast, HasNone, HasItems}
use Rattle.read_json_lines.proofs.Grammar.Flows.{records-values}
use Rattle.read_json_lines.proofs.Grammar.Parts.{list-push}
use Rattle.read_json_lines.proofs.Grammar.Positions.{Position, outside, map_open, list_open, after_map, after_comma, listed_map, state_at, open_at, HasMap, Stood, stood-nothing, stood-prefix}
use Rattle.read_json_lines.proofs.Grammar.Turns.{Says}
use Rattle.read_json_lines.proofs.Grammar.Between.{turn-says}
use Rattle.read_json_lines.proofs.Grammar.Items.{last-says, items_on, items-cons}
use Rattle.read_json_lines.proofs.Grammar.Along.{Goes, Gives, goes-items}
use Rattle.read_json_lines.proofs.Grammar.Streams.{goes-prefix}

-- ---- each prefix of a stream can be continued

-- what is open can be completed
abbrev IsPart : Open → Type 0
IsPart following = (parts : List Part) × (more : List Token) × (open_tokens following ++ more ≡ stream_tokens parts)

open-part : (following : Open) → HasBegun following → IsPart following
open-part nothing h = ([], [], refl)
open-part (in_map begun) h = (one h.members ∷ [], h.next ∷ h.more, h.whole ∙ sym (append-nil (tokens_in (object h.members))))
open-part (in_list maps) h = (list maps ∷ [], sign EndArray ∷ [], sym (append-nil (part_tokens (list maps))))
open-part (map_in_list maps begun) h = (
  list (maps ++ h.members ∷ []) ∷ [],
  (h.next ∷ h.more) ++ sign EndArray ∷ [],
  regroup (sign BeginArray ∷ element_tokens (objects maps) ++ comma_after maps) begun (h.next ∷ h.more) (sign EndArray ∷ [])
      ∙ ap (λ x. sign BeginArray ∷ (element_tokens (objects maps) ++ comma_after maps ++ x) ++ sign EndArray ∷ []) h.whole
      ∙ ap (λ x. sign BeginArray ∷ x ++ sign EndArray ∷ []) (sym (list-push maps h.members)) ∙ sym (append-nil (part_tokens (list (maps ++ h.members ∷ [])))),
)
  where
    regroup : (a b c d : List Token) → (a ++ b) ++ (c ++ d) ≡ (a ++ (b ++ c)) ++ d
    regroup a b c d = simp append_assoc

prefix-begins : (tokens : List Token) (maps : List Members) (following : Open) → IsPrefix tokens maps following → BeginsRecords tokens
prefix-begins tokens maps following h =
    let p = open-part following h.begun in
    record {
      parts = h.parts ++ p.0;
      more = p.1;
      whole =
          ap (λ x. x ++ p.1) h.tokens_are ∙ append_assoc (stream_tokens h.parts) (open_tokens following) p.1 ∙ ap (λ x. stream_tokens h.parts ++ x) p.2
          ∙ sym (flat_map-append part_tokens h.parts p.0);
    }

-- ---- a token has at most one fault

trouble-only : (why other : Trouble) (before : List Token) (following others : Open) (t : Token) → IsTrouble why before following t → IsTrouble other before others t → why ≡ other
trouble-only Syntax Syntax before following others t x y = refl
trouble-only Syntax Kind before following others t x y = absurd (x y.0)
trouble-only Syntax Deep before following others t x y = absurd (x (records-values (before ++ t ∷ []) y.0))
trouble-only Kind Syntax before following others t x y = absurd (y x.0)
trouble-only Kind Kind before following others t x y = refl
trouble-only Kind Deep before following others t x y = absurd (x.1 y.0)
trouble-only Deep Syntax before following others t x y = absurd (y (records-values (before ++ t ∷ []) x.0))
trouble-only Deep Kind before following others t x y = absurd (y.1 x.0)
trouble-only Deep Deep before following others t x y = refl

-- there is no fault if records continue and the level is allowed
no-trouble : (why : Trouble) (before : List Token) (following : Open) (t : Token) → BeginsRecords (before ++ t ∷ []) → level_of (begun_tokens following ++ t ∷ []) ≤ 100 → IsTrouble why before following t → ⊥
no-trouble Syntax before following t records low x = x (records-values (before ++ t ∷ []) records)
no-trouble Kind before following t records low x = x.1 records
no-trouble Deep before following t records low x = let e : level_of (begun_tokens following ++ t ∷ []) ≡ 101 = x.1 in omega arith

-- ---- the machine after a prefix

stood-level : (position : Position) → HasMap position
    → count_by is_opening (begun_tokens (open_at position)) ≡ count_by is_closing (begun_tokens (open_at position)) + length (state_at position).frames
stood-level outside h = refl
stood-level (map_open done f frames at) h = h.reads.level
stood-level list_open h = refl
stood-level (after_map maps m) h = refl
stood-level (after_comma maps m) h = refl
stood-level (listed_map listing maps done f frames at) h = h.0.reads.level

-- the number of open brackets determines the level
same-level : (a b : List Token) (t : Token) (n : ℕ) → count_by is_opening a ≡ count_by is_closing a + n → count_by is_opening b ≡ count_by is_closing b + n
    → level_of (a ++ t ∷ []) ≤ 100 → level_of (b ++ t ∷ []) ≤ 100
same-level a b t n x y low =
    let ao : count_by is_opening (a ++ t ∷ []) ≡ count_by is_opening a + one_if (is_opening t) = count-push is_opening a t in
    let ac : count_by is_closing (a ++ t ∷ []) ≡ count_by is_closing a + one_if (is_closing t) = count-push is_closing a t in
    let bo : count_by is_opening (b ++ t ∷ []) ≡ count_by is_opening b + one_if (is_opening t) = count-push is_opening b t in
    let bc : count_by is_closing (b ++ t ∷ []) ≡ count_by is_closing b + one_if (is_closing t) = count-push is_closing b t in
    omega arith

abbrev StoodAt : List Token → State → Type 0
StoodAt tokens s = (maps : List Members) × (position : Position) × (s ≡ state_at position) × Stood tokens maps position

goes-stood : (tokens before : List Token) (all maps : List Members) (position : Position) (next : State) → Stood before all position → Goes (state_at position) tokens maps next
    → StoodAt (before ++ tokens) next
goes-stood [] before all maps position next h g = (all, position, g.1, subst (λ x. Stood x all position) (sym (append-nil before)) h)
goes-stood (t ∷ tokens) before all maps position next h g =
    subst (λ x. StoodAt x next) (append_assoc before (t ∷ []) tokens)
    (by (turn (state_at position) t) (turn-says before all position t h) g.0 g.1 g.3 g.2 g.4
    (λ k s more stood goes. goes-stood tokens (before ++ t ∷ []) k more s next stood goes))
  where
    by : (r : Turn) → Says r before all position t → (first : List Members) (mid : State) → Gives r first mid → (more : List Members) → Goes mid tokens more next
        → ((k : List Members) (s : Position) (ms : List Members) → Stood (before ++ t ∷ []) k s → Goes (state_at s) tokens ms next → StoodAt ((before ++ t ∷ []) ++ tokens) next)
        → StoodAt ((before ++ t ∷ []) ++ tokens) next
    by (goes s) says first mid given more go later = later all says.0 more says.2 (subst (λ x. Goes x tokens more next) (sym given.1 ∙ says.1) go)
    by (gives pairs s) says first mid given more go later =
        later (all ++ says.2 ∷ []) says.0 more says.4 (subst (λ x. Goes x tokens more next) (sym given.3 ∙ says.1) go)
    by (fails trouble) says first mid given more go later = absurd given

-- ---- the items are determined

last-only : (file : FileRef) (tokens : List Token) (ending : Ending) (a b : List Item) → IsLast file tokens ending a → IsLast file tokens ending b → a ≡ b
last-only file tokens goes_on a b x y = x ∙ sym y
last-only file tokens (stops place) a b x y = x ∙ sym y
last-only file tokens (ends place) a b (inl x) (inl y) = x.2 ∙ sym y.2
last-only file tokens (ends place) a b (inl x) (inr y) = absurd (y.0 x.0 x.1)
last-only file tokens (ends place) a b (inr x) (inl y) = absurd (x.0 y.0 y.1)
last-only file tokens (ends place) a b (inr x) (inr y) = x.1 ∙ sym y.1
last-only file tokens (begins place) a b (inl x) (inl y) = x.1 ∙ sym y.1
last-only file tokens (begins place) a b (inl x) (inr y) = absurd (y.0 empty (x.0 empty))
last-only file tokens (begins place) a b (inr x) (inl y) = absurd (x.0 empty (y.0 empty))
last-only file tokens (begins place) a b (inr x) (inr y) = x.1 ∙ sym y.1

module _ (file : FileRef) (tokens : List (ℕ × Token)) (ending : Ending) (items : List Item) where
  none-only : HasNone file tokens ending items → items ≡ items_of file start_state tokens ending
  none-only h =
      let g = goes-prefix (bare tokens) h.maps h.opened h.prefix in
      let s = goes-stood (bare tokens) [] [] h.maps outside g.0 stood-nothing g.1 in
      let last : IsLast file (bare tokens) ending (end_items file g.0 ending) =
      subst (λ x. IsLast file (bare tokens) ending (end_items file x ending)) (sym s.2) (last-says file (bare tokens) s.0 s.1 ending s.3) in
      h.items_are
      ∙ ap (λ x. records h.maps ++ x) (last-only file (bare tokens) ending h.last (end_items file g.0 ending) h.last_is last)
      ∙ sym (ap (λ x. items_of file start_state x ending) (sym (append-nil tokens)) ∙ goes-items file ending tokens [] start_state g.0 h.maps g.1)

  fault-only : HasFault file tokens items → items ≡ items_of file start_state tokens ending
  fault-only h =
      let g = goes-prefix (bare h.before) h.maps h.opened h.prefix in
      let s = goes-stood (bare h.before) [] [] h.maps outside g.0 stood-nothing g.1 in
      let level : count_by is_opening (begun_tokens (open_at s.1)) ≡ count_by is_closing (begun_tokens (open_at s.1)) + length g.0.frames =
      subst (λ x. count_by is_opening (begun_tokens (open_at s.1)) ≡ count_by is_closing (begun_tokens (open_at s.1)) + length x.frames) (sym s.2) (stood-level s.1 s.3.has_map) in
      let says : Says (turn g.0 h.token) (bare h.before) s.0 s.1 h.token =
      subst (λ x. Says (turn x h.token) (bare h.before) s.0 s.1 h.token) (sym s.2) (turn-says (bare h.before) s.0 s.1 h.token s.3) in
      h.items_are
      ∙ ap (λ x. records h.maps ++ x) (by (turn g.0 h.token) s.0 s.1 says
      (λ low. same-level (begun_tokens (open_at s.1)) (begun_tokens h.opened) h.token (length g.0.frames) level g.2 low))
      ∙ sym (ap (λ x. items_of file start_state x ending) h.parts ∙ goes-items file ending h.before ((h.place, h.token) ∷ h.following) start_state g.0 h.maps g.1
      ∙ ap (λ x. records h.maps ++ x) (items-cons file h.place h.following ending g.0 h.token))
    where
      goes-on : (maps : List Members) (position : Position) → Stood (bare h.before ++ h.token ∷ []) maps position → level_of (begun_tokens h.opened ++ h.token ∷ []) ≤ 100 → ⊥
      goes-on maps position stood low =
          no-trouble h.why (bare h.before) h.opened h.token (prefix-begins (bare h.before ++ h.token ∷ []) maps (open_at position) (stood-prefix (bare h.before ++ h.token ∷ []) maps position stood)) low h.why_is

      by : (r : Turn) (maps : List Members) (position : Position) → Says r (bare h.before) maps position h.token
          → (level_of (begun_tokens (open_at position) ++ h.token ∷ []) ≤ 100 → level_of (begun_tokens h.opened ++ h.token ∷ []) ≤ 100)
          → reading.fault (fault_of file h.why h.place) ∷ [] ≡ items_on file h.place h.following ending r
      by (goes s) maps position says same = absurd (goes-on maps says.0 says.2 (same says.3))
      by (gives pairs s) maps position says same = absurd (goes-on (maps ++ says.2 ∷ []) says.0 says.4 (same says.5))
      by (fails trouble) maps position says same =
          ap (λ w. reading.fault (fault_of file w h.place) ∷ []) (trouble-only h.why trouble (bare h.before) h.opened (open_at position) h.token h.why_is says)

  pub items-only : HasItems file tokens ending items → items ≡ items_of file start_state tokens ending
  items-only (inl h) = fault-only h
  items-only (inr h) = none-only h

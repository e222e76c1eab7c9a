-- The machine of a stream accepts maps, lists of maps, complete streams, and the prefixes of streams.
use Rattle.std.proofs.Common.{◌≡◌, ◌+◌, false, List, [], ◌∷◌, ◌++◌, length, refl, ap, sym, subst, ◌∙◌}
use Rattle.std.proofs.lemmas.List.{append-nil}
use Rattle.std.proofs.lemmas.List.Elements.{All-head, All-tail, All-cons, All-nil}
use Rattle.std.specs.List.{All, count_by}
use Rattle.mlr_spec.specs.declared.json.JsonMark.TheVariants.{BeginMap, EndMap, BeginArray, EndArray, Comma}
use Rattle.mlr_spec.specs.JsonTokens.{Token, sign}
use Rattle.mlr_spec.specs.JsonGrammar.{object, Members, tokens_in, member_tokens, value_of, element_tokens, later_elements, is_opening, is_closing, IsShallow}
use Rattle.mlr_json.specs.declared.frame.Frame.{Frame}
use Rattle.mlr_json.specs.declared.frame.Frame.TheVariants.{Map}
use Rattle.mlr_json.specs.declared.frame.Phase.TheVariants as phase
use Rattle.mlr_json.specs.Machine.{Step, on, whole, wrong, step}
use Rattle.mlr_json.proofs.GrammarRuns.{run, run_on, run-cons, run-whole}
use Rattle.mlr_json.proofs.GrammarOutcome.{run-append}
use Rattle.read_json_lines.specs.declared.listing.Listing.{Listing}
use Rattle.read_json_lines.specs.declared.listing.Listing.TheVariants.{Outside, First, After, Next}
use Rattle.read_json_lines.specs.Records.{State, goes, turn, is_after, after_record}
use Rattle.read_json_lines.specs.Grammar.{Part, one, list, objects, part_tokens, part_maps, stream_tokens, stream_maps, AreShallow, Open, nothing, in_map, in_list, map_in_list, comma_after, open_tokens, open_maps, begun_tokens, IsBegun, HasBegun, IsPrefix}
use Rattle.read_json_lines.proofs.Grammar.Positions.{between}
use Rattle.read_json_lines.proofs.Grammar.Between.{map-first}
use Rattle.read_json_lines.proofs.Grammar.Along.{Goes, goes-one, goes-append, inner, Along, along}

all-prefix : {X : Type 0} (P : X → Type 0) (xs ys : List X) → All P (xs ++ ys) → All P xs
all-prefix P [] ys h = All-nil P
all-prefix P (x ∷ xs) ys h = All-cons P x xs (All-head P x (xs ++ ys) h) (all-prefix P xs ys (All-tail P x (xs ++ ys) h))

all-following : {X : Type 0} (P : X → Type 0) (xs ys : List X) → All P (xs ++ ys) → All P ys
all-following P [] ys h = h
all-following P (x ∷ xs) ys h = all-following P xs ys (All-tail P x (xs ++ ys) h)

abbrev Low : Members → Type 0
Low m = IsShallow (tokens_in (object m))

-- the stack after the first token of a map
abbrev first_frames : List Frame
first_frames = Map [] [] ∷ []

run-first : (tokens : List Token) → run [] phase.Value (sign BeginMap ∷ tokens) ≡ run first_frames phase.FirstKey tokens
unfolding step
run-first tokens = run-cons [] phase.Value (sign BeginMap) tokens

-- ---- a map

module _ (listing : Listing) (may : is_after listing ≡ false) where
  turn-first : turn (between listing) (sign BeginMap) ≡ goes (inner listing first_frames phase.FirstKey)
  unfolding step
  turn-first = rw may refl

  goes-first : Goes (between listing) (sign BeginMap ∷ []) [] (inner listing first_frames phase.FirstKey)
  goes-first = goes-one (between listing) (inner listing first_frames phase.FirstKey) (sign BeginMap) turn-first

  goes-map : (m : Members) → Low m → Goes (between listing) (tokens_in (object m)) (m ∷ []) (between (after_record listing))
  goes-map m low =
      goes-append (sign BeginMap ∷ []) (member_tokens m ++ sign EndMap ∷ []) (between listing) (inner listing first_frames phase.FirstKey) (between (after_record listing)) [] (m ∷ []) goes-first
      (subst (Along listing ((0, sign BeginMap) ∷ []) first_frames phase.FirstKey (member_tokens m ++ sign EndMap ∷ []))
      (sym (run-first (member_tokens m ++ sign EndMap ∷ [])) ∙ run-whole (object m))
      (along listing (member_tokens m ++ sign EndMap ∷ []) ((0, sign BeginMap) ∷ []) (Map [] []) [] phase.FirstKey map-first low) m refl)

  -- an incomplete map, and the number of its open brackets
  abbrev GoesBegun : List Token → Type 0
  GoesBegun tokens =
      (s : State) × Goes (between listing) tokens [] s × (count_by is_opening tokens ≡ count_by is_closing tokens + length s.frames)

  goes-begun : (tokens : List Token) → IsBegun tokens → GoesBegun tokens
  goes-begun [] h = (between listing, (refl, refl), refl)
  goes-begun (t ∷ tokens) h =
      let first : t ≡ sign BeginMap = cc in
      subst (λ x. GoesBegun (x ∷ tokens)) (sym first)
      (by (run first_frames phase.FirstKey tokens) refl
      (along listing tokens ((0, sign BeginMap) ∷ []) (Map [] []) [] phase.FirstKey map-first (subst (λ x. IsShallow (x ∷ tokens)) first h.shallow)))
    where
      all : (s : Step) → run first_frames phase.FirstKey tokens ≡ s → run_on s (h.next ∷ h.more) ≡ whole (value_of (object h.members))
      all s is =
          ap (λ x. run_on x (h.next ∷ h.more)) (sym is) ∙ sym (run-append first_frames phase.FirstKey tokens (h.next ∷ h.more))
          ∙ sym (run-first (tokens ++ h.next ∷ h.more)) ∙ ap (run [] phase.Value) (let e : sign BeginMap ∷ (tokens ++ h.next ∷ h.more) ≡ tokens_in (object h.members) = cc in e)
          ∙ run-whole (object h.members)

      by : (s : Step) → run first_frames phase.FirstKey tokens ≡ s → Along listing ((0, sign BeginMap) ∷ []) first_frames phase.FirstKey tokens s → GoesBegun (sign BeginMap ∷ tokens)
      by (on more next) is a = (
        inner listing more next,
        goes-append (sign BeginMap ∷ []) tokens (between listing) (inner listing first_frames phase.FirstKey) (inner listing more next) [] [] goes-first a.3,
        subst (λ x. count_by is_opening x ≡ count_by is_closing x + length more) a.1 a.2.reads.level,
      )
      by (whole value) is a = absurd (let e : wrong ≡ whole (value_of (object h.members)) = all (whole value) is in cc)
      by wrong is a = absurd (let e : wrong ≡ whole (value_of (object h.members)) = all wrong is in cc)

-- ---- a list

abbrev list_at : List Members → Listing
list_at [] = First
list_at (m ∷ maps) = After

goes-later : (maps : List Members) → AreShallow maps → Goes (between After) (later_elements (objects maps)) maps (between After)
goes-later [] low = (refl, refl)
goes-later (m ∷ maps) low =
    goes-append (sign Comma ∷ []) (tokens_in (object m) ++ later_elements (objects maps)) (between After) (between Next) (between After) [] (m ∷ maps)
    (goes-one (between After) (between Next) (sign Comma) refl)
    (goes-append (tokens_in (object m)) (later_elements (objects maps)) (between Next) (between After) (between After) (m ∷ []) maps
    (goes-map Next refl m (All-head Low m maps low)) (goes-later maps (All-tail Low m maps low)))

goes-elements : (maps : List Members) → AreShallow maps → Goes (between First) (element_tokens (objects maps)) maps (between (list_at maps))
goes-elements [] low = (refl, refl)
goes-elements (m ∷ maps) low =
    goes-append (tokens_in (object m)) (later_elements (objects maps)) (between First) (between After) (between After) (m ∷ []) maps
    (goes-map First refl m (All-head Low m maps low)) (goes-later maps (All-tail Low m maps low))

goes-list : (maps : List Members) → AreShallow maps → Goes (between Outside) (sign BeginArray ∷ element_tokens (objects maps)) maps (between (list_at maps))
goes-list maps low =
    goes-append (sign BeginArray ∷ []) (element_tokens (objects maps)) (between Outside) (between First) (between (list_at maps)) [] maps
    (goes-one (between Outside) (between First) (sign BeginArray) refl) (goes-elements maps low)

-- ---- a stream

goes-part : (p : Part) → AreShallow (part_maps p) → Goes (between Outside) (part_tokens p) (part_maps p) (between Outside)
goes-part (one m) low = goes-map Outside refl m (All-head Low m [] low)
goes-part (list maps) low =
    subst (λ k. Goes (between Outside) (part_tokens (list maps)) k (between Outside)) (append-nil maps)
    (goes-append (sign BeginArray ∷ element_tokens (objects maps)) (sign EndArray ∷ []) (between Outside) (between (list_at maps)) (between Outside) maps [] (goes-list maps low)
    (goes-one (between (list_at maps)) (between Outside) (sign EndArray) (ends maps)))
  where
    ends : (all : List Members) → turn (between (list_at all)) (sign EndArray) ≡ goes (between Outside)
    ends [] = refl
    ends (m ∷ all) = refl

goes-stream : (parts : List Part) → AreShallow (stream_maps parts) → Goes (between Outside) (stream_tokens parts) (stream_maps parts) (between Outside)
goes-stream [] low = (refl, refl)
goes-stream (p ∷ parts) low =
    goes-append (part_tokens p) (stream_tokens parts) (between Outside) (between Outside) (between Outside) (part_maps p) (stream_maps parts)
    (goes-part p (all-prefix Low (part_maps p) (stream_maps parts) low)) (goes-stream parts (all-following Low (part_maps p) (stream_maps parts) low))

-- ---- what is open after it

-- the machine accepts these tokens, and then has the open brackets of the incomplete map
abbrev pub GoesOpen : List Token → List Members → Open → Type 0
GoesOpen tokens maps following =
    (s : State) × Goes (between Outside) tokens maps s × (count_by is_opening (begun_tokens following) ≡ count_by is_closing (begun_tokens following) + length s.frames)

abbrev comma_at : List Members → Listing
comma_at [] = First
comma_at (m ∷ maps) = Next

goes-comma : (maps : List Members) → Goes (between (list_at maps)) (comma_after maps) [] (between (comma_at maps))
goes-comma [] = (refl, refl)
goes-comma (m ∷ maps) = goes-one (between After) (between Next) (sign Comma) refl

may-come : (maps : List Members) → is_after (comma_at maps) ≡ false
may-come [] = refl
may-come (m ∷ maps) = refl

goes-open : (following : Open) → HasBegun following → AreShallow (open_maps following) → GoesOpen (open_tokens following) (open_maps following) following
goes-open nothing h low = (between Outside, (refl, refl), refl)
goes-open (in_map begun) h low = goes-begun Outside refl begun h
goes-open (in_list maps) h low = (between (list_at maps), goes-list maps low, refl)
goes-open (map_in_list maps begun) h low =
    let b = goes-begun (comma_at maps) (may-come maps) begun h in
    let comma : Goes (between Outside) (sign BeginArray ∷ element_tokens (objects maps) ++ comma_after maps) (maps ++ []) (between (comma_at maps)) =
    goes-append (sign BeginArray ∷ element_tokens (objects maps)) (comma_after maps) (between Outside) (between (list_at maps)) (between (comma_at maps)) maps [] (goes-list maps low) (goes-comma maps) in (
      b.0,
      subst (λ k. Goes (between Outside) (open_tokens (map_in_list maps begun)) k b.0) (append-nil (maps ++ []) ∙ append-nil maps)
          (goes-append (sign BeginArray ∷ element_tokens (objects maps) ++ comma_after maps) begun (between Outside) (between (comma_at maps)) b.0 (maps ++ []) [] comma b.1),
      b.2,
    )

pub goes-prefix : (tokens : List Token) (maps : List Members) (following : Open) → IsPrefix tokens maps following → GoesOpen tokens maps following
goes-prefix tokens maps following h =
    let low : AreShallow (stream_maps h.parts ++ open_maps following) = subst AreShallow h.maps_are h.shallow in
    let b = goes-open following h.begun (all-following Low (stream_maps h.parts) (open_maps following) low) in (
      b.0,
      subst (λ x. Goes (between Outside) x maps b.0) (sym h.tokens_are)
          (subst (λ k. Goes (between Outside) (stream_tokens h.parts ++ open_tokens following) k b.0) (sym h.maps_are)
          (goes-append (stream_tokens h.parts) (open_tokens following) (between Outside) (between Outside) b.0 (stream_maps h.parts) (open_maps following)
          (goes-stream h.parts (all-prefix Low (stream_maps h.parts) (open_maps following) low)) b.1)),
      b.2,
    )

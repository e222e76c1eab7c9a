-- Streams of records by the JSON grammar alone: the records of a list of tokens, and the first fault.
use Rattle.std.specs.Prelude.{◌≡◌, ◌⊎◌, ℕ, List, [], ◌∷◌, ◌++◌, map, All}
use Rattle.std.specs.List.{flat_map}
use Rattle.mlr_spec.specs.declared.json.JsonMark.TheVariants.{BeginArray, Comma}
use Rattle.mlr_spec.specs.Tree.{Tree}
use Rattle.mlr_spec.specs.Pairs.{put_each}
use Rattle.mlr_spec.specs.JsonTokens.{Token, sign, word_token}
use Rattle.mlr_spec.specs.JsonGrammar.{Syntax, object, elements, Members, Elements, no_elements, element_and, tokens_in, element_tokens, pairs_of, IsShallow, level_of, bare}
use Rattle.mlr_event.specs.declared.names.FileRef.{FileRef}
use Rattle.mlr_event.specs.Reading.{Item, fields}
use Rattle.mlr_event.specs.Reading as reading
use Rattle.read_json_lines.specs.declared.listing.Trouble.{Trouble}
use Rattle.read_json_lines.specs.declared.listing.Trouble.TheVariants as trouble
use Rattle.read_json_lines.specs.Records.{Ending, goes_on, begins, stops, ends, fault_of}

-- a part of a stream: a map, or a list of maps
pub data Part : Type 0 where
  one : Members → Part
  list : List Members → Part

-- a list of maps, as the elements of an array
abbrev pub objects : List Members → Elements
objects [] = no_elements
objects (m ∷ maps) = element_and (object m) (objects maps)

abbrev pub part_tokens : Part → List Token
part_tokens (one m) = tokens_in (object m)
part_tokens (list maps) = tokens_in (elements (objects maps))

abbrev pub part_maps : Part → List Members
part_maps (one m) = m ∷ []
part_maps (list maps) = maps

abbrev pub stream_tokens : List Part → List Token
stream_tokens parts = flat_map part_tokens parts

abbrev pub stream_maps : List Part → List Members
stream_maps parts = flat_map part_maps parts

-- the fields of a map: a repeated key keeps its place and takes the last value
abbrev pub record_of : Members → List (List ℕ × Tree)
record_of m = put_each [] (pairs_of m)

-- the items of maps: each gives a record
abbrev pub records : List Members → List Item
records maps = map (λ m. fields (record_of m)) maps

-- each map is at most 100 levels deep; a list around it isn't counted
abbrev pub AreShallow : List Members → Type 0
AreShallow maps = All (λ m. IsShallow (tokens_in (object m))) maps

-- what is open after complete parts: nothing; an incomplete map; a list after some maps; or an incomplete map
-- in a list, which follows a comma unless it is the first. An incomplete map in a list may have no token yet.
pub data Open : Type 0 where
  nothing : Open
  in_map : List Token → Open
  in_list : List Members → Open
  map_in_list : List Members → List Token → Open

abbrev pub comma_after : List Members → List Token
comma_after [] = []
comma_after (m ∷ maps) = sign Comma ∷ []

abbrev pub open_tokens : Open → List Token
open_tokens nothing = []
open_tokens (in_map begun) = begun
open_tokens (in_list maps) = sign BeginArray ∷ element_tokens (objects maps)
open_tokens (map_in_list maps begun) = sign BeginArray ∷ element_tokens (objects maps) ++ comma_after maps ++ begun

-- the complete maps of what is open
abbrev pub open_maps : Open → List Members
open_maps nothing = []
open_maps (in_map begun) = []
open_maps (in_list maps) = maps
open_maps (map_in_list maps begun) = maps

-- the tokens of the incomplete map
abbrev pub begun_tokens : Open → List Token
begun_tokens nothing = []
begun_tokens (in_map begun) = begun
begun_tokens (in_list maps) = []
begun_tokens (map_in_list maps begun) = begun

-- the tokens begin a map but aren't all of it, and are at most 100 levels deep
pub record IsBegun (tokens : List Token) : Type 0 where
  pub members : Members
  pub next : Token
  pub more : List Token
  pub whole : tokens ++ next ∷ more ≡ tokens_in (object members)
  pub shallow : IsShallow tokens

abbrev pub HasBegun : Open → Type 0
HasBegun nothing = Unit {0}
HasBegun (in_map begun) = IsBegun begun
HasBegun (in_list maps) = Unit {0}
HasBegun (map_in_list maps begun) = IsBegun begun

-- the tokens begin a stream of records, `maps` are the complete maps in them, and `opened` is what is open
-- after them
pub record IsPrefix (tokens : List Token) (maps : List Members) (opened : Open) : Type 0 where
  pub parts : List Part
  pub tokens_are : tokens ≡ stream_tokens parts ++ open_tokens opened
  pub maps_are : maps ≡ stream_maps parts ++ open_maps opened
  pub begun : HasBegun opened
  pub shallow : AreShallow maps

-- the tokens begin a stream of any JSON values
pub record BeginsValues (tokens : List Token) : Type 0 where
  pub values : List Syntax
  pub more : List Token
  pub whole : tokens ++ more ≡ flat_map tokens_in values

-- the tokens begin a stream of records
pub record BeginsRecords (tokens : List Token) : Type 0 where
  pub parts : List Part
  pub more : List Token
  pub whole : tokens ++ more ≡ stream_tokens parts

-- why `token` is a fault after the tokens `before`: with it they begin no JSON values; or they begin JSON
-- values but no records; or it opens level 101 of a map
abbrev pub IsTrouble : Trouble → List Token → Open → Token → Type 0
IsTrouble trouble.Syntax before opened token = BeginsValues (before ++ token ∷ []) → ⊥
IsTrouble trouble.Kind before opened token = BeginsValues (before ++ token ∷ []) × (BeginsRecords (before ++ token ∷ []) → ⊥)
IsTrouble trouble.Deep before opened token = BeginsRecords (before ++ token ∷ []) × (level_of (begun_tokens opened ++ token ∷ []) ≡ 101)

-- the items end with a fault at a token, which follows the records before it
pub record HasFault (file : FileRef) (tokens : List (ℕ × Token)) (items : List Item) : Type 0 where
  pub before : List (ℕ × Token)
  pub place : ℕ
  pub token : Token
  pub following : List (ℕ × Token)
  pub maps : List Members
  pub opened : Open
  pub why : Trouble
  pub parts : tokens ≡ before ++ (place, token) ∷ following
  pub prefix : IsPrefix (bare before) maps opened
  pub why_is : IsTrouble why (bare before) opened token
  pub items_are : items ≡ records maps ++ reading.fault (fault_of file why place) ∷ []

-- the items of the end of the tokens: the end of the file is a fault unless the tokens are a complete stream,
-- and a word that has begun is a fault unless a word is allowed there
abbrev pub IsLast : FileRef → List Token → Ending → List Item → Type 0
IsLast file tokens goes_on last = last ≡ []
IsLast file tokens (stops place) last = last ≡ reading.fault (fault_of file trouble.Syntax place) ∷ []
IsLast file tokens (ends place) last =
    ((parts : List Part) × (tokens ≡ stream_tokens parts) × (last ≡ []))
    ⊎ (((parts : List Part) → tokens ≡ stream_tokens parts → ⊥) × (last ≡ reading.fault (fault_of file trouble.Syntax place) ∷ []))
IsLast file tokens (begins place) last =
    (((value : Tree) → BeginsValues (tokens ++ word_token value ∷ [])) × (last ≡ []))
    ⊎ (((value : Tree) → BeginsValues (tokens ++ word_token value ∷ []) → ⊥) × (last ≡ reading.fault (fault_of file trouble.Syntax place) ∷ []))

-- no token is a fault: the items are the records, then those of the end
pub record HasNone (file : FileRef) (tokens : List (ℕ × Token)) (ending : Ending) (items : List Item) : Type 0 where
  pub maps : List Members
  pub opened : Open
  pub last : List Item
  pub prefix : IsPrefix (bare tokens) maps opened
  pub last_is : IsLast file (bare tokens) ending last
  pub items_are : items ≡ records maps ++ last

-- the items of a stream: either a token is a fault, or none is
abbrev pub HasItems : FileRef → List (ℕ × Token) → Ending → List Item → Type 0
HasItems file tokens ending items = HasFault file tokens items ⊎ HasNone file tokens ending items

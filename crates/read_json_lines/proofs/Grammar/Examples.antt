-- The definitions of streams of records, tried on a few lists of tokens.
use Rattle.std.proofs.Common.{◌≡◌, ℕ, List, [], ◌∷◌, inl, refl}
use Rattle.std.specs.List.{flat_map}
use Rattle.std.specs.Prelude.{codes}
use Rattle.std.proofs.Math.ListN.{replicate}
use Rattle.std.proofs.lemmas.List.Elements.{All-nil}
use Rattle.mlr_spec.specs.declared.json.JsonMark.TheVariants.{BeginMap, EndMap, BeginArray, EndArray, Colon, Comma}
use Rattle.mlr_spec.specs.Tree.{Tree, string}
use Rattle.mlr_spec.specs.JsonTokens.{Token, sign, text_token, word_token}
use Rattle.mlr_spec.specs.JsonGrammar.{Syntax, text, word, object, elements, Members, no_members, member_and, no_elements, element_and, tokens_in, IsShallow}
use Rattle.mlr_json.specs.Machine.{step}
use Rattle.mlr_event.specs.declared.names.FileRef.{FileRef}
use Rattle.mlr_event.specs.declared.fault.Fault.TheVariants as fault
use Rattle.mlr_event.specs.Reading.{Item, fields}
use Rattle.mlr_event.specs.Reading as reading
use Rattle.read_json_lines.specs.declared.listing.Trouble.TheVariants.{Syntax as syntax, Kind}
use Rattle.read_json_lines.specs.Records.{goes_on, begins, ends, items_of, start_state}
use Rattle.read_json_lines.specs.Grammar.{Part, one, list, stream_tokens, stream_maps, records, in_map, in_list, HasItems}
use Rattle.read_json_lines.proofs.Grammar.Between.{map-first}
use Rattle.read_json_lines.proofs.Grammar.Items.{has-items}
use Rattle.read_json_lines.proofs.Grammar.Unique.{items-only}

abbrev a : List ℕ
a = codes "a"

-- {"a": "", "a": "a"}
abbrev twice : Members
twice = member_and a (text []) (member_and a (text a) no_members)

-- [{"a": "", "a": "a"}] {}
abbrev two : List Part
two = list (twice ∷ []) ∷ one no_members ∷ []

two-tokens : stream_tokens two ≡ sign BeginArray ∷ sign BeginMap ∷ text_token a ∷ sign Colon ∷ text_token [] ∷ sign Comma ∷ text_token a ∷ sign Colon ∷ text_token a ∷ sign EndMap ∷ sign EndArray ∷ sign BeginMap ∷ sign EndMap ∷ []
two-tokens = refl

two-records : records (stream_maps two) ≡ fields ((a, string a) ∷ []) ∷ fields [] ∷ []
two-records = refl

module _ (file : FileRef) where
  -- {} and the end: a record
  one-items : HasItems file ((1, sign BeginMap) ∷ (2, sign EndMap) ∷ []) (ends 3) (fields [] ∷ [])
  unfolding step
  one-items = has-items file ((1, sign BeginMap) ∷ (2, sign EndMap) ∷ []) (ends 3)

  -- {} and a bracket that stays open: a record, and a fault at the end
  open-items : HasItems file ((1, sign BeginMap) ∷ (2, sign EndMap) ∷ (3, sign BeginArray) ∷ []) (ends 4) (fields [] ∷ reading.fault (fault.JsonSyntax file 4) ∷ [])
  unfolding step
  open-items = has-items file ((1, sign BeginMap) ∷ (2, sign EndMap) ∷ (3, sign BeginArray) ∷ []) (ends 4)

  -- {"a" and the start of a word: a colon is missing
  word-items : HasItems file ((1, sign BeginMap) ∷ (2, text_token a) ∷ []) (begins 5) (reading.fault (fault.JsonSyntax file 5) ∷ [])
  unfolding step
  word-items = has-items file ((1, sign BeginMap) ∷ (2, text_token a) ∷ []) (begins 5)

  -- [ and a word: by the grammar it isn't a map
  kind-items : (value : Tree) → HasItems file ((1, sign BeginArray) ∷ (2, word_token value) ∷ []) goes_on (reading.fault (fault.JsonKind file 2) ∷ [])
  kind-items value = inl (record {
    before = (1, sign BeginArray) ∷ [];
    place = 2;
    token = word_token value;
    following = [];
    maps = [];
    opened = in_list [];
    why = Kind;
    parts = refl;
    prefix = record { parts = []; tokens_are = refl; maps_are = refl; begun = tt; shallow = All-nil (λ m. IsShallow (tokens_in (object m))) };
    why_is = (record { values = elements (element_and (word value) no_elements) ∷ []; more = sign EndArray ∷ []; whole = refl }, λ b. none b.parts b.more b.whole);
    items_are = refl;
  })
    where
      none : (parts : List Part) (more : List Token) → sign BeginArray ∷ word_token value ∷ more ≡ stream_tokens parts → ⊥
      none [] more e = cc
      none (one m ∷ parts) more e = cc
      none (list [] ∷ parts) more e = cc
      none (list (m ∷ maps) ∷ parts) more e = cc

  -- {, is no start of a value
  syntax-items : HasItems file ((1, sign BeginMap) ∷ (2, sign Comma) ∷ (3, sign BeginMap) ∷ []) goes_on (reading.fault (fault.JsonSyntax file 2) ∷ [])
  syntax-items = inl (record {
    before = (1, sign BeginMap) ∷ [];
    place = 2;
    token = sign Comma;
    following = (3, sign BeginMap) ∷ [];
    maps = [];
    opened = in_map (sign BeginMap ∷ []);
    why = syntax;
    parts = refl;
    prefix = record {
      parts = [];
      tokens_are = refl;
      maps_are = refl;
      begun = record { members = no_members; next = sign EndMap; more = []; whole = refl; shallow = map-first.reads.shallow };
      shallow = All-nil (λ m. IsShallow (tokens_in (object m)));
    };
    why_is = λ b. none b.values b.more b.whole;
    items_are = refl;
  })
    where
      none : (values : List Syntax) (more : List Token) → sign BeginMap ∷ sign Comma ∷ more ≡ flat_map tokens_in values → ⊥
      none [] more e = cc
      none (text t ∷ values) more e = cc
      none (word value ∷ values) more e = cc
      none (object no_members ∷ values) more e = cc
      none (object (member_and key value m) ∷ values) more e = cc
      none (elements items ∷ values) more e = cc

  -- so the machine gives these items, and no others
  kind-found : (value : Tree) → reading.fault (fault.JsonKind file 2) ∷ [] ≡ items_of file start_state ((1, sign BeginArray) ∷ (2, word_token value) ∷ []) goes_on
  kind-found value = items-only file ((1, sign BeginArray) ∷ (2, word_token value) ∷ []) goes_on (reading.fault (fault.JsonKind file 2) ∷ []) (kind-items value)

  -- a map that contains a hundred nested arrays is a level too deep, also in a list; a map with fewer isn't
  deep-items : HasItems file ((1, sign BeginArray) ∷ (2, sign BeginMap) ∷ (3, text_token a) ∷ (6, sign Colon) ∷ replicate 100 (7, sign BeginArray)) goes_on (reading.fault (fault.JsonDeep file 7) ∷ [])
  unfolding step
  deep-items = has-items file ((1, sign BeginArray) ∷ (2, sign BeginMap) ∷ (3, text_token a) ∷ (6, sign Colon) ∷ replicate 100 (7, sign BeginArray)) goes_on

  low-items : HasItems file ((1, sign BeginArray) ∷ (2, sign BeginMap) ∷ (3, text_token a) ∷ (6, sign Colon) ∷ replicate 99 (7, sign BeginArray)) goes_on []
  unfolding step
  low-items = has-items file ((1, sign BeginArray) ∷ (2, sign BeginMap) ∷ (3, text_token a) ∷ (6, sign Colon) ∷ replicate 99 (7, sign BeginArray)) goes_on

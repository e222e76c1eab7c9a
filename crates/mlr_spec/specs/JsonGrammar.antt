-- What JSON texts mean: the grammar of RFC 8259 on tokens, the value of a text, and its first fault.
use Rattle.std.specs.Prelude.{◌≡◌, ℕ, ◌+◌, ◌-◌, ◌≤◌, Bool, true, false, List, [], ◌∷◌, ◌++◌, map, length, take, Some, None, ◌⊎◌, count_by}
use Rattle.mlr_spec.specs.declared.infer.InferOpts.{InferOpts}
use Rattle.mlr_spec.specs.declared.json.JsonMark.TheVariants.{BeginMap, EndMap, BeginArray, EndArray, Colon, Comma}
use Rattle.mlr_spec.specs.Tree.{Tree, empty, string, map_of, array_of}
use Rattle.mlr_spec.specs.Pairs.{put_each}
use Rattle.mlr_spec.specs.JsonTokens.{Token, sign, text_token, word_token, Tokens, tokens_of}

-- how a value is written: a string, a word with its value, an object of members, of which two may have one key, or an
-- array of values
mutual
  pub data Syntax : Type 0 where
    text : List ℕ → Syntax
    word : Tree → Syntax
    object : Members → Syntax
    elements : Elements → Syntax

  pub data Members : Type 0 where
    no_members : Members
    member_and : List ℕ → Syntax → Members → Members

  pub data Elements : Type 0 where
    no_elements : Elements
    element_and : Syntax → Elements → Elements

-- the tokens that it is written with; `later` members and elements follow a comma
abbrev mutual
  pub tokens_in : Syntax → List Token
  tokens_in (text t) = text_token t ∷ []
  tokens_in (word value) = word_token value ∷ []
  tokens_in (object members) = sign BeginMap ∷ member_tokens members ++ sign EndMap ∷ []
  tokens_in (elements items) = sign BeginArray ∷ element_tokens items ++ sign EndArray ∷ []

  pub member_tokens : Members → List Token
  member_tokens no_members = []
  member_tokens (member_and key value more) = text_token key ∷ sign Colon ∷ tokens_in value ++ later_members more

  pub later_members : Members → List Token
  later_members no_members = []
  later_members (member_and key value more) = sign Comma ∷ text_token key ∷ sign Colon ∷ tokens_in value ++ later_members more

  pub element_tokens : Elements → List Token
  element_tokens no_elements = []
  element_tokens (element_and value more) = tokens_in value ++ later_elements more

  pub later_elements : Elements → List Token
  later_elements no_elements = []
  later_elements (element_and value more) = sign Comma ∷ tokens_in value ++ later_elements more

-- a string without bytes is the empty value
abbrev pub text_value : List ℕ → Tree
text_value [] = empty
text_value (b ∷ t) = string (b ∷ t)

-- the value that it represents: a key that occurs again keeps its place and takes the last value
abbrev mutual
  pub value_of : Syntax → Tree
  value_of (text t) = text_value t
  value_of (word value) = value
  value_of (object members) = map_of (put_each [] (pairs_of members))
  value_of (elements items) = array_of (values_of items)

  pub pairs_of : Members → List (List ℕ × Tree)
  pairs_of no_members = []
  pairs_of (member_and key value more) = (key, value_of value) ∷ pairs_of more

  pub values_of : Elements → List Tree
  values_of no_elements = []
  values_of (element_and value more) = value_of value ∷ values_of more

-- tokens with which some value begins
pub record Begins (tokens : List Token) : Type 0 where
  pub syntax : Syntax
  pub more : List Token
  pub whole : tokens ++ more ≡ tokens_in syntax

-- how many brackets are open after these tokens
abbrev pub is_opening : Token → Bool
is_opening (sign BeginMap) = true
is_opening (sign BeginArray) = true
is_opening (sign EndMap) = false
is_opening (sign EndArray) = false
is_opening (sign Colon) = false
is_opening (sign Comma) = false
is_opening (text_token t) = false
is_opening (word_token value) = false

abbrev pub is_closing : Token → Bool
is_closing (sign BeginMap) = false
is_closing (sign BeginArray) = false
is_closing (sign EndMap) = true
is_closing (sign EndArray) = true
is_closing (sign Colon) = false
is_closing (sign Comma) = false
is_closing (text_token t) = false
is_closing (word_token value) = false

abbrev pub level_of : List Token → ℕ
level_of tokens = count_by is_opening tokens - count_by is_closing tokens

-- at most 100 levels deep, at each place
abbrev pub IsShallow : List Token → Type 0
IsShallow tokens = (n : ℕ) → level_of (take n tokens) ≤ 100

abbrev pub bare : List (ℕ × Token) → List Token
bare tokens = map (λ t. t.1) tokens

-- the text is a value, with blanks round it and in it
pub record IsJson (opts : InferOpts) (t : List ℕ) (value : Tree) : Type 0 where
  pub syntax : Syntax
  pub tokens : bare (tokens_of opts t).tokens ≡ tokens_in syntax
  pub ends : (tokens_of opts t).stop ≡ None
  pub shallow : IsShallow (tokens_in syntax)
  pub is : value ≡ value_of syntax

-- a token, at its place, with which the tokens begin no value any more
pub record IsWrongAt (tokens : List (ℕ × Token)) (place : ℕ) : Type 0 where
  pub before : List (ℕ × Token)
  pub token : Token
  pub following : List (ℕ × Token)
  pub parts : tokens ≡ before ++ (place, token) ∷ following
  pub begins : Begins (bare before)
  pub shallow : IsShallow (bare before)
  pub wrong : Begins (bare before ++ token ∷ []) → ⊥

-- the text stops within a value where all its tokens still begin one: at a byte that no token may have there, or at its end
pub record IsCutAt (tokens : Tokens) (end place : ℕ) : Type 0 where
  pub begins : Begins (bare tokens.tokens)
  pub shallow : IsShallow (bare tokens.tokens)
  pub stop : (tokens.stop ≡ Some place) ⊎ ((tokens.stop ≡ None) × (place ≡ end) × ((s : Syntax) → bare tokens.tokens ≡ tokens_in s → ⊥))

-- a bracket that opens level 101
pub record IsDeepAt (tokens : List (ℕ × Token)) (place : ℕ) : Type 0 where
  pub before : List (ℕ × Token)
  pub token : Token
  pub following : List (ℕ × Token)
  pub parts : tokens ≡ before ++ (place, token) ∷ following
  pub begins : Begins (bare before ++ token ∷ [])
  pub shallow : IsShallow (bare before)
  pub deep : level_of (bare before ++ token ∷ []) ≡ 101

-- the place at which a text no longer begins any value
abbrev pub HasSyntaxFault : InferOpts → List ℕ → ℕ → Type 0
HasSyntaxFault opts t place = IsWrongAt (tokens_of opts t).tokens place ⊎ IsCutAt (tokens_of opts t) (length t + 1) place

abbrev pub HasDeepFault : InferOpts → List ℕ → ℕ → Type 0
HasDeepFault opts t place = IsDeepAt (tokens_of opts t).tokens place

-- Whole runs of the machine: the tokens that it represents begin a value, and the tokens of a value lead it
-- to that value.
use Rattle.std.proofs.Common.{◌≡◌, ℕ, Bool, true, false, cond, List, [], ◌∷◌, ◌++◌, refl, ap, sym, subst, ◌∙◌, append_assoc}
use Rattle.std.proofs.lemmas.List.{append-nil}
use Rattle.mlr_spec.specs.declared.json.JsonMark.TheVariants.{BeginMap, EndMap, BeginArray, EndArray, Colon}
use Rattle.mlr_spec.specs.Tree.{Tree, map_of, array_of}
use Rattle.mlr_spec.specs.Pairs.{put_at, put_each}
use Rattle.mlr_spec.specs.JsonTokens.{Token, sign, text_token, word_token}
use Rattle.mlr_spec.specs.JsonGrammar.{Syntax, text, word, object, elements, Members, no_members, member_and, Elements, no_elements, element_and, tokens_in, member_tokens, later_members, element_tokens, later_elements, text_value, value_of, pairs_of, values_of, Begins}
use Rattle.mlr_json.specs.declared.frame.Frame.{Frame}
use Rattle.mlr_json.specs.declared.frame.Frame.TheVariants.{Array, Map}
use Rattle.mlr_json.specs.declared.frame.Phase.{Phase}
use Rattle.mlr_json.specs.declared.frame.Phase.TheVariants as phase
use Rattle.mlr_json.specs.Machine.{Step, on, whole, wrong, takes_value, with_value, step}
use Rattle.mlr_json.proofs.Grammar.{elements_of, members_of, member_text, each_item, each_member, Awaits, Represents, items-tokens, members-tokens}

pub begins-prefix : (a b : List Token) → Begins (a ++ b) → Begins a
begins-prefix a b h = record { syntax = h.syntax; more = b ++ h.more; whole = sym (append_assoc a b h.more) ∙ h.whole }

-- where a value is awaited, any value may come
awaits-begins : (frames : List Frame) (tokens : List Token) (s : Syntax) → Awaits frames tokens → Begins (tokens ++ tokens_in s)
awaits-begins [] tokens s h = record { syntax = s; more = []; whole = append-nil (tokens ++ tokens_in s) ∙ ap (λ t. t ++ tokens_in s) h }
awaits-begins (Array items ∷ frames) tokens s h =
    let bigger : Syntax = elements (elements_of (h.1 ++ s ∷ [])) in
    let whole : h.0 ++ tokens_in bigger ≡ (tokens ++ tokens_in s) ++ sign EndArray ∷ [] =
    ap (λ t. h.0 ++ (sign BeginArray ∷ t ++ sign EndArray ∷ [])) (items-tokens h.1 s)
    ∙ sym (ap (λ t. (t ++ tokens_in s) ++ sign EndArray ∷ []) h.4 ∙ simp append_assoc) in
    begins-prefix (tokens ++ tokens_in s) (sign EndArray ∷ []) (subst Begins whole (awaits-begins frames h.0 bigger h.2))
awaits-begins (Map pairs key ∷ frames) tokens s h =
    let bigger : Syntax = object (members_of (h.1 ++ (key, s) ∷ [])) in
    let whole : h.0 ++ tokens_in bigger ≡ (tokens ++ tokens_in s) ++ sign EndMap ∷ [] =
    ap (λ t. h.0 ++ (sign BeginMap ∷ t ++ sign EndMap ∷ [])) (members-tokens h.1 (key, s))
    ∙ sym (ap (λ t. (t ++ tokens_in s) ++ sign EndMap ∷ []) h.4 ∙ simp append_assoc) in
    begins-prefix (tokens ++ tokens_in s) (sign EndMap ∷ []) (subst Begins whole (awaits-begins frames h.0 bigger h.2))

-- a prefix of a value that is awaited
prefix-begins : (frames : List Frame) (before tokens inner rest : List Token) (s : Syntax) → Awaits frames before → tokens ≡ before ++ inner → tokens_in s ≡ inner ++ rest → Begins tokens
prefix-begins frames before tokens inner rest s h is prefix =
    subst Begins (sym is)
    (begins-prefix (before ++ inner) rest
    (subst Begins (ap (λ t. before ++ t) prefix ∙ sym (append_assoc before inner rest)) (awaits-begins frames before s h)))

pub represents-begins : (frames : List Frame) (at : Phase) (tokens : List Token) → Represents frames at tokens → Begins tokens
represents-begins frames phase.Value tokens h = begins-prefix tokens (text_token [] ∷ []) (awaits-begins frames tokens (text []) h)
represents-begins [] phase.FirstItem tokens h = absurd h
represents-begins (Map pairs key ∷ frames) phase.FirstItem tokens h = absurd h
represents-begins (Array items ∷ frames) phase.FirstItem tokens h =
    prefix-begins frames h.0 tokens (sign BeginArray ∷ []) (sign EndArray ∷ []) (elements no_elements) h.1.0 h.1.1 refl
represents-begins [] phase.FirstKey tokens h = absurd h
represents-begins (Array items ∷ frames) phase.FirstKey tokens h = absurd h
represents-begins (Map pairs key ∷ frames) phase.FirstKey tokens h =
    prefix-begins frames h.0 tokens (sign BeginMap ∷ []) (sign EndMap ∷ []) (object no_members) h.1.0 h.1.1 refl
represents-begins [] phase.Key tokens h = absurd h
represents-begins (Array items ∷ frames) phase.Key tokens h = absurd h
represents-begins (Map pairs key ∷ frames) phase.Key tokens h =
    let last : List ℕ × Syntax = ([], text []) in
    prefix-begins frames h.0 tokens (sign BeginMap ∷ each_member h.1) (member_text last ++ sign EndMap ∷ []) (object (members_of (h.1 ++ last ∷ []))) h.2.0 h.2.1
    (ap (λ t. sign BeginMap ∷ t ++ sign EndMap ∷ []) (members-tokens h.1 last) ∙ simp append_assoc)
represents-begins [] phase.Colon tokens h = absurd h
represents-begins (Array items ∷ frames) phase.Colon tokens h = absurd h
represents-begins (Map pairs key ∷ frames) phase.Colon tokens h =
    let last : List ℕ × Syntax = (key, text []) in
    prefix-begins frames h.0 tokens (sign BeginMap ∷ each_member h.1 ++ text_token key ∷ []) (sign Colon ∷ text_token [] ∷ sign EndMap ∷ []) (object (members_of (h.1 ++ last ∷ []))) h.2.0 h.2.1
    (ap (λ t. sign BeginMap ∷ t ++ sign EndMap ∷ []) (members-tokens h.1 last) ∙ simp append_assoc)
represents-begins [] phase.Later tokens h = absurd h
represents-begins (Array items ∷ frames) phase.Later tokens h =
    prefix-begins frames h.0 tokens (sign BeginArray ∷ each_item h.1 ++ tokens_in h.2) (sign EndArray ∷ []) (elements (elements_of (h.1 ++ h.2 ∷ []))) h.3.0 h.3.1
    (ap (λ t. sign BeginArray ∷ t ++ sign EndArray ∷ []) (items-tokens h.1 h.2))
represents-begins (Map pairs key ∷ frames) phase.Later tokens h =
    prefix-begins frames h.0 tokens (sign BeginMap ∷ each_member h.1 ++ member_text h.2) (sign EndMap ∷ []) (object (members_of (h.1 ++ h.2 ∷ []))) h.3.0 h.3.1
    (ap (λ t. sign BeginMap ∷ t ++ sign EndMap ∷ []) (members-tokens h.1 h.2))

-- after a whole value no token may come
abbrev pub whole_then : Tree → List Token → Step
whole_then value [] = whole value
whole_then value (token ∷ tokens) = wrong

-- token by token
abbrev pub run : List Frame → Phase → List Token → Step
run frames at [] = on frames at
run frames at (token ∷ tokens) = elim (step frames at token) [
  | on more next ↦ run more next tokens
  | whole value ↦ whole_then value tokens
  | wrong ↦ wrong
]

abbrev pub run_on : Step → List Token → Step
run_on (on frames at) tokens = run frames at tokens
run_on (whole value) tokens = whole_then value tokens
run_on wrong tokens = wrong

pub run-cons : (frames : List Frame) (at : Phase) (token : Token) (tokens : List Token) → run frames at (token ∷ tokens) ≡ run_on (step frames at token) tokens
run-cons frames at token tokens = elim (step frames at token) as (λ s. elim s as (λ _. Step) [
  | on more next ↦ run more next tokens
  | whole value ↦ whole_then value tokens
  | wrong ↦ wrong
] ≡ run_on s tokens) [
  | on more next ↦ refl
  | whole value ↦ refl
  | wrong ↦ refl
]

-- where a value may come
step-text : (t : List ℕ) (frames : List Frame) (at : Phase) → takes_value at ≡ true → step frames at (text_token t) ≡ with_value (text_value t) frames
unfolding step
step-text t frames phase.Value h = refl
step-text t frames phase.FirstItem h = refl
step-text t frames phase.FirstKey h = absurd (let e : false ≡ true = h in cc)
step-text t frames phase.Key h = absurd (let e : false ≡ true = h in cc)
step-text t frames phase.Colon h = absurd (let e : false ≡ true = h in cc)
step-text t frames phase.Later h = absurd (let e : false ≡ true = h in cc)

pub step-word : (value : Tree) (frames : List Frame) (at : Phase) (takes : Bool) → takes_value at ≡ takes → step frames at (word_token value) ≡ cond takes (with_value value frames) wrong
unfolding step
step-word value frames at takes h = ap (λ b. cond b (with_value value frames) wrong) h

step-map : (frames : List Frame) (at : Phase) → takes_value at ≡ true → step frames at (sign BeginMap) ≡ on (Map [] [] ∷ frames) phase.FirstKey
unfolding step
step-map frames at h = ap (λ b. cond b (on (Map [] [] ∷ frames) phase.FirstKey) wrong) h

step-array : (frames : List Frame) (at : Phase) → takes_value at ≡ true → step frames at (sign BeginArray) ≡ on (Array [] ∷ frames) phase.FirstItem
unfolding step
step-array frames at h = ap (λ b. cond b (on (Array [] ∷ frames) phase.FirstItem) wrong) h

run-step : (frames : List Frame) (at : Phase) (token : Token) (tokens : List Token) (s : Step) → step frames at token ≡ s → run frames at (token ∷ tokens) ≡ run_on s tokens
run-step frames at token tokens s is = run-cons frames at token tokens ∙ ap (λ x. run_on x tokens) is

-- the tokens of a value
mutual
  unfolding step

  pub run-value : (s : Syntax) (frames : List Frame) (at : Phase) (rest : List Token) → takes_value at ≡ true
      → run frames at (tokens_in s ++ rest) ≡ run_on (with_value (value_of s) frames) rest
  run-value (text t) frames at rest h = run-step frames at (text_token t) rest (with_value (text_value t) frames) (step-text t frames at h)
  run-value (word value) frames at rest h = run-step frames at (word_token value) rest (with_value value frames) (step-word value frames at true h)
  run-value (object members) frames at rest h =
      run-step frames at (sign BeginMap) ((member_tokens members ++ sign EndMap ∷ []) ++ rest) (on (Map [] [] ∷ frames) phase.FirstKey) (step-map frames at h)
      ∙ ap (run (Map [] [] ∷ frames) phase.FirstKey) (append_assoc (member_tokens members) (sign EndMap ∷ []) rest)
      ∙ run-members members frames rest
  run-value (elements items) frames at rest h =
      run-step frames at (sign BeginArray) ((element_tokens items ++ sign EndArray ∷ []) ++ rest) (on (Array [] ∷ frames) phase.FirstItem) (step-array frames at h)
      ∙ ap (run (Array [] ∷ frames) phase.FirstItem) (append_assoc (element_tokens items) (sign EndArray ∷ []) rest)
      ∙ run-elements items frames rest

  run-members : (members : Members) (frames : List Frame) (rest : List Token)
      → run (Map [] [] ∷ frames) phase.FirstKey (member_tokens members ++ sign EndMap ∷ rest) ≡ run_on (with_value (map_of (put_each [] (pairs_of members))) frames) rest
  run-members no_members frames rest = run-cons (Map [] [] ∷ frames) phase.FirstKey (sign EndMap) rest
  run-members (member_and key value more) frames rest =
      ap (run (Map [] key ∷ frames) phase.Value) (append_assoc (tokens_in value) (later_members more) (sign EndMap ∷ rest))
      ∙ run-value value (Map [] key ∷ frames) phase.Value (later_members more ++ sign EndMap ∷ rest) refl
      ∙ run-later_members more (put_at key (value_of value) []) key frames rest

  run-later_members : (members : Members) (pairs : List (List ℕ × Tree)) (key : List ℕ) (frames : List Frame) (rest : List Token)
      → run (Map pairs key ∷ frames) phase.Later (later_members members ++ sign EndMap ∷ rest) ≡ run_on (with_value (map_of (put_each pairs (pairs_of members))) frames) rest
  run-later_members no_members pairs key frames rest = run-cons (Map pairs key ∷ frames) phase.Later (sign EndMap) rest
  run-later_members (member_and next value more) pairs key frames rest =
      ap (run (Map pairs next ∷ frames) phase.Value) (append_assoc (tokens_in value) (later_members more) (sign EndMap ∷ rest))
      ∙ run-value value (Map pairs next ∷ frames) phase.Value (later_members more ++ sign EndMap ∷ rest) refl
      ∙ run-later_members more (put_at next (value_of value) pairs) next frames rest

  run-elements : (items : Elements) (frames : List Frame) (rest : List Token)
      → run (Array [] ∷ frames) phase.FirstItem (element_tokens items ++ sign EndArray ∷ rest) ≡ run_on (with_value (array_of (values_of items)) frames) rest
  run-elements no_elements frames rest = run-cons (Array [] ∷ frames) phase.FirstItem (sign EndArray) rest
  run-elements (element_and value more) frames rest =
      ap (run (Array [] ∷ frames) phase.FirstItem) (append_assoc (tokens_in value) (later_elements more) (sign EndArray ∷ rest))
      ∙ run-value value (Array [] ∷ frames) phase.FirstItem (later_elements more ++ sign EndArray ∷ rest) refl
      ∙ run-later_elements more (value_of value ∷ []) frames rest

  run-later_elements : (items : Elements) (read : List Tree) (frames : List Frame) (rest : List Token)
      → run (Array read ∷ frames) phase.Later (later_elements items ++ sign EndArray ∷ rest) ≡ run_on (with_value (array_of (read ++ values_of items)) frames) rest
  run-later_elements no_elements read frames rest =
      run-cons (Array read ∷ frames) phase.Later (sign EndArray) rest ∙ ap (λ t. run_on (with_value (array_of t) frames) rest) (sym (append-nil read))
  run-later_elements (element_and value more) read frames rest =
      ap (run (Array read ∷ frames) phase.Value) (append_assoc (tokens_in value) (later_elements more) (sign EndArray ∷ rest))
      ∙ run-value value (Array read ∷ frames) phase.Value (later_elements more ++ sign EndArray ∷ rest) refl
      ∙ run-later_elements more (read ++ value_of value ∷ []) frames rest
      ∙ ap (λ t. run_on (with_value (array_of t) frames) rest) (append_assoc read (value_of value ∷ []) (values_of more))

-- the tokens of a whole value
pub run-whole : (s : Syntax) → run [] phase.Value (tokens_in s) ≡ whole (value_of s)
run-whole s = ap (run [] phase.Value) (sym (append-nil (tokens_in s))) ∙ run-value s [] phase.Value [] refl

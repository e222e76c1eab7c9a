-- The machine reads the grammar: what its frames and its phase represent, and where each token leads.
use Rattle.std.proofs.Common.{◌≡◌, ℕ, true, false, List, [], ◌∷◌, ◌++◌, map, refl, ap, sym, subst, ◌∙◌, append_assoc}
use Rattle.std.proofs.lemmas.List.{append-nil, map-append}
use Rattle.std.specs.List.{flat_map}
use Rattle.std.proofs.lemmas.Grind.{flat_map-append}
use Rattle.mlr_spec.specs.declared.json.JsonMark.TheVariants.{BeginMap, EndMap, BeginArray, EndArray, Colon, Comma}
use Rattle.mlr_spec.specs.Tree.{Tree, map_of, array_of}
use Rattle.mlr_spec.specs.Pairs.{put_at, put_each}
use Rattle.mlr_spec.specs.JsonTokens.{Token, sign, text_token, word_token}
use Rattle.mlr_spec.specs.JsonGrammar.{Syntax, text, word, object, elements, Members, no_members, member_and, Elements, no_elements, element_and, tokens_in, member_tokens, element_tokens, value_of, pairs_of, values_of}
use Rattle.mlr_json.specs.declared.frame.Frame.{Frame}
use Rattle.mlr_json.specs.declared.frame.Frame.TheVariants.{Array, Map}
use Rattle.mlr_json.specs.declared.frame.Phase.{Phase}
use Rattle.mlr_json.specs.declared.frame.Phase.TheVariants as phase
use Rattle.mlr_json.specs.Machine.{Step, on, whole, wrong, takes_value, takes_key, with_value, with_key, map_ended, array_ended, comma_read, colon_read, step_mark, step}

-- items and members that were read, as lists
abbrev pub elements_of : List Syntax → Elements
elements_of [] = no_elements
elements_of (item ∷ items) = element_and item (elements_of items)

abbrev pub members_of : List (List ℕ × Syntax) → Members
members_of [] = no_members
members_of (member ∷ members) = member_and member.0 member.1 (members_of members)

abbrev pub valued : List (List ℕ × Syntax) → List (List ℕ × Tree)
valued members = map (λ m. (m.0, value_of m.1)) members

abbrev pub member_text : List ℕ × Syntax → List Token
member_text member = text_token member.0 ∷ sign Colon ∷ tokens_in member.1

-- each with a comma after it
abbrev pub each_item : List Syntax → List Token
each_item items = flat_map (λ item. tokens_in item ++ sign Comma ∷ []) items

abbrev pub each_member : List (List ℕ × Syntax) → List Token
each_member members = flat_map (λ m. member_text m ++ sign Comma ∷ []) members

regroup : {A : Type 0} (a b c d : List A) → a ++ (b ++ (c ++ d)) ≡ ((a ++ b) ++ c) ++ d
regroup a b c d = simp append_assoc

pub items-tokens : (items : List Syntax) (last : Syntax) → element_tokens (elements_of (items ++ last ∷ [])) ≡ each_item items ++ tokens_in last
items-tokens [] last = append-nil (tokens_in last)
items-tokens (a ∷ []) last = simp (append_assoc, append-nil)
items-tokens (a ∷ b ∷ items) last =
    ap (λ t. tokens_in a ++ sign Comma ∷ t) (items-tokens (b ∷ items) last) ∙ simp append_assoc

pub members-tokens : (members : List (List ℕ × Syntax)) (last : List ℕ × Syntax) → member_tokens (members_of (members ++ last ∷ [])) ≡ each_member members ++ member_text last
members-tokens [] last = ap (λ t. text_token last.0 ∷ sign Colon ∷ t) (append-nil (tokens_in last.1))
members-tokens (a ∷ []) last = simp (append_assoc, append-nil)
members-tokens (a ∷ b ∷ members) last =
    ap (λ t. text_token a.0 ∷ sign Colon ∷ (tokens_in a.1 ++ sign Comma ∷ t)) (members-tokens (b ∷ members) last)
    ∙ ap (λ t. text_token a.0 ∷ sign Colon ∷ t) (regroup (tokens_in a.1) (sign Comma ∷ []) (each_member (b ∷ members)) (member_text last))

pub values-of : (items : List Syntax) → values_of (elements_of items) ≡ map value_of items
values-of [] = refl
values-of (a ∷ items) = ap (λ t. value_of a ∷ t) (values-of items)

pub pairs-of : (members : List (List ℕ × Syntax)) → pairs_of (members_of members) ≡ valued members
pairs-of [] = refl
pairs-of (a ∷ members) = ap (λ t. (a.0, value_of a.1) ∷ t) (pairs-of members)

-- tokens after which a value is awaited within these frames, the innermost first
abbrev pub Awaits : List Frame → List Token → Type 0
Awaits [] tokens = tokens ≡ []
Awaits (Array items ∷ frames) tokens =
    (before : List Token) × (read : List Syntax) × Awaits frames before
    × (items ≡ map value_of read) × (tokens ≡ before ++ sign BeginArray ∷ each_item read)
Awaits (Map pairs key ∷ frames) tokens =
    (before : List Token) × (read : List (List ℕ × Syntax)) × Awaits frames before
    × (pairs ≡ put_each [] (valued read)) × (tokens ≡ before ++ (sign BeginMap ∷ each_member read ++ (text_token key ∷ sign Colon ∷ [])))

-- the frames outside the innermost, and the tokens before its bracket
abbrev pub IsIn : List Frame → List Token → List Token → List Token → Type 0
IsIn frames before inner tokens = Awaits frames before × (tokens ≡ before ++ inner)

-- tokens that frames and a phase represent
abbrev pub Represents : List Frame → Phase → List Token → Type 0
Represents frames phase.Value tokens = Awaits frames tokens
Represents [] phase.FirstItem tokens = ⊥
Represents (Map pairs key ∷ frames) phase.FirstItem tokens = ⊥
Represents (Array items ∷ frames) phase.FirstItem tokens = (before : List Token) × IsIn frames before (sign BeginArray ∷ []) tokens × (items ≡ [])
Represents [] phase.FirstKey tokens = ⊥
Represents (Array items ∷ frames) phase.FirstKey tokens = ⊥
Represents (Map pairs key ∷ frames) phase.FirstKey tokens = (before : List Token) × IsIn frames before (sign BeginMap ∷ []) tokens × (pairs ≡ [])
Represents [] phase.Key tokens = ⊥
Represents (Array items ∷ frames) phase.Key tokens = ⊥
Represents (Map pairs key ∷ frames) phase.Key tokens =
    (before : List Token) × (read : List (List ℕ × Syntax)) × IsIn frames before (sign BeginMap ∷ each_member read) tokens × (pairs ≡ put_each [] (valued read))
Represents [] phase.Colon tokens = ⊥
Represents (Array items ∷ frames) phase.Colon tokens = ⊥
Represents (Map pairs key ∷ frames) phase.Colon tokens =
    (before : List Token) × (read : List (List ℕ × Syntax)) × IsIn frames before (sign BeginMap ∷ each_member read ++ (text_token key ∷ [])) tokens × (pairs ≡ put_each [] (valued read))
Represents [] phase.Later tokens = ⊥
Represents (Array items ∷ frames) phase.Later tokens =
    (before : List Token) × (read : List Syntax) × (last : Syntax) × IsIn frames before (sign BeginArray ∷ each_item read ++ tokens_in last) tokens
    × (items ≡ map value_of (read ++ last ∷ []))
Represents (Map pairs key ∷ frames) phase.Later tokens =
    (before : List Token) × (read : List (List ℕ × Syntax)) × (last : List ℕ × Syntax) × IsIn frames before (sign BeginMap ∷ each_member read ++ member_text last) tokens
    × (pairs ≡ put_each [] (valued (read ++ last ∷ [])))

-- where a step leads, for the tokens up to it
abbrev pub Leads : Step → List Token → Type 0
Leads (on frames at) tokens = Represents frames at tokens
Leads (whole value) tokens = (syntax : Syntax) × (tokens ≡ tokens_in syntax) × (value ≡ value_of syntax)
Leads wrong tokens = Unit {0}

put_each-push : (pairs more : List (List ℕ × Tree)) (pair : List ℕ × Tree) → put_each pairs (more ++ pair ∷ []) ≡ put_at pair.0 pair.1 (put_each pairs more)
put_each-push pairs [] pair = refl
put_each-push pairs (a ∷ more) pair = put_each-push (put_at a.0 a.1 pairs) more pair

-- a value that was awaited and came
leads-value : (frames : List Frame) (tokens : List Token) (s : Syntax) → Awaits frames tokens → Leads (with_value (value_of s) frames) (tokens ++ tokens_in s)
leads-value [] tokens s h = (s, ap (λ t. t ++ tokens_in s) h, refl)
leads-value (Array items ∷ frames) tokens s h = (
  h.0,
  h.1,
  s,
  (h.2, ap (λ t. t ++ tokens_in s) h.4 ∙ append_assoc h.0 (sign BeginArray ∷ each_item h.1) (tokens_in s)),
  ap (λ t. t ++ value_of s ∷ []) h.3 ∙ sym (map-append value_of h.1 (s ∷ [])),
)
leads-value (Map pairs key ∷ frames) tokens s h = (
  h.0,
  h.1,
  (key, s),
  (h.2, ap (λ t. t ++ tokens_in s) h.4 ∙ simp append_assoc),
  ap (put_at key (value_of s)) h.3 ∙ sym (ap (put_each []) (map-append (λ m. (m.0, value_of m.1)) h.1 ((key, s) ∷ [])) ∙ put_each-push [] (valued h.1) (key, value_of s)),
)

-- the first item of an array is awaited
pub awaits-first : (items : List Tree) (frames : List Frame) (tokens : List Token) → Represents (Array items ∷ frames) phase.FirstItem tokens → Awaits (Array items ∷ frames) tokens
awaits-first items frames tokens h = (h.0, [], h.1.0, h.2, h.1.1)

-- a value that ends with this token
leads-end : (frames : List Frame) (before tokens : List Token) (value : Tree) (s : Syntax) → Awaits frames before → value ≡ value_of s → tokens ≡ before ++ tokens_in s
    → Leads (with_value value frames) tokens
leads-end frames before tokens value s h is ends =
    subst (λ v. Leads (with_value v frames) tokens) (sym is)
    (subst (λ t. Leads (with_value (value_of s) frames) t) (sym ends) (leads-value frames before s h))

one-more : {A : Type 0} (tokens before inner more : List A) → tokens ≡ before ++ inner → tokens ++ more ≡ before ++ (inner ++ more)
one-more tokens before inner more h = ap (λ t. t ++ more) h ∙ append_assoc before inner more

each_item-push : (items : List Syntax) (last : Syntax) → each_item items ++ tokens_in last ++ sign Comma ∷ [] ≡ each_item (items ++ last ∷ [])
each_item-push items last =
    append_assoc (each_item items) (tokens_in last) (sign Comma ∷ [])
    ∙ ap (λ t. each_item items ++ t) (sym (append-nil (tokens_in last ++ sign Comma ∷ [])))
    ∙ sym (flat_map-append (λ item. tokens_in item ++ sign Comma ∷ []) items (last ∷ []))

each_member-push : (members : List (List ℕ × Syntax)) (last : List ℕ × Syntax) → each_member members ++ member_text last ++ sign Comma ∷ [] ≡ each_member (members ++ last ∷ [])
each_member-push members last =
    append_assoc (each_member members) (member_text last) (sign Comma ∷ [])
    ∙ ap (λ t. each_member members ++ t) (sym (append-nil (member_text last ++ sign Comma ∷ [])))
    ∙ sym (flat_map-append (λ m. member_text m ++ sign Comma ∷ []) members (last ∷ []))

-- a token that is a value by itself
leads-scalar : (s : Syntax) (t : Token) (frames : List Frame) (at : Phase) (tokens : List Token) → tokens_in s ≡ t ∷ [] → takes_value at ≡ true → Represents frames at tokens
    → Leads (with_value (value_of s) frames) (tokens ++ t ∷ [])
leads-scalar s t frames phase.Value tokens is takes h = subst (λ x. Leads (with_value (value_of s) frames) (tokens ++ x)) is (leads-value frames tokens s h)
leads-scalar s t (Array items ∷ frames) phase.FirstItem tokens is takes h =
    subst (λ x. Leads (with_value (value_of s) (Array items ∷ frames)) (tokens ++ x)) is
    (leads-value (Array items ∷ frames) tokens s (awaits-first items frames tokens h))
leads-scalar s t [] phase.FirstItem tokens is takes h = absurd h
leads-scalar s t (Map pairs key ∷ frames) phase.FirstItem tokens is takes h = absurd h
leads-scalar s t frames phase.FirstKey tokens is takes h = absurd (let e : false ≡ true = takes in cc)
leads-scalar s t frames phase.Key tokens is takes h = absurd (let e : false ≡ true = takes in cc)
leads-scalar s t frames phase.Colon tokens is takes h = absurd (let e : false ≡ true = takes in cc)
leads-scalar s t frames phase.Later tokens is takes h = absurd (let e : false ≡ true = takes in cc)

-- a key
leads-key : (key : List ℕ) (frames : List Frame) (at : Phase) (tokens : List Token) → takes_key at ≡ true → Represents frames at tokens
    → Leads (with_key key frames) (tokens ++ text_token key ∷ [])
leads-key key [] at tokens takes h = tt
leads-key key (Array items ∷ frames) at tokens takes h = tt
leads-key key (Map pairs last ∷ frames) phase.FirstKey tokens takes h = (h.0, [], (h.1.0, one-more tokens h.0 (sign BeginMap ∷ []) (text_token key ∷ []) h.1.1), h.2)
leads-key key (Map pairs last ∷ frames) phase.Key tokens takes h =
    (h.0, h.1, (h.2.0, one-more tokens h.0 (sign BeginMap ∷ each_member h.1) (text_token key ∷ []) h.2.1), h.3)
leads-key key (Map pairs last ∷ frames) phase.Value tokens takes h = absurd (let e : false ≡ true = takes in cc)
leads-key key (Map pairs last ∷ frames) phase.FirstItem tokens takes h = absurd (let e : false ≡ true = takes in cc)
leads-key key (Map pairs last ∷ frames) phase.Colon tokens takes h = absurd (let e : false ≡ true = takes in cc)
leads-key key (Map pairs last ∷ frames) phase.Later tokens takes h = absurd (let e : false ≡ true = takes in cc)

-- a bracket that opens
leads-map : (frames : List Frame) (at : Phase) (tokens : List Token) → Represents frames at tokens → Leads (step_mark frames at BeginMap) (tokens ++ sign BeginMap ∷ [])
leads-map frames phase.Value tokens h = (tokens, (h, refl), refl)
leads-map (Array items ∷ frames) phase.FirstItem tokens h = (tokens, (awaits-first items frames tokens h, refl), refl)
leads-map [] phase.FirstItem tokens h = absurd h
leads-map (Map pairs key ∷ frames) phase.FirstItem tokens h = absurd h
leads-map frames phase.FirstKey tokens h = tt
leads-map frames phase.Key tokens h = tt
leads-map frames phase.Colon tokens h = tt
leads-map frames phase.Later tokens h = tt

leads-array : (frames : List Frame) (at : Phase) (tokens : List Token) → Represents frames at tokens → Leads (step_mark frames at BeginArray) (tokens ++ sign BeginArray ∷ [])
leads-array frames phase.Value tokens h = (tokens, (h, refl), refl)
leads-array (Array items ∷ frames) phase.FirstItem tokens h = (tokens, (awaits-first items frames tokens h, refl), refl)
leads-array [] phase.FirstItem tokens h = absurd h
leads-array (Map pairs key ∷ frames) phase.FirstItem tokens h = absurd h
leads-array frames phase.FirstKey tokens h = tt
leads-array frames phase.Key tokens h = tt
leads-array frames phase.Colon tokens h = tt
leads-array frames phase.Later tokens h = tt

-- a bracket that closes
leads-map_end : (frames : List Frame) (at : Phase) (tokens : List Token) → Represents frames at tokens → Leads (map_ended frames at) (tokens ++ sign EndMap ∷ [])
leads-map_end [] at tokens h = tt
leads-map_end (Array items ∷ frames) at tokens h = tt
leads-map_end (Map pairs key ∷ frames) phase.FirstKey tokens h =
    leads-end frames h.0 (tokens ++ sign EndMap ∷ []) (map_of pairs) (object no_members) h.1.0 (ap map_of h.2) (one-more tokens h.0 (sign BeginMap ∷ []) (sign EndMap ∷ []) h.1.1)
leads-map_end (Map pairs key ∷ frames) phase.Later tokens h =
    let s : Syntax = object (members_of (h.1 ++ h.2 ∷ [])) in
    leads-end frames h.0 (tokens ++ sign EndMap ∷ []) (map_of pairs) s h.3.0
    (ap map_of (h.4 ∙ ap (put_each []) (sym (pairs-of (h.1 ++ h.2 ∷ [])))))
    (one-more tokens h.0 (sign BeginMap ∷ each_member h.1 ++ member_text h.2) (sign EndMap ∷ []) h.3.1
    ∙ ap (λ t. h.0 ++ (sign BeginMap ∷ t ++ sign EndMap ∷ [])) (sym (members-tokens h.1 h.2)))
leads-map_end (Map pairs key ∷ frames) phase.Value tokens h = tt
leads-map_end (Map pairs key ∷ frames) phase.FirstItem tokens h = tt
leads-map_end (Map pairs key ∷ frames) phase.Key tokens h = tt
leads-map_end (Map pairs key ∷ frames) phase.Colon tokens h = tt

leads-array_end : (frames : List Frame) (at : Phase) (tokens : List Token) → Represents frames at tokens → Leads (array_ended frames at) (tokens ++ sign EndArray ∷ [])
leads-array_end [] at tokens h = tt
leads-array_end (Map pairs key ∷ frames) at tokens h = tt
leads-array_end (Array items ∷ frames) phase.FirstItem tokens h =
    leads-end frames h.0 (tokens ++ sign EndArray ∷ []) (array_of items) (elements no_elements) h.1.0 (ap array_of h.2) (one-more tokens h.0 (sign BeginArray ∷ []) (sign EndArray ∷ []) h.1.1)
leads-array_end (Array items ∷ frames) phase.Later tokens h =
    let s : Syntax = elements (elements_of (h.1 ++ h.2 ∷ [])) in
    leads-end frames h.0 (tokens ++ sign EndArray ∷ []) (array_of items) s h.3.0
    (ap array_of (h.4 ∙ sym (values-of (h.1 ++ h.2 ∷ []))))
    (one-more tokens h.0 (sign BeginArray ∷ each_item h.1 ++ tokens_in h.2) (sign EndArray ∷ []) h.3.1
    ∙ ap (λ t. h.0 ++ (sign BeginArray ∷ t ++ sign EndArray ∷ [])) (sym (items-tokens h.1 h.2)))
leads-array_end (Array items ∷ frames) phase.Value tokens h = tt
leads-array_end (Array items ∷ frames) phase.FirstKey tokens h = tt
leads-array_end (Array items ∷ frames) phase.Key tokens h = tt
leads-array_end (Array items ∷ frames) phase.Colon tokens h = tt

leads-colon : (frames : List Frame) (at : Phase) (tokens : List Token) → Represents frames at tokens → Leads (colon_read frames at) (tokens ++ sign Colon ∷ [])
leads-colon [] phase.Colon tokens h = absurd h
leads-colon (Array items ∷ frames) phase.Colon tokens h = absurd h
leads-colon (Map pairs key ∷ frames) phase.Colon tokens h =
    (h.0, h.1, h.2.0, h.3, one-more tokens h.0 (sign BeginMap ∷ each_member h.1 ++ text_token key ∷ []) (sign Colon ∷ []) h.2.1 ∙ simp append_assoc)
leads-colon frames phase.Value tokens h = tt
leads-colon frames phase.FirstItem tokens h = tt
leads-colon frames phase.FirstKey tokens h = tt
leads-colon frames phase.Key tokens h = tt
leads-colon frames phase.Later tokens h = tt

leads-comma : (frames : List Frame) (at : Phase) (tokens : List Token) → Represents frames at tokens → Leads (comma_read frames at) (tokens ++ sign Comma ∷ [])
leads-comma [] phase.Later tokens h = tt
leads-comma (Array items ∷ frames) phase.Later tokens h = (
  h.0,
  h.1 ++ h.2 ∷ [],
  h.3.0,
  h.4,
  one-more tokens h.0 (sign BeginArray ∷ each_item h.1 ++ tokens_in h.2) (sign Comma ∷ []) h.3.1 ∙ ap (λ t. h.0 ++ sign BeginArray ∷ t) (each_item-push h.1 h.2),
)
leads-comma (Map pairs key ∷ frames) phase.Later tokens h = (
  h.0,
  h.1 ++ h.2 ∷ [],
  (h.3.0, one-more tokens h.0 (sign BeginMap ∷ each_member h.1 ++ member_text h.2) (sign Comma ∷ []) h.3.1 ∙ ap (λ t. h.0 ++ sign BeginMap ∷ t) (each_member-push h.1 h.2)),
  h.4,
)
leads-comma frames phase.Value tokens h = tt
leads-comma frames phase.FirstItem tokens h = tt
leads-comma frames phase.FirstKey tokens h = tt
leads-comma frames phase.Key tokens h = tt
leads-comma frames phase.Colon tokens h = tt

leads-text : (t : List ℕ) (frames : List Frame) (at : Phase) (tokens : List Token) → Represents frames at tokens → Leads (step frames at (text_token t)) (tokens ++ text_token t ∷ [])
unfolding step
leads-text t frames phase.Value tokens h = leads-scalar (text t) (text_token t) frames phase.Value tokens refl refl h
leads-text t frames phase.FirstItem tokens h = leads-scalar (text t) (text_token t) frames phase.FirstItem tokens refl refl h
leads-text t frames phase.FirstKey tokens h = leads-key t frames phase.FirstKey tokens refl h
leads-text t frames phase.Key tokens h = leads-key t frames phase.Key tokens refl h
leads-text t frames phase.Colon tokens h = tt
leads-text t frames phase.Later tokens h = tt

leads-word : (value : Tree) (frames : List Frame) (at : Phase) (tokens : List Token) → Represents frames at tokens → Leads (step frames at (word_token value)) (tokens ++ word_token value ∷ [])
unfolding step
leads-word value frames phase.Value tokens h = leads-scalar (word value) (word_token value) frames phase.Value tokens refl refl h
leads-word value frames phase.FirstItem tokens h = leads-scalar (word value) (word_token value) frames phase.FirstItem tokens refl refl h
leads-word value frames phase.FirstKey tokens h = tt
leads-word value frames phase.Key tokens h = tt
leads-word value frames phase.Colon tokens h = tt
leads-word value frames phase.Later tokens h = tt

-- each step leads where the grammar leads
pub leads : (frames : List Frame) (at : Phase) (token : Token) (tokens : List Token) → Represents frames at tokens → Leads (step frames at token) (tokens ++ token ∷ [])
unfolding step
leads frames at (text_token t) tokens h = leads-text t frames at tokens h
leads frames at (word_token value) tokens h = leads-word value frames at tokens h
leads frames at (sign BeginMap) tokens h = leads-map frames at tokens h
leads frames at (sign EndMap) tokens h = leads-map_end frames at tokens h
leads frames at (sign BeginArray) tokens h = leads-array frames at tokens h
leads frames at (sign EndArray) tokens h = leads-array_end frames at tokens h
leads frames at (sign Colon) tokens h = leads-colon frames at tokens h
leads frames at (sign Comma) tokens h = leads-comma frames at tokens h

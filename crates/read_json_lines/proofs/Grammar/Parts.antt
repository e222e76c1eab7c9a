-- The tokens of maps and of lists of maps: how they continue, and that they can be read in only one way.
use Rattle.std.proofs.Common.{◌≡◌, List, [], ◌∷◌, ◌++◌, ◌⊎◌, inl, inr, refl, ap, ap₂, sym, ◌∙◌, append_assoc}
use Rattle.std.specs.List.{flat_map}
use Rattle.std.proofs.lemmas.List.{append-nil}
use Rattle.std.proofs.lemmas.Grind.{flat_map-append}
use Rattle.mlr_spec.specs.declared.json.JsonMark.TheVariants.{BeginMap, EndArray, Comma}
use Rattle.mlr_spec.specs.JsonTokens.{Token, sign}
use Rattle.mlr_spec.specs.JsonGrammar.{Syntax, object, Members, tokens_in, element_tokens}
use Rattle.mlr_json.specs.declared.frame.Phase.TheVariants as phase
use Rattle.mlr_json.proofs.GrammarRuns.{run, run_on, run-whole}
use Rattle.mlr_json.proofs.GrammarOutcome.{run-append, begins-run}
use Rattle.read_json_lines.specs.Grammar.{Part, one, list, objects, part_tokens, part_maps, stream_tokens, stream_maps, comma_after}
use Rattle.read_json_lines.proofs.Grammar.Flows.{part_value, part-value}

pub join-right : (a b c d : List Token) → ((a ++ b) ++ c) ++ d ≡ a ++ (b ++ (c ++ d))
join-right a b c d = simp append_assoc

-- ---- one more part, and one more map of a list

pub parts-push : (parts : List Part) (p : Part) (rest : List Token) → stream_tokens (parts ++ p ∷ []) ++ rest ≡ stream_tokens parts ++ (part_tokens p ++ rest)
parts-push parts p rest =
    ap (λ t. t ++ rest) (flat_map-append part_tokens parts (p ∷ []) ∙ ap (λ t. stream_tokens parts ++ t) (append-nil (part_tokens p)))
    ∙ append_assoc (stream_tokens parts) (part_tokens p) rest

pub maps-push : (parts : List Part) (p : Part) → stream_maps (parts ++ p ∷ []) ≡ stream_maps parts ++ part_maps p
maps-push parts p = flat_map-append part_maps parts (p ∷ []) ∙ ap (λ t. stream_maps parts ++ t) (append-nil (part_maps p))

-- each map, followed by a comma
abbrev pub each_map : List Members → List Token
each_map maps = flat_map (λ m. tokens_in (object m) ++ sign Comma ∷ []) maps

pub each-comma : (maps : List Members) → element_tokens (objects maps) ++ comma_after maps ≡ each_map maps
each-comma [] = refl
each-comma (m ∷ []) = swap (tokens_in (object m)) (sign Comma ∷ [])
  where
    swap : (a b : List Token) → (a ++ []) ++ b ≡ (a ++ b) ++ []
    swap a b = simp (append_assoc, append-nil)
each-comma (m ∷ k ∷ maps) =
    regroup (tokens_in (object m)) (sign Comma ∷ []) (element_tokens (objects (k ∷ maps))) (sign Comma ∷ [])
    ∙ ap (λ t. (tokens_in (object m) ++ sign Comma ∷ []) ++ t) (each-comma (k ∷ maps))
  where
    regroup : (a b c d : List Token) → (a ++ (b ++ c)) ++ d ≡ (a ++ b) ++ (c ++ d)
    regroup a b c d = simp append_assoc

pub comma-push : (maps : List Members) (m : Members) → comma_after (maps ++ m ∷ []) ≡ sign Comma ∷ []
comma-push [] m = refl
comma-push (k ∷ maps) m = refl

pub list-push : (maps : List Members) (m : Members) → element_tokens (objects (maps ++ m ∷ [])) ≡ (element_tokens (objects maps) ++ comma_after maps) ++ tokens_in (object m)
list-push [] m = append-nil (tokens_in (object m))
list-push (k ∷ []) m = swap (tokens_in (object k)) (sign Comma ∷ []) (tokens_in (object m))
  where
    swap : (a b c : List Token) → a ++ (b ++ (c ++ [])) ≡ ((a ++ []) ++ b) ++ c
    swap a b c = simp (append_assoc, append-nil)
list-push (k ∷ l ∷ maps) m =
    ap (λ t. tokens_in (object k) ++ (sign Comma ∷ [] ++ t)) (list-push (l ∷ maps) m)
    ∙ regroup (tokens_in (object k)) (sign Comma ∷ []) (element_tokens (objects (l ∷ maps))) (sign Comma ∷ []) (tokens_in (object m))
  where
    regroup : (a b c d e : List Token) → a ++ (b ++ ((c ++ d) ++ e)) ≡ ((a ++ (b ++ c)) ++ d) ++ e
    regroup a b c d e = simp append_assoc

-- ---- only one complete value is a prefix of the tokens

-- of two prefixes of a list, one is a prefix of the other
prefixes : {A : Type 0} (a b x y : List A) → a ++ x ≡ b ++ y → ((z : List A) × (b ≡ a ++ z) × (x ≡ z ++ y)) ⊎ ((z : List A) × (a ≡ b ++ z) × (y ≡ z ++ x))
prefixes [] b x y e = inl (b, refl, e)
prefixes (u ∷ a) [] x y e = inr (u ∷ a, refl, sym e)
prefixes (u ∷ a) (v ∷ b) x y e =
    let same : u ≡ v = cc in
    let tails : a ++ x ≡ b ++ y = cc in
    elim (prefixes a b x y tails) [
      | inl h ↦ inl (h.0, ap₂ (λ p q. p ∷ q) (sym same) h.1, h.2)
      | inr h ↦ inr (h.0, ap₂ (λ p q. p ∷ q) same h.1, h.2)
    ]

nothing-more : (a b : Syntax) (z : List Token) → tokens_in b ≡ tokens_in a ++ z → z ≡ []
nothing-more a b [] e = refl
nothing-more a b (u ∷ z) e =
    absurd (begins-run (tokens_in b) (record { syntax = b; more = []; whole = append-nil (tokens_in b) })
    (ap (run [] phase.Value) e ∙ run-append [] phase.Value (tokens_in a) (u ∷ z) ∙ ap (λ s. run_on s (u ∷ z)) (run-whole a)))

pub one-value : (a b : Syntax) (x y : List Token) → tokens_in a ++ x ≡ tokens_in b ++ y → x ≡ y
one-value a b x y e = elim (prefixes (tokens_in a) (tokens_in b) x y e) [
  | inl h ↦ h.2 ∙ ap (λ z. z ++ y) (nothing-more a b h.0 h.1)
  | inr h ↦ sym (h.2 ∙ ap (λ z. z ++ x) (nothing-more b a h.0 h.1))
]

-- in a stream of parts, the tokens after complete parts are parts
pub parts-following : (parts all : List Part) (rest : List Token) → stream_tokens parts ++ rest ≡ stream_tokens all → (more : List Part) × (rest ≡ stream_tokens more)
parts-following [] all rest e = (all, e)
parts-following (one m ∷ parts) [] rest e = absurd cc
parts-following (list maps ∷ parts) [] rest e = absurd cc
parts-following (p ∷ parts) (q ∷ all) rest e =
    parts-following parts all rest
    (one-value (part_value p) (part_value q) (stream_tokens parts ++ rest) (stream_tokens all)
    (ap (λ t. t ++ (stream_tokens parts ++ rest)) (sym (part-value p)) ∙ sym (append_assoc (part_tokens p) (stream_tokens parts) rest) ∙ e
    ∙ ap (λ t. t ++ stream_tokens all) (part-value q)))

-- a token that is allowed after a comma of a list of maps, or first in the list
abbrev pub MayCome : Token → Type 0
MayCome t = (t ≡ sign BeginMap) ⊎ (t ≡ sign EndArray)

pub list-following : (maps all : List Members) (t : Token) (more rest : List Token) → each_map maps ++ t ∷ more ≡ element_tokens (objects all) ++ sign EndArray ∷ rest → MayCome t
list-following [] [] t more rest e = inr cc
list-following [] (n ∷ all) t more rest e = inl cc
list-following (m ∷ maps) [] t more rest e = absurd cc
list-following (m ∷ maps) (n ∷ []) t more rest e =
    let left : sign Comma ∷ (each_map maps ++ t ∷ more) ≡ sign EndArray ∷ rest =
    one-value (object m) (object n) (sign Comma ∷ (each_map maps ++ t ∷ more)) (sign EndArray ∷ rest)
    (sym (join-right (tokens_in (object m)) (sign Comma ∷ []) (each_map maps) (t ∷ more)) ∙ e ∙ ap (λ x. x ++ sign EndArray ∷ rest) (append-nil (tokens_in (object n)))) in
    absurd cc
list-following (m ∷ maps) (n ∷ k ∷ all) t more rest e =
    let left : sign Comma ∷ (each_map maps ++ t ∷ more) ≡ sign Comma ∷ (element_tokens (objects (k ∷ all)) ++ sign EndArray ∷ rest) =
    one-value (object m) (object n) (sign Comma ∷ (each_map maps ++ t ∷ more)) (sign Comma ∷ (element_tokens (objects (k ∷ all)) ++ sign EndArray ∷ rest))
    (sym (join-right (tokens_in (object m)) (sign Comma ∷ []) (each_map maps) (t ∷ more)) ∙ e
    ∙ append_assoc (tokens_in (object n)) (sign Comma ∷ element_tokens (objects (k ∷ all))) (sign EndArray ∷ rest)) in
    list-following maps (k ∷ all) t more rest cc

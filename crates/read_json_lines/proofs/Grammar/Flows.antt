-- The machine of values over a stream, where a value may follow a complete one. Tokens that it doesn't accept
-- begin no values.
use Rattle.std.proofs.Common.{◌≡◌, List, [], ◌∷◌, ◌++◌, map, refl, ap, ap₂, sym, subst, ◌∙◌, append_assoc}
use Rattle.std.specs.List.{flat_map}
use Rattle.std.proofs.lemmas.List.{append-nil}
use Rattle.std.proofs.lemmas.Grind.{flat_map-append}
use Rattle.mlr_spec.specs.JsonTokens.{Token}
use Rattle.mlr_spec.specs.JsonGrammar.{Syntax, object, elements, tokens_in, Begins}
use Rattle.mlr_json.specs.declared.frame.Frame.{Frame}
use Rattle.mlr_json.specs.declared.frame.Phase.{Phase}
use Rattle.mlr_json.specs.declared.frame.Phase.TheVariants as phase
use Rattle.mlr_json.specs.Machine.{Step, on, whole, wrong, step}
use Rattle.mlr_json.proofs.Grammar.{Represents, Leads, leads}
use Rattle.mlr_json.proofs.GrammarRuns.{run, run_on, run-cons, run-whole, represents-begins}
use Rattle.mlr_json.proofs.GrammarOutcome.{run-push, run_on-nil}
use Rattle.read_json_lines.specs.Grammar.{Part, one, list, objects, part_tokens, stream_tokens, BeginsValues, BeginsRecords}

-- the step after tokens; after each complete value the machine starts again
abbrev pub flow : List Frame → Phase → List Token → Step
flow frames at [] = on frames at
flow frames at (token ∷ tokens) = elim (step frames at token) [
  | on more next ↦ flow more next tokens
  | whole value ↦ flow [] phase.Value tokens
  | wrong ↦ wrong
]

abbrev pub flow_on : Step → List Token → Step
flow_on (on frames at) tokens = flow frames at tokens
flow_on (whole value) tokens = flow [] phase.Value tokens
flow_on wrong tokens = wrong

flow-cons : (frames : List Frame) (at : Phase) (token : Token) (tokens : List Token) → flow frames at (token ∷ tokens) ≡ flow_on (step frames at token) tokens
flow-cons frames at token tokens = elim (step frames at token) as (λ s. elim s as (λ _. Step) [
  | on more next ↦ flow more next tokens
  | whole value ↦ flow [] phase.Value tokens
  | wrong ↦ wrong
] ≡ flow_on s tokens) [
  | on more next ↦ refl
  | whole value ↦ refl
  | wrong ↦ refl
]

flow-append : (frames : List Frame) (at : Phase) (xs ys : List Token) → flow frames at (xs ++ ys) ≡ flow_on (flow frames at xs) ys
flow-append frames at [] ys = refl
flow-append frames at (x ∷ xs) ys =
    flow-cons frames at x (xs ++ ys)
    ∙ by (step frames at x) (λ more next. flow-append more next xs ys)
    ∙ ap (λ s. flow_on s ys) (sym (flow-cons frames at x xs))
  where
    by : (s : Step) → ((more : List Frame) (next : Phase) → flow more next (xs ++ ys) ≡ flow_on (flow more next xs) ys) → flow_on s (xs ++ ys) ≡ flow_on (flow_on s xs) ys
    by (on more next) later = later more next
    by (whole value) later = later [] phase.Value
    by wrong later = refl

-- the steps are those of a run, except for the tokens that follow a complete value
abbrev Goes : Step → Step → Type 0
Goes (on frames at) flowed = flowed ≡ on frames at
Goes (whole value) flowed = flowed ≡ on [] phase.Value
Goes wrong flowed = Unit {0}

flow-run : (frames : List Frame) (at : Phase) (tokens : List Token) → Goes (run frames at tokens) (flow frames at tokens)
flow-run frames at [] = refl
flow-run frames at (x ∷ xs) =
    subst (λ s. Goes s (flow frames at (x ∷ xs))) (sym (run-cons frames at x xs))
    (subst (Goes (run_on (step frames at x) xs)) (sym (flow-cons frames at x xs))
    (by (step frames at x) xs (λ more next. flow-run more next xs)))
  where
    by : (s : Step) (ys : List Token) → ((more : List Frame) (next : Phase) → Goes (run more next ys) (flow more next ys)) → Goes (run_on s ys) (flow_on s ys)
    by (on more next) ys later = later more next
    by (whole value) [] later = refl
    by (whole value) (y ∷ ys) later = tt
    by wrong ys later = tt

flow-whole : (s : Syntax) (rest : List Token) → flow [] phase.Value (tokens_in s ++ rest) ≡ flow [] phase.Value rest
flow-whole s rest =
    flow-append [] phase.Value (tokens_in s) rest
    ∙ ap (λ t. flow_on t rest) (subst (λ r. Goes r (flow [] phase.Value (tokens_in s))) (run-whole s) (flow-run [] phase.Value (tokens_in s)))

pub flow-values : (values : List Syntax) (rest : List Token) → flow [] phase.Value (flat_map tokens_in values ++ rest) ≡ flow [] phase.Value rest
flow-values [] rest = refl
flow-values (s ∷ values) rest =
    ap (flow [] phase.Value) (append_assoc (tokens_in s) (flat_map tokens_in values) rest)
    ∙ flow-whole s (flat_map tokens_in values ++ rest) ∙ flow-values values rest

-- ---- parts as values

abbrev pub part_value : Part → Syntax
part_value (one m) = object m
part_value (list maps) = elements (objects maps)

pub part-value : (p : Part) → part_tokens p ≡ tokens_in (part_value p)
part-value (one m) = refl
part-value (list maps) = refl

pub stream-values : (parts : List Part) → stream_tokens parts ≡ flat_map tokens_in (map part_value parts)
stream-values [] = refl
stream-values (p ∷ parts) = ap (λ t. t ++ stream_tokens parts) (part-value p) ∙ ap (λ t. tokens_in (part_value p) ++ t) (stream-values parts)

pub records-values : (tokens : List Token) → BeginsRecords tokens → BeginsValues tokens
records-values tokens h = record { values = map part_value h.parts; more = h.more; whole = h.whole ∙ stream-values h.parts }

-- ---- the tokens after complete parts

pub join-middle : (a b c d : List Token) → ((a ++ b) ++ c) ++ d ≡ a ++ ((b ++ c) ++ d)
join-middle a b c d = simp append_assoc

-- the machine of values is in this state after these tokens
pub record Reaches (tokens : List Token) (frames : List Frame) (at : Phase) : Type 0 where
  pub represents : Represents frames at tokens
  pub runs : run [] phase.Value tokens ≡ on frames at

pub reaches-push : (tokens : List Token) (frames : List Frame) (at : Phase) (t : Token) (more : List Frame) (next : Phase)
    → Reaches tokens frames at → step frames at t ≡ on more next → Reaches (tokens ++ t ∷ []) more next
reaches-push tokens frames at t more next h is = record {
  represents = subst (λ s. Leads s (tokens ++ t ∷ [])) is (leads frames at t tokens h.represents);
  runs = run-push [] phase.Value tokens t frames at h.runs ∙ run_on-nil (step frames at t) ∙ is;
}

module _ (parts : List Part) (tokens : List Token) (frames : List Frame) (at : Phase) (h : Reaches tokens frames at) where
  pub flow-following : flow [] phase.Value (stream_tokens parts ++ tokens) ≡ on frames at
  flow-following =
      ap (λ t. flow [] phase.Value (t ++ tokens)) (stream-values parts) ∙ flow-values (map part_value parts) tokens
      ∙ subst (λ r. Goes r (flow [] phase.Value tokens)) h.runs (flow-run [] phase.Value tokens)

  -- a token that isn't allowed
  pub no-values : (t : Token) → step frames at t ≡ wrong → BeginsValues ((stream_tokens parts ++ tokens) ++ t ∷ []) → ⊥
  no-values t is begins =
      let stuck : flow [] phase.Value ((stream_tokens parts ++ tokens) ++ t ∷ []) ≡ wrong =
      flow-append [] phase.Value (stream_tokens parts ++ tokens) (t ∷ []) ∙ ap (λ s. flow_on s (t ∷ [])) flow-following ∙ flow-cons frames at t [] ∙ ap (λ s. flow_on s []) is in
      let all : flow [] phase.Value (flat_map tokens_in begins.values) ≡ wrong =
      ap (flow [] phase.Value) (sym begins.whole) ∙ flow-append [] phase.Value ((stream_tokens parts ++ tokens) ++ t ∷ []) begins.more ∙ ap (λ s. flow_on s begins.more) stuck in
      let ends : flow [] phase.Value (flat_map tokens_in begins.values) ≡ on [] phase.Value =
      ap (flow [] phase.Value) (sym (append-nil (flat_map tokens_in begins.values))) ∙ flow-values begins.values [] in
      let e : on [] phase.Value ≡ wrong = sym ends ∙ all in
      cc

  -- a token that is allowed
  pub some-values : (t : Token) → (step frames at t ≡ wrong → ⊥) → BeginsValues ((stream_tokens parts ++ tokens) ++ t ∷ [])
  some-values t right = following (by (step frames at t) refl)
    where
      by : (s : Step) → step frames at t ≡ s → Begins (tokens ++ t ∷ [])
      by (on more next) is = represents-begins more next (tokens ++ t ∷ []) (reaches-push tokens frames at t more next h is).represents
      by (whole value) is =
          let came = subst (λ s. Leads s (tokens ++ t ∷ [])) is (leads frames at t tokens h.represents) in
          record { syntax = came.0; more = []; whole = append-nil (tokens ++ t ∷ []) ∙ came.1 }
      by wrong is = absurd (right is)

      following : Begins (tokens ++ t ∷ []) → BeginsValues ((stream_tokens parts ++ tokens) ++ t ∷ [])
      following b = record {
        values = map part_value parts ++ b.syntax ∷ [];
        more = b.more;
        whole =
            join-middle (stream_tokens parts) tokens (t ∷ []) b.more
            ∙ ap₂ (λ x y. x ++ y) (stream-values parts) (b.whole ∙ sym (append-nil (tokens_in b.syntax)))
            ∙ sym (flat_map-append tokens_in (map part_value parts) (b.syntax ∷ []));
      }

  -- with an open bracket the tokens are no complete stream
  pub no-stream : (is_open : (frames ≡ []) → ⊥) (other : List Part) → stream_tokens parts ++ tokens ≡ stream_tokens other → ⊥
  no-stream is_open other is =
      let ends : flow [] phase.Value (stream_tokens other) ≡ on [] phase.Value =
      ap (flow [] phase.Value) (stream-values other ∙ sym (append-nil (flat_map tokens_in (map part_value other)))) ∙ flow-values (map part_value other) [] in
      let e : on frames at ≡ on [] phase.Value = sym flow-following ∙ ap (flow [] phase.Value) is ∙ ends in
      is_open cc

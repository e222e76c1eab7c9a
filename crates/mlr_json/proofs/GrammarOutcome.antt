-- The outcome of the machine is what the grammar says of the text, and the grammar says nothing else.
use Rattle.std.proofs.Common.{◌≡◌, ℕ, zero, suc, ◌+◌, ◌<◌, ◌≤◌, Bool, true, false, cond, List, [], ◌∷◌, ◌++◌, length, take, Option, Some, None, ◌⊎◌, inl, inr, refl, ap, sym, subst, ◌∙◌, append_assoc, arith, ltb, zero-add}
use Rattle.std.proofs.Math.Seq.{take-length}
use Rattle.std.proofs.lemmas.List.{append-nil, map-append, take-append-le, length-append}
use Rattle.std.proofs.lemmas.List.Sums.{sum_by-append}
use Rattle.std.proofs.lemmas.Bool.{ltb-true, ltb-false, cases_Bool}
use Rattle.std.specs.List.{count_by}
use Rattle.mlr_spec.specs.declared.json.JsonMark.TheVariants.{BeginMap, EndMap, BeginArray, EndArray, Colon, Comma}
use Rattle.mlr_spec.specs.Tree.{Tree}
use Rattle.mlr_spec.specs.JsonTokens.{Token, sign, text_token, word_token}
use Rattle.mlr_spec.specs.JsonGrammar.{Syntax, tokens_in, value_of, Begins, is_opening, is_closing, level_of, IsShallow, bare, IsWrongAt, IsCutAt, IsDeepAt, text_value}
use Rattle.mlr_json.specs.declared.frame.Frame.{Frame}
use Rattle.mlr_json.specs.declared.frame.Frame.TheVariants.{Array, Map}
use Rattle.mlr_json.specs.declared.frame.Phase.{Phase}
use Rattle.mlr_json.specs.declared.frame.Phase.TheVariants as phase
use Rattle.mlr_json.specs.Machine.{Step, on, whole, wrong, with_value, with_key, step, step_mark, map_ended, array_ended, comma_read, colon_read, Outcome, read, syntax, deep, outcome_after, outcome_cut, outcome_from}
use Rattle.mlr_json.proofs.Grammar.{Represents, Leads, leads}
use Rattle.mlr_json.proofs.GrammarRuns.{represents-begins, whole_then, run, run_on, run-cons, run-whole}

-- ---- how many frames there are

abbrev pub one_if : Bool → ℕ
one_if b = cond b 1 0

-- a step opens and closes as many brackets as its token
abbrev pub Balanced : Step → ℕ → Token → Type 0
Balanced (on frames at) n t = length frames + one_if (is_closing t) ≡ n + one_if (is_opening t)
Balanced (whole value) n t = one_if (is_closing t) ≡ n + one_if (is_opening t)
Balanced wrong n t = Unit {0}

balanced-value : (value : Tree) (frames : List Frame) (t : Token) (n : ℕ) → length frames + one_if (is_closing t) ≡ n + one_if (is_opening t) → Balanced (with_value value frames) n t
balanced-value value [] t n h = sym (zero-add (one_if (is_closing t))) ∙ h
balanced-value value (Array items ∷ frames) t n h = h
balanced-value value (Map pairs key ∷ frames) t n h = h

balanced-key : (key t : List ℕ) (frames : List Frame) → Balanced (with_key key frames) (length frames) (text_token t)
balanced-key key t [] = tt
balanced-key key t (Array items ∷ frames) = tt
balanced-key key t (Map pairs last ∷ frames) = refl

balanced-map_end : (frames : List Frame) (at : Phase) → Balanced (map_ended frames at) (length frames) (sign EndMap)
balanced-map_end [] at = tt
balanced-map_end (Array items ∷ frames) at = tt
balanced-map_end (Map pairs key ∷ frames) phase.FirstKey = balanced-value _ frames (sign EndMap) (suc (length frames)) (omega arith)
balanced-map_end (Map pairs key ∷ frames) phase.Later = balanced-value _ frames (sign EndMap) (suc (length frames)) (omega arith)
balanced-map_end (Map pairs key ∷ frames) phase.Value = tt
balanced-map_end (Map pairs key ∷ frames) phase.FirstItem = tt
balanced-map_end (Map pairs key ∷ frames) phase.Key = tt
balanced-map_end (Map pairs key ∷ frames) phase.Colon = tt

balanced-array_end : (frames : List Frame) (at : Phase) → Balanced (array_ended frames at) (length frames) (sign EndArray)
balanced-array_end [] at = tt
balanced-array_end (Map pairs key ∷ frames) at = tt
balanced-array_end (Array items ∷ frames) phase.FirstItem = balanced-value _ frames (sign EndArray) (suc (length frames)) (omega arith)
balanced-array_end (Array items ∷ frames) phase.Later = balanced-value _ frames (sign EndArray) (suc (length frames)) (omega arith)
balanced-array_end (Array items ∷ frames) phase.Value = tt
balanced-array_end (Array items ∷ frames) phase.FirstKey = tt
balanced-array_end (Array items ∷ frames) phase.Key = tt
balanced-array_end (Array items ∷ frames) phase.Colon = tt

balanced-colon : (frames : List Frame) (at : Phase) → Balanced (colon_read frames at) (length frames) (sign Colon)
balanced-colon frames phase.Colon = refl
balanced-colon frames phase.Value = tt
balanced-colon frames phase.FirstItem = tt
balanced-colon frames phase.FirstKey = tt
balanced-colon frames phase.Key = tt
balanced-colon frames phase.Later = tt

balanced-comma : (frames : List Frame) (at : Phase) → Balanced (comma_read frames at) (length frames) (sign Comma)
balanced-comma [] phase.Later = tt
balanced-comma (Array items ∷ frames) phase.Later = refl
balanced-comma (Map pairs key ∷ frames) phase.Later = refl
balanced-comma frames phase.Value = tt
balanced-comma frames phase.FirstItem = tt
balanced-comma frames phase.FirstKey = tt
balanced-comma frames phase.Key = tt
balanced-comma frames phase.Colon = tt

balanced-text : (t : List ℕ) (frames : List Frame) (at : Phase) → Balanced (step frames at (text_token t)) (length frames) (text_token t)
unfolding step
balanced-text t frames phase.Value = balanced-value (text_value t) frames (text_token t) (length frames) refl
balanced-text t frames phase.FirstItem = balanced-value (text_value t) frames (text_token t) (length frames) refl
balanced-text t frames phase.FirstKey = balanced-key t t frames
balanced-text t frames phase.Key = balanced-key t t frames
balanced-text t frames phase.Colon = tt
balanced-text t frames phase.Later = tt

balanced-word : (value : Tree) (frames : List Frame) (at : Phase) → Balanced (step frames at (word_token value)) (length frames) (word_token value)
unfolding step
balanced-word value frames phase.Value = balanced-value value frames (word_token value) (length frames) refl
balanced-word value frames phase.FirstItem = balanced-value value frames (word_token value) (length frames) refl
balanced-word value frames phase.FirstKey = tt
balanced-word value frames phase.Key = tt
balanced-word value frames phase.Colon = tt
balanced-word value frames phase.Later = tt

balanced-begin_map : (frames : List Frame) (at : Phase) → Balanced (step_mark frames at BeginMap) (length frames) (sign BeginMap)
balanced-begin_map frames phase.Value = omega arith
balanced-begin_map frames phase.FirstItem = omega arith
balanced-begin_map frames phase.FirstKey = tt
balanced-begin_map frames phase.Key = tt
balanced-begin_map frames phase.Colon = tt
balanced-begin_map frames phase.Later = tt

balanced-begin_array : (frames : List Frame) (at : Phase) → Balanced (step_mark frames at BeginArray) (length frames) (sign BeginArray)
balanced-begin_array frames phase.Value = omega arith
balanced-begin_array frames phase.FirstItem = omega arith
balanced-begin_array frames phase.FirstKey = tt
balanced-begin_array frames phase.Key = tt
balanced-begin_array frames phase.Colon = tt
balanced-begin_array frames phase.Later = tt

pub balanced : (frames : List Frame) (at : Phase) (t : Token) → Balanced (step frames at t) (length frames) t
unfolding step
balanced frames at (text_token t) = balanced-text t frames at
balanced frames at (word_token value) = balanced-word value frames at
balanced frames at (sign BeginMap) = balanced-begin_map frames at
balanced frames at (sign BeginArray) = balanced-begin_array frames at
balanced frames at (sign EndMap) = balanced-map_end frames at
balanced frames at (sign EndArray) = balanced-array_end frames at
balanced frames at (sign Colon) = balanced-colon frames at
balanced frames at (sign Comma) = balanced-comma frames at

pub count-push : (p : Token → Bool) (tokens : List Token) (t : Token) → count_by p (tokens ++ t ∷ []) ≡ count_by p tokens + one_if (p t)
count-push p tokens t = sum_by-append (λ x. cond (p x) 1 0) tokens (t ∷ []) ∙ ap (λ n. count_by p tokens + n) (zero-add (one_if (p t)))

take-all : {A : Type 0} (n : ℕ) (xs : List A) → length xs ≤ n → take n xs ≡ xs
take-all n [] h = take-nil n
  where
    take-nil : {B : Type 0} (k : ℕ) → take {A = B} k [] ≡ []
    take-nil zero = refl
    take-nil (suc k) = refl
take-all zero (x ∷ xs) h = absurd (omega arith)
take-all (suc n) (x ∷ xs) h = ap (λ t. x ∷ t) (take-all n xs (omega arith))

pub shallow-push : (tokens : List Token) (t : Token) → IsShallow tokens → level_of (tokens ++ t ∷ []) ≤ 100 → IsShallow (tokens ++ t ∷ [])
shallow-push tokens t h last n =
    elim (cases_Bool (ltb n (length (tokens ++ t ∷ [])))) [
      | inl below ↦
          let le : n ≤ length tokens = omega (arith, ltb-true n (length (tokens ++ t ∷ [])) below, length-append tokens (t ∷ [])) in
          subst (λ x. level_of x ≤ 100) (sym (take-append-le n tokens (t ∷ []) le)) (h n)
      | inr past ↦ subst (λ x. level_of x ≤ 100) (sym (take-all n (tokens ++ t ∷ []) (ltb-false n (length (tokens ++ t ∷ [])) past))) last
    ]

pub bare-push : (before : List (ℕ × Token)) (place : ℕ) (t : Token) → bare (before ++ (place, t) ∷ []) ≡ bare before ++ t ∷ []
bare-push before place t = map-append (λ x. x.1) before ((place, t) ∷ [])

-- ---- runs in parts

whole-append : (value : Tree) (zs ys : List Token) → whole_then value (zs ++ ys) ≡ run_on (whole_then value zs) ys
whole-append value [] ys = refl
whole-append value (z ∷ zs) ys = refl

step-append : (s : Step) (xs ys : List Token) → ((more : List Frame) (next : Phase) → run more next (xs ++ ys) ≡ run_on (run more next xs) ys) → run_on s (xs ++ ys) ≡ run_on (run_on s xs) ys
step-append (on more next) xs ys later = later more next
step-append (whole value) xs ys later = whole-append value xs ys
step-append wrong xs ys later = refl

pub run-append : (frames : List Frame) (at : Phase) (xs ys : List Token) → run frames at (xs ++ ys) ≡ run_on (run frames at xs) ys
run-append frames at [] ys = refl
run-append frames at (x ∷ xs) ys =
    run-cons frames at x (xs ++ ys) ∙ step-append (step frames at x) xs ys (λ more next. run-append more next xs ys) ∙ ap (λ s. run_on s ys) (sym (run-cons frames at x xs))

pub run-push : (frames : List Frame) (at : Phase) (xs : List Token) (y : Token) (more : List Frame) (next : Phase) → run frames at xs ≡ on more next → run frames at (xs ++ y ∷ []) ≡ run_on (step more next y) []
run-push frames at xs y more next h = run-append frames at xs (y ∷ []) ∙ ap (λ s. run_on s (y ∷ [])) h ∙ run-cons more next y []

pub run_on-nil : (s : Step) → run_on s [] ≡ s
run_on-nil (on more next) = refl
run_on-nil (whole value) = refl
run_on-nil wrong = refl

-- tokens that begin a value don't lead to nothing
pub begins-run : (tokens : List Token) → Begins tokens → run [] phase.Value tokens ≡ wrong → ⊥
begins-run tokens h is =
    let all : run [] phase.Value (tokens ++ h.more) ≡ wrong = run-append [] phase.Value tokens h.more ∙ ap (λ s. run_on s h.more) is in
    let done : whole (value_of h.syntax) ≡ wrong = sym (run-whole h.syntax) ∙ ap (run [] phase.Value) (sym h.whole) ∙ all in
    cc

-- ---- what was read so far

pub record Reads (before : List (ℕ × Token)) (frames : List Frame) (at : Phase) : Type 0 where
  pub represents : Represents frames at (bare before)
  pub runs : run [] phase.Value (bare before) ≡ on frames at
  pub level : count_by is_opening (bare before) ≡ count_by is_closing (bare before) + length frames
  pub shallow : IsShallow (bare before)

pub reads-nothing : Reads [] [] phase.Value
reads-nothing = record { represents = refl; runs = refl; level = refl; shallow = λ n. none n }
  where
    none : (n : ℕ) → level_of (take n []) ≤ 100
    none zero = omega arith
    none (suc n) = omega arith

level-frames : (before : List (ℕ × Token)) (frames : List Frame) (at : Phase) → Reads before frames at → level_of (bare before) ≡ length frames
level-frames before frames at h = let e : count_by is_opening (bare before) ≡ count_by is_closing (bare before) + length frames = h.level in omega arith

few-frames : (before : List (ℕ × Token)) (frames : List Frame) (at : Phase) → Reads before frames at → length frames ≤ 100
few-frames before frames at h =
    subst (λ n. n ≤ 100) (ap level_of (take-length (bare before)) ∙ level-frames before frames at h) (h.shallow (length (bare before)))

-- the level after one more token
pub level-push : (before : List (ℕ × Token)) (frames : List Frame) (at : Phase) (t : Token) (n : ℕ) → Reads before frames at
    → n + one_if (is_closing t) ≡ length frames + one_if (is_opening t)
    → count_by is_opening (bare before ++ t ∷ []) ≡ count_by is_closing (bare before ++ t ∷ []) + n
level-push before frames at t n h e =
    let l : count_by is_opening (bare before) ≡ count_by is_closing (bare before) + length frames = h.level in
    let o : count_by is_opening (bare before ++ t ∷ []) ≡ count_by is_opening (bare before) + one_if (is_opening t) = count-push is_opening (bare before) t in
    let c : count_by is_closing (bare before ++ t ∷ []) ≡ count_by is_closing (bare before) + one_if (is_closing t) = count-push is_closing (bare before) t in
    omega arith

pub reads-push : (before : List (ℕ × Token)) (frames : List Frame) (at : Phase) (place : ℕ) (t : Token) (more : List Frame) (next : Phase)
    → Reads before frames at → step frames at t ≡ on more next → length more ≤ 100 → Reads (before ++ (place, t) ∷ []) more next
reads-push before frames at place t more next h is few =
    let b = bare-push before place t in
    let level : count_by is_opening (bare before ++ t ∷ []) ≡ count_by is_closing (bare before ++ t ∷ []) + length more =
    level-push before frames at t (length more) h (subst (λ s. Balanced s (length frames) t) is (balanced frames at t)) in
    record {
      represents = subst (Represents more next) (sym b) (subst (λ s. Leads s (bare before ++ t ∷ [])) is (leads frames at t (bare before) h.represents));
      runs = ap (run [] phase.Value) b ∙ run-push [] phase.Value (bare before) t frames at h.runs ∙ run_on-nil (step frames at t) ∙ is;
      level = subst (λ x. count_by is_opening x ≡ count_by is_closing x + length more) (sym b) level;
      shallow = subst IsShallow (sym b) (shallow-push (bare before) t h.shallow (omega arith));
    }

-- ---- the outcome is what the grammar says

abbrev pub Holds : List (ℕ × Token) → Option ℕ → ℕ → Outcome → Type 0
Holds all stop end (read value) = (s : Syntax) × (bare all ≡ tokens_in s) × (stop ≡ None) × IsShallow (tokens_in s) × (value ≡ value_of s)
Holds all stop end (syntax place) = IsWrongAt all place ⊎ IsCutAt (record { tokens = all; stop = stop }) end place
Holds all stop end (deep place) = IsDeepAt all place

whole-stops : (all before following : List (ℕ × Token)) (place end p : ℕ) (t : Token) (value : Tree) (stop : Option ℕ) (frames : List Frame) (at : Phase)
    → all ≡ before ++ (p, t) ∷ following → Reads before frames at → step frames at t ≡ whole value → Holds all stop end (outcome_after value following stop)
whole-stops all before [] place end p t value None frames at parts h is =
    let b : bare all ≡ bare before ++ t ∷ [] = ap bare parts ∙ bare-push before p t in
    let came = subst (λ s. Leads s (bare before ++ t ∷ [])) is (leads frames at t (bare before) h.represents) in
    let level : count_by is_opening (bare before ++ t ∷ []) ≡ count_by is_closing (bare before ++ t ∷ []) + 0 =
    level-push before frames at t 0 h (zero-add (one_if (is_closing t)) ∙ subst (λ s. Balanced s (length frames) t) is (balanced frames at t)) in
    (came.0, b ∙ came.1, refl, subst IsShallow came.1 (shallow-push (bare before) t h.shallow (omega arith)), came.2)
whole-stops all before [] place end p t value (Some q) frames at parts h is =
    let b : bare all ≡ bare before ++ t ∷ [] = ap bare parts ∙ bare-push before p t in
    let came = subst (λ s. Leads s (bare before ++ t ∷ [])) is (leads frames at t (bare before) h.represents) in
    let level : count_by is_opening (bare before ++ t ∷ []) ≡ count_by is_closing (bare before ++ t ∷ []) + 0 =
    level-push before frames at t 0 h (zero-add (one_if (is_closing t)) ∙ subst (λ s. Balanced s (length frames) t) is (balanced frames at t)) in
    inr (record {
      begins = record { syntax = came.0; more = []; whole = append-nil (bare all) ∙ b ∙ came.1 };
      shallow = subst IsShallow (sym b) (shallow-push (bare before) t h.shallow (omega arith));
      stop = inl refl;
    })
whole-stops all before ((q, u) ∷ following) place end p t value stop frames at parts h is =
    let b : bare (before ++ (p, t) ∷ []) ≡ bare before ++ t ∷ [] = bare-push before p t in
    let came = subst (λ s. Leads s (bare before ++ t ∷ [])) is (leads frames at t (bare before) h.represents) in
    let level : count_by is_opening (bare before ++ t ∷ []) ≡ count_by is_closing (bare before ++ t ∷ []) + 0 =
    level-push before frames at t 0 h (zero-add (one_if (is_closing t)) ∙ subst (λ s. Balanced s (length frames) t) is (balanced frames at t)) in
    let ran : run [] phase.Value (bare (before ++ (p, t) ∷ [])) ≡ whole value =
    ap (run [] phase.Value) b ∙ run-push [] phase.Value (bare before) t frames at h.runs ∙ run_on-nil (step frames at t) ∙ is in
    inl (record {
      before = before ++ (p, t) ∷ [];
      token = u;
      following = following;
      parts = parts ∙ sym (append_assoc before ((p, t) ∷ []) ((q, u) ∷ following));
      begins = record { syntax = came.0; more = []; whole = append-nil (bare (before ++ (p, t) ∷ [])) ∙ b ∙ came.1 };
      shallow = subst IsShallow (sym b) (shallow-push (bare before) t h.shallow (omega arith));
      wrong = λ begins. begins-run (bare (before ++ (p, t) ∷ []) ++ u ∷ []) begins
          (run-append [] phase.Value (bare (before ++ (p, t) ∷ [])) (u ∷ []) ∙ ap (λ s. run_on s (u ∷ [])) ran);
    })

cut-holds : (all : List (ℕ × Token)) (end : ℕ) (stop : Option ℕ) (frames : List Frame) (at : Phase) → Reads all frames at → Holds all stop end (outcome_cut end stop)
cut-holds all end (Some place) frames at h = inr (record { begins = represents-begins frames at (bare all) h.represents; shallow = h.shallow; stop = inl refl })
cut-holds all end None frames at h = inr (record {
  begins = represents-begins frames at (bare all) h.represents;
  shallow = h.shallow;
  stop = inr (refl, refl, λ s is. let e : on frames at ≡ whole (value_of s) = sym h.runs ∙ ap (run [] phase.Value) is ∙ run-whole s in cc);
})

pub at_most_one : (b : Bool) → one_if b ≤ 1
at_most_one true = omega arith
at_most_one false = omega arith

abbrev pub outcome_on : ℕ → List (ℕ × Token) → Option ℕ → ℕ → Step → Outcome
outcome_on end tokens stop place (on more next) = cond (ltb 100 (length more)) (deep place) (outcome_from end more next tokens stop)
outcome_on end tokens stop place (whole value) = outcome_after value tokens stop
outcome_on end tokens stop place wrong = syntax place

pub outcome-step : (end : ℕ) (frames : List Frame) (at : Phase) (place : ℕ) (t : Token) (tokens : List (ℕ × Token)) (stop : Option ℕ)
    → outcome_from end frames at ((place, t) ∷ tokens) stop ≡ outcome_on end tokens stop place (step frames at t)
outcome-step end frames at place t tokens stop = elim (step frames at t) as (λ s. elim s as (λ _. Outcome) [
  | on more next ↦ cond (ltb 100 (length more)) (deep place) (outcome_from end more next tokens stop)
  | whole value ↦ outcome_after value tokens stop
  | wrong ↦ syntax place
] ≡ outcome_on end tokens stop place s) [
  | on more next ↦ refl
  | whole value ↦ refl
  | wrong ↦ refl
]

holds-step : (all before tokens : List (ℕ × Token)) (end : ℕ) (stop : Option ℕ) (frames : List Frame) (at : Phase) (place : ℕ) (t : Token)
    → all ≡ before ++ (place, t) ∷ tokens → Reads before frames at
    → ((more : List Frame) (next : Phase) → Reads (before ++ (place, t) ∷ []) more next → Holds all stop end (outcome_from end more next tokens stop))
    → (s : Step) → step frames at t ≡ s → Holds all stop end (outcome_on end tokens stop place s)
holds-step all before tokens end stop frames at place t parts h later wrong is =
    inl (record {
      before = before;
      token = t;
      following = tokens;
      parts = parts;
      begins = represents-begins frames at (bare before) h.represents;
      shallow = h.shallow;
      wrong = λ begins. begins-run (bare before ++ t ∷ []) begins (run-push [] phase.Value (bare before) t frames at h.runs ∙ run_on-nil (step frames at t) ∙ is);
    })
holds-step all before tokens end stop frames at place t parts h later (whole value) is = whole-stops all before tokens place end place t value stop frames at parts h is
holds-step all before tokens end stop frames at place t parts h later (on more next) is =
    elim (cases_Bool (ltb 100 (length more))) as (λ _. Holds all stop end (cond (ltb 100 (length more)) (deep place) (outcome_from end more next tokens stop))) [
      | inl past ↦
          let balance : length more + one_if (is_closing t) ≡ length frames + one_if (is_opening t) = subst (λ s. Balanced s (length frames) t) is (balanced frames at t) in
          let level : count_by is_opening (bare before ++ t ∷ []) ≡ count_by is_closing (bare before ++ t ∷ []) + length more = level-push before frames at t (length more) h balance in
          let few : length frames ≤ 100 = few-frames before frames at h in
          let many : 100 < length more = ltb-true 100 (length more) past in
          let opened : one_if (is_opening t) ≤ 1 = at_most_one (is_opening t) in
          rw past (record {
            before = before;
            token = t;
            following = tokens;
            parts = parts;
            begins = represents-begins more next (bare before ++ t ∷ []) (subst (λ s. Leads s (bare before ++ t ∷ [])) is (leads frames at t (bare before) h.represents));
            shallow = h.shallow;
            deep = omega arith;
          })
      | inr few ↦ rw few (later more next (reads-push before frames at place t more next h is (ltb-false 100 (length more) few)))
    ]

holds-from : (all before tokens : List (ℕ × Token)) (end : ℕ) (stop : Option ℕ) (frames : List Frame) (at : Phase) → all ≡ before ++ tokens → Reads before frames at
    → Holds all stop end (outcome_from end frames at tokens stop)
holds-from all before [] end stop frames at parts h =
    let e : all ≡ before = parts ∙ append-nil before in
    subst (λ x. Holds x stop end (outcome_cut end stop)) (sym e) (cut-holds before end stop frames at h)
holds-from all before ((place, t) ∷ tokens) end stop frames at parts h =
    subst (Holds all stop end) (sym (outcome-step end frames at place t tokens stop))
    (holds-step all before tokens end stop frames at place t parts h
    (λ more next reads. holds-from all (before ++ (place, t) ∷ []) tokens end stop more next (parts ∙ sym (append_assoc before ((place, t) ∷ []) tokens)) reads)
    (step frames at t) refl)

-- the outcome of all tokens
pub holds : (all : List (ℕ × Token)) (end : ℕ) (stop : Option ℕ) → Holds all stop end (outcome_from end [] phase.Value all stop)
holds all end stop = holds-from all [] all end stop [] phase.Value refl reads-nothing

-- An incomplete map on the machine's stack: how it continues, where it ends, and which tokens begin it.
use Rattle.std.proofs.Common.{◌≡◌, ℕ, ◌+◌, ◌<◌, ◌≤◌, List, [], ◌∷◌, ◌++◌, length, refl, ap, sym, subst, ◌∙◌, arith, zero-add}
use Rattle.std.proofs.lemmas.List.{append-nil}
use Rattle.std.specs.List.{count_by}
use Rattle.mlr_spec.specs.declared.json.JsonMark.TheVariants.{BeginMap}
use Rattle.mlr_spec.specs.Tree.{Tree, map_of}
use Rattle.mlr_spec.specs.JsonTokens.{Token, sign}
use Rattle.mlr_spec.specs.JsonGrammar.{Syntax, text, word, object, elements, Members, tokens_in, value_of, Begins, is_opening, is_closing, level_of, IsShallow, bare}
use Rattle.mlr_json.specs.declared.frame.Frame.{Frame}
use Rattle.mlr_json.specs.declared.frame.Phase.{Phase}
use Rattle.mlr_json.specs.declared.frame.Phase.TheVariants as phase
use Rattle.mlr_json.specs.Machine.{Step, on, whole, step}
use Rattle.mlr_json.proofs.Grammar.{Represents, Leads, leads}
use Rattle.mlr_json.proofs.GrammarRuns.{run, run-whole, represents-begins}
use Rattle.mlr_json.proofs.GrammarOutcome.{one_if, at_most_one, Balanced, balanced, shallow-push, bare-push, level-push, Reads, reads-push}
use Rattle.read_json_lines.specs.Grammar.{record_of, IsBegun}

-- a value whose tokens begin like those of a map is a map
pub object-begun : (s : Syntax) (rest : List Token) → sign BeginMap ∷ rest ≡ tokens_in s → (m : Members) × (s ≡ object m)
object-begun (text t) rest e = absurd cc
object-begun (word value) rest e = absurd cc
object-begun (object m) rest e = (m, refl)
object-begun (elements items) rest e = absurd cc

-- no bracket is open only before the first token
pub nothing-open : (at : Phase) (tokens : List Token) → Represents [] at tokens → tokens ≡ []
nothing-open phase.Value tokens h = h
nothing-open phase.FirstItem tokens h = absurd h
nothing-open phase.FirstKey tokens h = absurd h
nothing-open phase.Key tokens h = absurd h
nothing-open phase.Colon tokens h = absurd h
nothing-open phase.Later tokens h = absurd h

-- the tokens of an incomplete map, and the stack after them
pub record IsMapAt (done : List (ℕ × Token)) (frames : List Frame) (at : Phase) : Type 0 where
  pub reads : Reads done frames at
  pub few : length frames ≤ 100
  pub rest : List Token
  pub begins : bare done ≡ sign BeginMap ∷ rest

module _ (done : List (ℕ × Token)) (frames : List Frame) (at : Phase) (h : IsMapAt done frames at) where
  -- the tokens begin a map, and aren't all of it
  pub map-begun : IsBegun (bare done)
  map-begun =
      let b : Begins (bare done) = represents-begins frames at (bare done) h.reads.represents in
      by b.syntax b.more b.whole
    where
      by : (s : Syntax) (more : List Token) → bare done ++ more ≡ tokens_in s → IsBegun (bare done)
      by s [] e =
          let all : on frames at ≡ whole (value_of s) = sym h.reads.runs ∙ ap (run [] phase.Value) (sym (append-nil (bare done)) ∙ e) ∙ run-whole s in
          absurd cc
      by s (next ∷ more) e =
          let m = object-begun s (h.rest ++ next ∷ more) (sym (ap (λ x. x ++ next ∷ more) h.begins) ∙ e) in
          record { members = m.0; next = next; more = more; whole = e ∙ ap tokens_in m.1; shallow = h.reads.shallow }

  module _ (t : Token) where
    came : (s : Step) → step frames at t ≡ s → Leads s (bare done ++ t ∷ [])
    came s is = subst (λ x. Leads x (bare done ++ t ∷ [])) is (leads frames at t (bare done) h.reads.represents)

    begins-push : bare done ++ t ∷ [] ≡ sign BeginMap ∷ (h.rest ++ t ∷ [])
    begins-push = ap (λ x. x ++ t ∷ []) h.begins

    level-following : (n : ℕ) → n + one_if (is_closing t) ≡ length frames + one_if (is_opening t)
        → count_by is_opening (bare done ++ t ∷ []) ≡ count_by is_closing (bare done ++ t ∷ []) + n
    level-following n e = level-push done frames at t n h.reads e

    -- if the machine continues, the level is the height of its stack
    pub map-level : (more : List Frame) (next : Phase) → step frames at t ≡ on more next → level_of (bare done ++ t ∷ []) ≡ length more
    map-level more next is =
        let l : count_by is_opening (bare done ++ t ∷ []) ≡ count_by is_closing (bare done ++ t ∷ []) + length more =
        level-following (length more) (subst (λ s. Balanced s (length frames) t) is (balanced frames at t)) in
        omega arith

    pub map-deep : (more : List Frame) (next : Phase) → step frames at t ≡ on more next → 100 < length more → level_of (bare done ++ t ∷ []) ≡ 101
    map-deep more next is many =
        let balance : length more + one_if (is_closing t) ≡ length frames + one_if (is_opening t) = subst (λ s. Balanced s (length frames) t) is (balanced frames at t) in
        let few : length frames ≤ 100 = h.few in
        let one : one_if (is_opening t) ≤ 1 = at_most_one (is_opening t) in
        let l : level_of (bare done ++ t ∷ []) ≡ length more = map-level more next is in
        omega arith

    pub map-on : (more : List Frame) (next : Phase) → step frames at t ≡ on more next → length more ≤ 100 → IsMapAt (done ++ (0, t) ∷ []) more next
    map-on more next is few = record {
      reads = reads-push done frames at 0 t more next h.reads is few;
      few = few;
      rest = h.rest ++ t ∷ [];
      begins = bare-push done 0 t ∙ begins-push;
    }

    -- a bracket remains open
    pub map-open : (next : Phase) → step frames at t ≡ on [] next → ⊥
    map-open next is =
        let none : bare done ++ t ∷ [] ≡ [] = nothing-open next (bare done ++ t ∷ []) (came (on [] next) is) in
        let e : sign BeginMap ∷ (h.rest ++ t ∷ []) ≡ [] = sym begins-push ∙ none in
        cc

    -- the tokens can be completed to a map
    pub map-goes : (more : List Frame) (next : Phase) → step frames at t ≡ on more next → (m : Members) × (rest : List Token) × ((bare done ++ t ∷ []) ++ rest ≡ tokens_in (object m))
    map-goes more next is =
        let b : Begins (bare done ++ t ∷ []) = represents-begins more next (bare done ++ t ∷ []) (came (on more next) is) in
        let m = object-begun b.syntax ((h.rest ++ t ∷ []) ++ b.more) (sym (ap (λ x. x ++ b.more) begins-push) ∙ b.whole) in
        (m.0, b.more, b.whole ∙ ap tokens_in m.1)

    -- the map is complete
    pub record IsWhole (value : Tree) : Type 0 where
      pub members : Members
      pub tokens_are : bare done ++ t ∷ [] ≡ tokens_in (object members)
      pub value_is : value ≡ map_of (record_of members)
      pub shallow : IsShallow (tokens_in (object members))
      pub level : level_of (bare done ++ t ∷ []) ≤ 100

    pub map-whole : (value : Tree) → step frames at t ≡ whole value → IsWhole value
    map-whole value is =
        let c = came (whole value) is in
        let m = object-begun c.0 (h.rest ++ t ∷ []) (sym begins-push ∙ c.1) in
        let tokens : bare done ++ t ∷ [] ≡ tokens_in (object m.0) = c.1 ∙ ap tokens_in m.1 in
        let l : count_by is_opening (bare done ++ t ∷ []) ≡ count_by is_closing (bare done ++ t ∷ []) + 0 =
        level-following 0 (zero-add (one_if (is_closing t)) ∙ subst (λ s. Balanced s (length frames) t) is (balanced frames at t)) in
        let low : level_of (bare done ++ t ∷ []) ≤ 100 = omega arith in
        record {
          members = m.0;
          tokens_are = tokens;
          value_is = c.2 ∙ ap value_of m.1;
          shallow = subst IsShallow tokens (shallow-push (bare done) t h.reads.shallow low);
          level = low;
        }

-- Each text has one outcome, and the machine finds it.
use Rattle.std.proofs.Common.{◌≡◌, ℕ, ◌+◌, List, length, sym}
use Rattle.mlr_spec.specs.declared.infer.InferOpts.{InferOpts}
use Rattle.mlr_spec.specs.JsonTokens.{tokens_of}
use Rattle.mlr_json.specs.Machine.{Outcome, read, syntax, deep, outcome_of}
use Rattle.mlr_json.specs.Answer.{Says, HasOneOutcome}
use Rattle.mlr_json.proofs.GrammarOutcome.{Holds, holds}
use Rattle.mlr_json.proofs.GrammarOnly.{only}

said : (opts : InferOpts) (t : List ℕ) (o : Outcome) → Holds (tokens_of opts t).tokens (tokens_of opts t).stop (length t + 1) o → Says opts t o
said opts t (read value) h = record { syntax = h.0; tokens = h.1; ends = h.2; shallow = h.3; is = h.4 }
said opts t (syntax place) h = h
said opts t (deep place) h = h

held : (opts : InferOpts) (t : List ℕ) (o : Outcome) → Says opts t o → Holds (tokens_of opts t).tokens (tokens_of opts t).stop (length t + 1) o
held opts t (read value) h = (h.syntax, h.tokens, h.ends, h.shallow, h.is)
held opts t (syntax place) h = h
held opts t (deep place) h = h

pub outcome-says : (opts : InferOpts) (t : List ℕ) → Says opts t (outcome_of (length t + 1) (tokens_of opts t))
outcome-says opts t = said opts t (outcome_of (length t + 1) (tokens_of opts t)) (holds (tokens_of opts t).tokens (length t + 1) (tokens_of opts t).stop)

pub outcome-only : (opts : InferOpts) (t : List ℕ) (o : Outcome) → Says opts t o → o ≡ outcome_of (length t + 1) (tokens_of opts t)
outcome-only opts t o h = sym (only (length t + 1) (tokens_of opts t).stop (tokens_of opts t).tokens o (held opts t o h))

pub has-one-outcome : (opts : InferOpts) (t : List ℕ) → HasOneOutcome opts t
has-one-outcome opts t = record { outcome = outcome_of (length t + 1) (tokens_of opts t); says = outcome-says opts t; only = outcome-only opts t }

use Rattle.std.proofs.Common.{ℕ, List, ◌++◌, drop}
use Rattle.verb_specs.specs.declared.verb_spec.VerbSpec.{VerbSpec}
use Rattle.mlr_event.specs.declared.options.ReadOpts.{ReadOpts}
use Rattle.mlr_event.specs.declared.refusal.Refusal.{Refusal}
use Rattle.cli_grammar.specs.declared.given.VerbWords.{VerbWords}
use Rattle.cli_plan.specs.Accepting.{AreGoodAfter, IsFirstRefusedAfter}
use Rattle.cli_plan.specs.Planning.{AreVerbsOf}
use Rattle.cli_plan.proofs.planning.verbs_of.Given as goal

-- What holds of the verbs that remain holds of all.
pub record Follows (flatsep : List ℕ) (read : ReadOpts) (all rest : List VerbWords) (n : ℕ) (specs : List VerbSpec) : Type 0 where
  pub verbs : (more : List VerbSpec) → AreVerbsOf flatsep read rest more → AreVerbsOf flatsep read all (specs ++ more)
  pub good : AreGoodAfter n rest → AreGoodAfter 0 all
  pub refused : (why : Refusal) → IsFirstRefusedAfter n rest why → IsFirstRefusedAfter 0 all why

abbrev pub invariant-loop-before : goal.invariant-loop-before
invariant-loop-before l = Follows l.flatsep l.read l.verbs (drop l.before l.verbs) l.before l.specs

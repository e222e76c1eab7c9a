use Rattle.std.proofs.Common.{◌≡◌, drop}
use Rattle.cli_grammar.specs.Verbs.{named_among}
use Rattle.cli_grammar.proofs.verb_table.named_among.Given as goal

-- the verb isn't among those so far
abbrev pub invariant-loop-verb : goal.invariant-loop-verb
invariant-loop-verb l = named_among (drop l.verb-index l.verbs) l.word ≡ named_among l.verbs l.word

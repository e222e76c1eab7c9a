use Rattle.std.proofs.Common.{ap, sym, ◌∙◌}
use Rattle.group_state.specs.AtEnd.{at_end}
use Rattle.verbs_retain.specs.Meaning.{meaning_of}
use Rattle.verbs_retain.proofs.spec.Spec.running.Goals as goal

pub returns-in_ok-new-in-Sort-clause-meaning : goal.returns-in_ok-new-in-Sort-clause-meaning
returns-in_ok-new-in-Sort-clause-meaning c = ap at_end c.in_ok-new-in-Sort.ensures.gives ∙ ap meaning_of (sym c.in-Sort.is)

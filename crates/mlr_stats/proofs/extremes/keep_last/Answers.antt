use Rattle.std.proofs.Common.{ap, sym, ◌∙◌, Some}
use Rattle.mlr_value.specs.Value.{tree_of}
use Rattle.mlr_stats.proofs.Sums.{last-last}
use Rattle.mlr_stats.proofs.extremes.keep_last.Goals as goal

pub returns-in_ok-copy : goal.returns-in_ok-copy
returns-in_ok-copy c = λ values keeps needed. ap Some c.in_ok-copy.ensures ∙ sym (last-last values (tree_of c.args.value.now))

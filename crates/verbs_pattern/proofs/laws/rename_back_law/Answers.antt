use Rattle.std.proofs.Common.{ap₂, ◌∙◌}
use Rattle.mlr_spec.specs.Pairs.{rename_at}
use Rattle.verbs_pattern.proofs.RenamedBack.{renamed-back}
use Rattle.verbs_pattern.proofs.laws.rename_back_law.Goals as goal

pub returns : goal.returns
returns c = λ there back fields old new distinct absent.
    ap₂ (λ from to. rename_at from to (rename_at there.old there.new fields)) old new ∙ renamed-back there.old there.new fields distinct absent

use Rattle.std.proofs.Common.{ap₂}
use Rattle.verbs_base.specs.Changing.{changed}
use Rattle.verbs_base.specs.Records.{maps}
use Rattle.verbs_pattern.proofs.substitution.SubstitutionPerRecord.made.Goals as goal

pub returns-in_err-change_fields-clause-gives : goal.returns-in_err-change_fields-clause-gives
returns-in_err-change_fields-clause-gives c =
    ap₂ (λ takes image. maps (changed takes image)) c.change_fields.ensures.takes c.change_fields.ensures.image

pub returns-clause-gives : goal.returns-clause-gives
returns-clause-gives c =
    ap₂ (λ takes image. maps (changed takes image)) c.change_fields.ensures.takes c.change_fields.ensures.image

use Rattle.std.proofs.Common.{sym, ap, ◌∙◌}
use Rattle.verbs_fields.specs.Unspace.{has_space}
use Rattle.verbs_fields.proofs.Spaceless.{unspaced_text-plain}
use Rattle.verbs_fields.proofs.unspace.unspaced_name.Goals as goal

pub returns-else-has_space : goal.returns-else-has_space
returns-else-has_space c =
    sym (unspaced_text-plain c.args.other.now c.args.name (ap has_space (sym c.as_slice.ensures) ∙ sym c.has_space.ensures ∙ c.if-has_space.false))

use Rattle.std.proofs.Common.{ap, ◌∙◌}
use Rattle.mlr_spec.specs.Pairs.{are_distinct}
use Rattle.mlr_event.specs.Reading.{is_among}
use Rattle.verbs_base.proofs.Picking.{are_distinct-once}
use Rattle.verbs_fields.proofs.Templates.{template-names, once-among, once-distinct}
use Rattle.verbs_fields.proofs.laws.template_law.Goals as goal

pub returns-clause-names : goal.returns-clause-names
returns-clause-names c = λ verb fields name. ap (λ names. is_among names name) (template-names verb fields) ∙ once-among verb.names name

pub returns-clause-once : goal.returns-clause-once
returns-clause-once c = λ verb fields. ap are_distinct (template-names verb fields) ∙ are_distinct-once verb.names

pub returns-clause-order : goal.returns-clause-order
returns-clause-order c = λ verb fields distinct. template-names verb fields ∙ once-distinct verb.names distinct

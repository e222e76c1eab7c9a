use Rattle.verbs_laws.proofs.Filled.{appended}
use Rattle.verbs_laws.proofs.unsparsify.unsparsify_fields_law.Goals as goal

pub returns : goal.returns
returns c = λ fill names fields. appended fill names fields

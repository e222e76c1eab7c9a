use Rattle.verbs_fields.specs.Sparsify.{is_sparse}
use Rattle.verbs_fields.proofs.Sparse.{interleaved, none-kept}
use Rattle.verbs_fields.proofs.laws.sparsify_law.Goals as goal

pub returns-clause-others : goal.returns-clause-others
returns-clause-others c = λ verb fields. interleaved (is_sparse verb.names) fields

pub returns-clause-kept : goal.returns-clause-kept
returns-clause-kept c = λ verb fields. none-kept (is_sparse verb.names) fields

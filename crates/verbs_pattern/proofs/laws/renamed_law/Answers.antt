use Rattle.verbs_pattern.proofs.Renamed.{renamed-kept, renamed-apart, renamed-distinct}
use Rattle.verbs_pattern.proofs.laws.renamed_law.Goals as goal

pub returns-clause-kept : goal.returns-clause-kept
returns-clause-kept c = λ new_name fields distinct. renamed-kept new_name fields distinct

pub returns-clause-apart : goal.returns-clause-apart
returns-clause-apart c = λ new_name fields distinct apart. renamed-apart new_name fields distinct apart

pub returns-clause-distinct : goal.returns-clause-distinct
returns-clause-distinct c = λ new_name fields distinct apart new. renamed-distinct new_name fields distinct apart new

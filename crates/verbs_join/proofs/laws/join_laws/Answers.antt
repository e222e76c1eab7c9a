use Rattle.verbs_join.proofs.Exactly.{late-given, only-late, only-pairs, pairs-given}
use Rattle.verbs_join.proofs.laws.join_laws.Goals as goal

pub returns-clause-pairs : goal.returns-clause-pairs
returns-clause-pairs c = λ options lefts before left right. pairs-given options lefts right left

pub returns-clause-only_pairs : goal.returns-clause-only_pairs
returns-clause-only_pairs c = λ options lefts before right made. only-pairs options lefts right made

pub returns-clause-late : goal.returns-clause-late
returns-clause-late c = λ options lefts rows ctx left. late-given options lefts rows ctx left

pub returns-clause-only_late : goal.returns-clause-only_late
returns-clause-only_late c = λ options lefts rows ctx given. only-late options lefts rows ctx given

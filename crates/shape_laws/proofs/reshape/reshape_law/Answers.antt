use Rattle.std.proofs.Common.{[], ◌∷◌, refl}
use Rattle.mlr_spec.specs.Pairs.{keys_of}
use Rattle.shape_laws.proofs.WideAgain.{all-back, only-late}
use Rattle.shape_laws.proofs.reshape.reshape_law.Goals as goal
use Rattle.verbs_reshape.specs.ToLong.{selected}

pub returns-clause-one : goal.returns-clause-one
returns-clause-one c = λ options fields longs ctx comes are. all-back options (keys_of (selected options.fields fields)) (fields ∷ []) longs ctx (comes, tt) ((λ name. refl), tt) refl are

pub returns-clause-each : goal.returns-clause-each
returns-clause-each c = λ options names given longs ctx come have full are. all-back options names given longs ctx come have full are

pub returns-clause-only_late : goal.returns-clause-only_late
returns-clause-only_late c = λ options given come. only-late options given come

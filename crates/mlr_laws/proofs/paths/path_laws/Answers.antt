use Rattle.std.proofs.Common.{◌∷◌, refl}
use Rattle.mlr_laws.proofs.Unflattened.{last-without, names-order, path-above, path-below, path-none}
use Rattle.mlr_laws.proofs.paths.path_laws.Goals as goal

pub returns-clause-value : goal.returns-clause-value
returns-clause-value c = λ separator name value before following path rest without apart begins.
    path-below separator before following name value path without apart rest begins (last-without before following name value without)

pub returns-clause-above : goal.returns-clause-above
returns-clause-above c = λ separator name first next value before following path rest without apart begins.
    path-above separator before following name value (first ∷ path) without apart first path next rest refl begins

pub returns-clause-none : goal.returns-clause-none
returns-clause-none c = λ separator pairs path without apart. path-none separator pairs path without apart

pub returns-clause-order : goal.returns-clause-order
returns-clause-order c = λ separator pairs. names-order separator pairs

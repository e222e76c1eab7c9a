use Rattle.std.proofs.Common.{◌≡◌, ℕ, List, [], ◌∷◌, map, refl, ap}
use Rattle.std.specs.List.{AllByRecursion}
use Rattle.mlr_spec.specs.Pairs.{keys_of}
use Rattle.verbs_base.specs.Records.{Fields, Row}
use Rattle.verbs_hold.specs.Unsparsify.{all_names, filled}
use Rattle.verbs_laws.proofs.unsparsify.unsparsify_law.Goals as goal

named : (fill : List ℕ) (fields : Fields) (names : List (List ℕ)) → keys_of (filled fill names fields) ≡ names
named fill fields [] = refl
named fill fields (name ∷ names) = ap (λ more. name ∷ more) (named fill fields names)

each-named : (fill : List ℕ) (names : List (List ℕ)) (rows : List Row) → AllByRecursion (λ (row : Row). keys_of row.0 ≡ names) (map (λ row. (filled fill names row.0, row.1)) rows)
each-named fill names [] = tt
each-named fill names (row ∷ rows) = (named fill row.0 names, each-named fill names rows)

pub returns : goal.returns
returns c = λ fill rows ctx. each-named fill (all_names rows) rows

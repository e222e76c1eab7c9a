-- Records with the same fields in another order.
use Rattle.std.specs.Prelude.{◌≡◌, true, List, [], ◌∷◌}
use Rattle.std.specs.List.Sorted.{IsPermutation}
use Rattle.mlr_spec.specs.Pairs.{are_distinct, keys_of}
use Rattle.verbs_base.specs.Records.{Fields}

-- each record, whose names are distinct, with its fields in another order
abbrev pub AreRearranged : List Fields → List Fields → Type 0
AreRearranged [] [] = Unit {0}
AreRearranged (fields ∷ given) (made ∷ more) = (are_distinct (keys_of fields) ≡ true → IsPermutation fields made) × AreRearranged given more
AreRearranged _ _ = ⊥

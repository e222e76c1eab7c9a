-- A field that is placed before the others, or after them.
use Rattle.std.specs.Prelude.{◌≡◌, ◌+◌, ℕ, Bool, true, List, ◌++◌, drop, take, length, if◌then◌else◌}
use Rattle.std.specs.List.{cons_option}
use Rattle.std.specs.Option.{is_some, option_to_list}
use Rattle.mlr_spec.specs.Tree.{Tree}
use Rattle.mlr_spec.specs.Pairs.{are_distinct, keys_of, remove_at, value_at}
use Rattle.verbs_base.specs.Choosing.{named}

-- the same fields in any order: no name repeats, and each has the same value
pub record HasSameFields (pairs others : List (List ℕ × Tree)) : Type 0 where
  pub distinct : are_distinct (keys_of pairs) ≡ true
  pub values : (name : List ℕ) → value_at name pairs ≡ value_at name others

-- the field of this name comes first, if there is one, and the others follow, in their order if that is kept
pub record IsPlaced (keeps_order : Bool) (name : List ℕ) (before after : List (List ℕ × Tree)) : Type 0 where
  pub others : List (List ℕ × Tree)
  pub after_is : after ≡ cons_option (named before name) others
  pub same : HasSameFields others (remove_at name before)
  pub kept : keeps_order ≡ true → others ≡ remove_at name before

-- the field of this name, if it is among the first so many, comes last of all, and all others keep their order
pub record IsPlacedLast (rest : ℕ) (name : List ℕ) (before : List (List ℕ × Tree)) (found : Bool) (after : List (List ℕ × Tree)) : Type 0 where
  pub found_is : found ≡ is_some (named (take rest before) name)
  pub after_is : after ≡ remove_at name (take rest before) ++ (drop rest before ++ option_to_list (named (take rest before) name))
  pub others : length (remove_at name (take rest before)) + (if found then 1 else 0) ≡ rest

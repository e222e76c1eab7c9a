-- Lists whose elements mean something after those before them, and the blocks that they fall into.
use Rattle.std.specs.Prelude.{◌-◌, Bool, not, List, [], ◌∷◌, ◌++◌, length, drop}
use Rattle.std.specs.List.{suffix_len}

module _ {A B : Type 0} where
  -- what the elements of a list give, each after those before it, where `before` precede the list
  abbrev pub each_after : (List A → A → List B) → List A → List A → List B
  each_after gives before [] = []
  each_after gives before (x ∷ xs) = gives before x ++ each_after gives (before ++ x ∷ []) xs

  abbrev pub each : (List A → A → List B) → List A → List B
  each gives xs = each_after gives [] xs

module _ {A : Type 0} where
  -- the elements after the last one that ends a block
  abbrev pub since_end : (A → Bool) → List A → List A
  since_end ends xs = drop (length xs - suffix_len (λ x. not (ends x)) xs) xs

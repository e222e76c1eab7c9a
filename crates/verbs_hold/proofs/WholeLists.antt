-- Laws on whole lists.
use Rattle.std.proofs.Common.{◌≡◌, ℕ, List, [], ◌∷◌, ◌++◌, map, reverse, length, refl, ap, ◌∙◌}
use Rattle.std.specs.List.{flat_map}
use Rattle.std.proofs.lemmas.List.{reverse-append}
use Rattle.verbs_base.specs.Records.{Row}
use Rattle.verbs_hold.specs.Counted.{AreCounted}
use Rattle.verbs_hold.specs.CountSimilar.{with_count}

pub backwards-twice : (rows : List Row) → reverse (reverse rows) ≡ rows
backwards-twice [] = refl
backwards-twice (row ∷ rows) = ap reverse (reverse-append (row ∷ []) rows) ∙ reverse-append (reverse rows) (row ∷ []) ∙ ap (λ rest. row ∷ rest) (backwards-twice rows)

module _ (name : List ℕ) where
  counted-append : (rows more counted others : List Row) → AreCounted name rows counted → AreCounted name more others → AreCounted name (rows ++ more) (counted ++ others)
  counted-append [] more [] others are rest = rest
  counted-append [] more (one ∷ counted) others are rest = absurd are
  counted-append (row ∷ rows) more [] others are rest = absurd are
  counted-append (row ∷ rows) more (one ∷ counted) others are rest = (are.0, counted-append rows more counted others are.1 rest)

  counted-group : (n : ℕ) (rows : List Row) → AreCounted name rows (map (λ row. (with_count name n row.0, row.1)) rows)
  counted-group n [] = tt
  counted-group n (row ∷ rows) = ((n, refl), counted-group n rows)

  pub counted-groups : (groups : List (List Row)) → AreCounted name (flat_map (λ group. group) groups) (flat_map (λ group. map (λ (row : Row). (with_count name (length group) row.0, row.1)) group) groups)
  counted-groups [] = tt
  counted-groups (group ∷ groups) = counted-append group (flat_map (λ group. group) groups) _ _ (counted-group (length group) group) (counted-groups groups)

-- The group of some texts among the groups of records.
use Rattle.std.specs.Prelude.{◌≡◌, ℕ, false, List, Option, Some, MatchOption, slice_get}
use Rattle.std.specs.List.{list_any}
use Rattle.mlr_groups.specs.Grouping.{texts_eq}

-- The place of the group of these texts. None means that there are no texts, or that no group has them.
abbrev pub IsFoundAt : List (List (List ℕ)) → Option (List (List ℕ)) → Option ℕ → Type 0
IsFoundAt groups texts place =
    MatchOption place
    ((own : List (List ℕ)) → texts ≡ Some own → list_any (texts_eq own) groups ≡ false)
    (λ p. (own : List (List ℕ)) × (texts ≡ Some own) × (slice_get groups p ≡ Some own))

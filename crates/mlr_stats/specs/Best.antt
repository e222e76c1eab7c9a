-- The place of the best of some counts.
use Rattle.std.specs.Prelude.{ℕ, Bool, nat_lt, if◌then◌else◌, List, length, Some, None, slice_get}
use Rattle.std.specs.List.{fold, range_with_len}

-- whether a count is better than another: greater, or less
abbrev pub is_better : Bool → ℕ → ℕ → Bool
is_better least count other = if least then nat_lt count other else nat_lt other count

-- the later place if its count is better, and the earlier one otherwise
abbrev pub better_place : Bool → List ℕ → ℕ → ℕ → ℕ
better_place least counts earlier later = elim (slice_get counts earlier) [
  | Some count ↦ elim (slice_get counts later) [
    | Some other ↦ (if is_better least other count then later else earlier)
    | None ↦ earlier
  ]
  | None ↦ earlier
]

-- the first place of the best count
abbrev pub best_place : Bool → List ℕ → ℕ
best_place least counts = fold (better_place least counts) 0 (range_with_len 0 (length counts))

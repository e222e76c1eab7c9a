use Rattle.std.proofs.Common.{◌≡◌, ℕ, ◌+◌}
use Rattle.std.specs.List.{fold, range_with_len}
use Rattle.mlr_stats.specs.Best.{best_place, better_place}
use Rattle.mlr_stats.proofs.text_counts.best_place.Given as goal

-- the best place so far, with those that remain
abbrev pub invariant-loop-place : goal.invariant-loop-place
invariant-loop-place l =
    (n : ℕ) → l.place + n ≡ l.place-end → fold (better_place l.least l.counts) l.best (range_with_len l.place n) ≡ best_place l.least l.counts

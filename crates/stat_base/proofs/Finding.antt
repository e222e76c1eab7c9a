-- The first number of a range that passes a test.
use Rattle.std.proofs.Common.{◌≡◌, ℕ, suc, ◌+◌, Bool, true, false, cond, Some, ap, sym}
use Rattle.std.specs.List.{find, range_with_len}

-- a number that fails is skipped
pub find-skips : (test : ℕ → Bool) (a n : ℕ) → test a ≡ false → find test (range_with_len (a + 1) n) ≡ find test (range_with_len a (suc n))
find-skips test a n fails = ap (λ t. cond t (Some a) (find test (range_with_len (a + 1) n))) (sym fails)

-- a number that passes is found
pub find-stops : (test : ℕ → Bool) (a n : ℕ) → test a ≡ true → Some a ≡ find test (range_with_len a (suc n))
find-stops test a n passes = ap (λ t. cond t (Some a) (find test (range_with_len (a + 1) n))) (sym passes)

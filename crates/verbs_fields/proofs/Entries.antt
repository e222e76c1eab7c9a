-- A test of each entry, from a place on.
use Rattle.std.proofs.Common.{◌≡◌, ℕ, ◌+◌, Bool, true, false, ◌&&◌, List, drop, Some, slice_get, ap, sym, ◌∙◌}
use Rattle.std.specs.List.{list_all}
use Rattle.mlr_spec.proofs.Flattening.{drop-more}

module _ {A : Type 0} (test : A → Bool) (entries : List A) (place : ℕ) (entry : A) (at : slice_get entries place ≡ Some entry) where
  pub all-here : test entry ≡ false → list_all test (drop place entries) ≡ false
  all-here fails = ap (list_all test) (drop-more entries place entry at) ∙ ap (λ t. t && list_all test (drop (place + 1) entries)) fails

  pub all-later : test entry ≡ true → list_all test (drop (place + 1) entries) ≡ list_all test (drop place entries)
  all-later passes =
      sym (ap (list_all test) (drop-more entries place entry at) ∙ ap (λ t. t && list_all test (drop (place + 1) entries)) passes)

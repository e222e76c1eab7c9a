-- The texts of the groups of a match, and the text after a match. No public clause cites this module.
use Rattle.std.specs.Prelude.{ℕ, ◌+◌, ◌-◌, false, List, drop}
use Rattle.regex.specs.Bytes.{captures_span, captures_haystack}
use Rattle.regex.specs.Patterns.{Re}
use Rattle.regex.specs.Replace.{bytes_of, group_bytes, replaced_by}
use Rattle.regex.specs.Search.{matches_after}
use Rattle.regex.specs.declared.bytes.captures.Captures.{Captures}
use Rattle.mlr_pattern.specs.Replacing.{filled}
use Rattle.mlr_pattern.specs.declared.which.Which.{Which}
use Rattle.mlr_pattern.specs.declared.which.Which.TheVariants.{First, All}

abbrev pub group_text : Captures → ℕ → List ℕ
group_text found n = bytes_of (captures_haystack found) (captures_span found n)

-- The text after the last match, with all matches in it replaced. `after` is one more than the end of that
-- match, or 0 before the first.
abbrev pub rest_replaced : Re → List ℕ → List ℕ → ℕ → List ℕ
rest_replaced re text by after =
    replaced_by (λ m. filled (group_bytes text m) by) text (after - 1) (matches_after false re text after)

-- the text after the first match, which ends at `end`
abbrev pub after_first : Which → Re → List ℕ → List ℕ → ℕ → List ℕ
after_first First re text by end = drop end text
after_first All re text by end = rest_replaced re text by (end + 1)

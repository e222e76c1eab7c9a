-- A text that is cut at its first quote.
use Rattle.std.specs.Prelude.{◌≡◌, ℕ, ◌+◌, true, false, List, [], ◌∷◌, ◌++◌, length, drop, Some, None}
use Rattle.mlr_spec.specs.Ascii.{quote_mark}
use Rattle.read_csv.specs.OpenRow.{after_quotes, inside, starts_quoted}

pub record HasNoQuote (text : List ℕ) : Type 0 where
  pub content : inside text ≡ text
  pub following : after_quotes text ≡ None

-- two quotes in a row are one quote of the content; a single quote closes it
pub record HasQuote (text prefix rest : List ℕ) : Type 0 where
  pub content : starts_quoted rest ≡ true → inside text ≡ (prefix ++ quote_mark ∷ []) ++ inside (drop 1 rest)
  pub following : starts_quoted rest ≡ true → after_quotes text ≡ after_quotes (drop 1 rest)
  pub closed_content : starts_quoted rest ≡ false → inside text ≡ prefix
  pub closed_after : starts_quoted rest ≡ false → after_quotes text ≡ Some rest
  pub parts : length prefix + length rest + 1 ≡ length text

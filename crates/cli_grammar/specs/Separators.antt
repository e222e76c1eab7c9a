-- Separators in words.
use Rattle.std.specs.Prelude.{ℕ, Bool, not, ◌&&◌, ◌||◌, ◌==◌, nat_eq, nat_le, if◌then◌else◌, List, [], ◌∷◌, length, codes, Option, Some, None}
use Rattle.std.specs.List.{list_all, list_any, starts_with}
use Rattle.std.specs.Str.{bytes_eq}
use Rattle.mlr_spec.specs.Ascii.{carriage_return, line_feed, quote_mark, tab}

-- the characters that have names; `\t` names the tab, too
abbrev pub named_separator : List ℕ → Option (List ℕ)
named_separator word =
    if bytes_eq word (codes "colon") then Some (codes ":") else (
    if bytes_eq word (codes "comma") then Some (codes ",") else (
    if bytes_eq word (codes "equals") then Some (codes "=") else (
    if bytes_eq word (codes "pipe") then Some (codes "|") else (
    if bytes_eq word (codes "semicolon") then Some (codes ";") else (
    if bytes_eq word (codes "slash") then Some (codes "/") else (
    if bytes_eq word (codes "space") then Some (codes " ") else (
    if bytes_eq word (codes "tab") || bytes_eq word (codes "\\t") then Some (tab ∷ []) else None)))))))

-- names that Miller gives a separator of several bytes, or of a line end
abbrev pub reserved_names : List (List ℕ)
reserved_names =
    codes "newline" ∷ codes "lf" ∷ codes "lflf" ∷ codes "cr" ∷ codes "crcr" ∷ codes "crlf" ∷ codes "crlfcrlf" ∷ codes "spaces" ∷
    codes "tabs" ∷ codes "whitespace" ∷ []

abbrev pub is_reserved_name : List ℕ → Bool
is_reserved_name word = list_any (λ name. bytes_eq word name) reserved_names

abbrev pub has_reserved_prefix : List ℕ → Bool
has_reserved_prefix word =
    starts_with nat_eq word (codes "ascii_") || starts_with nat_eq word (codes "asv_") || starts_with nat_eq word (codes "usv_")

abbrev pub is_reserved : List ℕ → Bool
is_reserved word = is_reserved_name word || has_reserved_prefix word

-- a byte other than CR, LF and `"`
abbrev pub is_plain : ℕ → Bool
is_plain b = not ((b == carriage_return) || (b == line_feed) || (b == quote_mark))

-- 1 to 16 plain bytes
abbrev pub is_short : List ℕ → Bool
is_short text = nat_le 1 (length text) && nat_le (length text) 16 && list_all is_plain text

-- the separator that a word means: the character that it names, or itself
abbrev pub separator_in : List ℕ → Option (List ℕ)
separator_in word = elim (named_separator word) [
  | Some text ↦ Some text
  | None ↦ if is_reserved word || not (is_short word) then None else Some word
]

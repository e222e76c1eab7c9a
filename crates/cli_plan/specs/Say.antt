-- What the program says of itself.
use Rattle.std.specs.Prelude.{ℕ, ◌||◌, if◌then◌else◌, List, [], ◌∷◌, codes, Option, Some, None}
use Rattle.std.specs.Str.{bytes_eq}

abbrev pub version : List ℕ
version = codes "mlr 6 whole-number profile\n"

abbrev pub usage : List ℕ
usage = codes "usage: mlr {flags} {verb} {options} {then verb ..} {files}\n"

-- what a first word asks for
abbrev pub said_of : List ℕ → Option (List ℕ)
said_of word =
    if bytes_eq word (codes "--version") then Some version else (
    if bytes_eq word (codes "--help") || bytes_eq word (codes "-h") then Some usage else None)

-- what the program says in place of a run, if the first word asks for it
abbrev pub said : List (List ℕ) → Option (List ℕ)
said [] = None
said (word ∷ words) = said_of word

-- TSV: the fields of a row, which are a line.
use Rattle.std.specs.Prelude.{ℕ, if◌then◌else◌, false, ◌&&◌, ◌==◌, List, [], ◌∷◌, map}
use Rattle.mlr_spec.specs.Ascii.{tab, line_feed, backslash, letter_n, letter_t}
use Rattle.mlr_spec.specs.Split.{split_by}
use Rattle.read_csv.specs.Fields.{Field}

-- TSV has no quotes: `\t`, `\n` and `\\` are the escapes of tab, newline and backslash; any other backslash
-- is itself
abbrev pub unescaped : List ℕ → List ℕ
unescaped [] = []
unescaped (b ∷ []) = b ∷ []
unescaped (b ∷ c ∷ text) =
    if b == backslash && c == letter_t then tab ∷ unescaped text else (
    if b == backslash && c == letter_n then line_feed ∷ unescaped text else (
    if b == backslash && c == backslash then backslash ∷ unescaped text else b ∷ unescaped (c ∷ text)))

abbrev pub tsv_fields : List ℕ → List ℕ → List Field
tsv_fields separator text = map (λ part. record { quoted = false; text = unescaped part }) (split_by separator text)

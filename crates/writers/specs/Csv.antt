-- CSV, after RFC 4180.
use Rattle.std.specs.Prelude.{ℕ, Bool, ◌||◌, ◌==◌, if◌then◌else◌, List, [], ◌∷◌, ◌++◌, map, is_some}
use Rattle.std.specs.List.{flat_map, list_any}
use Rattle.mlr_spec.specs.Ascii.{line_feed, carriage_return, quote_mark}
use Rattle.mlr_spec.specs.Json.{joined}
use Rattle.mlr_spec.specs.Split.{place_in}
use Rattle.mlr_value.specs.Stops.{has_stop}
use Rattle.writers.specs.declared.form.Part.TheVariants.{Keys, Values}
use Rattle.writers.specs.declared.options.WriteOpts.{WriteOpts}
use Rattle.writers.specs.Cells.{texts}
use Rattle.writers.specs.Headed.{headed}
use Rattle.writers.specs.Runs.{Record}

-- in quotes, a quote is written twice
abbrev pub csv_escaped : ℕ → List ℕ
csv_escaped b = if b == quote_mark then quote_mark ∷ quote_mark ∷ [] else b ∷ []

abbrev pub quoted : List ℕ → List ℕ
quoted text = quote_mark ∷ flat_map csv_escaped text ++ quote_mark ∷ []

-- a quote, LF or CR
abbrev pub wants_quotes : ℕ → Bool
wants_quotes b = b == quote_mark || b == line_feed || b == carriage_return

-- a key or a value is quoted if it contains one of these or the separator, or if all are
abbrev pub csv_field : WriteOpts → List ℕ → List ℕ
csv_field opts text = if opts.quote_all || list_any wants_quotes text || is_some (place_in opts.ofs text) then quoted text else text

-- the same where the separator is one byte, and not all are quoted
abbrev pub unless_stop : ℕ → List ℕ → List ℕ
unless_stop separator text =
    if has_stop (quote_mark ∷ line_feed ∷ carriage_return ∷ separator ∷ []) text then quoted text else text

-- a line that would be empty is two quotes
abbrev pub never_empty : List ℕ → List ℕ
never_empty [] = quote_mark ∷ quote_mark ∷ []
never_empty (b ∷ line) = b ∷ line

abbrev pub csv_line : WriteOpts → List (List ℕ) → List ℕ
csv_line opts fields = never_empty (joined opts.ofs (map (csv_field opts) fields)) ++ line_feed ∷ []

-- what a record gives after the records before it
abbrev pub csv_record : WriteOpts → List Record → Record → List ℕ
csv_record opts before r = headed opts.headerless before r (csv_line opts (texts Keys r)) (csv_line opts (texts Values r))

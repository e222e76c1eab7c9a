-- What the word after an option is, and why a word isn't of its kind.
use Rattle.std.specs.Prelude.{ℕ, ℤ, pos, Bool, ◌&&◌, int_le, if◌then◌else◌, is_some, List, codes, Option, Some, None}
use Rattle.std.specs.List.{list_all}
use Rattle.std.specs.Str.{bytes_eq}
use Rattle.mlr_spec.specs.Split.{split_by}
use Rattle.mlr_event.specs.declared.options.Format.{Format}
use Rattle.mlr_event.specs.declared.options.Format.TheVariants.{Csv, Tsv, Json, Jsonl, Dkvp, Nidx, Xtab, Pprint, Markdown}
use Rattle.mlr_event.specs.declared.refusal.Why.{Why}
use Rattle.mlr_event.specs.declared.refusal.Why.TheVariants.{UnknownFlag, BadNumber, BadSeparator}
use Rattle.stat_base.specs.Accumulators.{accumulator_named}
use Rattle.stat_base.specs.Steppers.{stepper_named}
use Rattle.cli_grammar.specs.declared.kind.Kind.{Kind}
use Rattle.cli_grammar.specs.declared.kind.Kind.TheVariants as kind
use Rattle.cli_grammar.specs.Numbers.{int_in}
use Rattle.cli_grammar.specs.Separators.{is_short, separator_in}

-- the formats by their names
abbrev pub format_named : List ℕ → Option Format
format_named word =
    if bytes_eq word (codes "csv") then Some Csv else (
    if bytes_eq word (codes "tsv") then Some Tsv else (
    if bytes_eq word (codes "json") then Some Json else (
    if bytes_eq word (codes "jsonl") then Some Jsonl else (
    if bytes_eq word (codes "dkvp") then Some Dkvp else (
    if bytes_eq word (codes "nidx") then Some Nidx else (
    if bytes_eq word (codes "xtab") then Some Xtab else (
    if bytes_eq word (codes "pprint") then Some Pprint else (
    if bytes_eq word (codes "markdown") then Some Markdown else None))))))))

abbrev pub is_within : ℤ → ℤ → ℤ → Bool
is_within n least greatest = int_le least n && int_le n greatest

abbrev pub is_zero : ℤ → Bool
is_zero n = is_within n (pos 0) (pos 0)

-- why a number can't be in a place, by whether it has the right size
abbrev pub number_fault : Bool → Option Why
number_fault fits = if fits then None else Some BadNumber

-- whether each name between the commas of a word is that of an accumulator
abbrev pub is_accumulator : List ℕ → Bool
is_accumulator name = is_some (accumulator_named name)

abbrev pub are_accumulators : List ℕ → Bool
are_accumulators word = list_all is_accumulator (split_by (codes ",") word)

-- whether each name between the commas of a word is that of a stepper
abbrev pub is_stepper : List ℕ → Bool
is_stepper name = is_some (stepper_named name)

abbrev pub are_steppers : List ℕ → Bool
are_steppers word = list_all is_stepper (split_by (codes ",") word)

-- why a list of names isn't of its kind, by whether each name is known
abbrev pub name_fault : Bool → Option Why
name_fault known = if known then None else Some UnknownFlag

-- why a word isn't of this kind
abbrev pub fault_of : Kind → List ℕ → Option Why
fault_of (kind.Number least greatest) word = elim (int_in word) [ Some n ↦ number_fault (is_within n least greatest) | None ↦ Some BadNumber ]
fault_of kind.Accumulators word = name_fault (are_accumulators word)
fault_of kind.Steppers word = name_fault (are_steppers word)
fault_of kind.Step word = elim (int_in word) [ Some n ↦ (if is_zero n then Some BadNumber else None) | None ↦ Some BadNumber ]
fault_of kind.Separator word = elim (separator_in word) [ Some text ↦ None | None ↦ Some BadSeparator ]
fault_of kind.Prefix word = if is_short word then None else Some BadSeparator
fault_of kind.Format word = elim (format_named word) [ Some fmt ↦ None | None ↦ Some UnknownFlag ]
fault_of _ word = None

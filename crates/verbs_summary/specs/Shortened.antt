-- Names of fields without a text that they hold.
use Rattle.std.specs.Prelude.{ℕ, ◌+◌, List, [], ◌∷◌, ◌++◌, drop, length, take, Option, Some, None}
use Rattle.std.specs.List.{filter_map, flat_map}
use Rattle.std.specs.Option.{option_map}
use Rattle.std.specs.Str.{bytes_eq}
use Rattle.std.specs.Prelude.{if◌then◌else◌}
use Rattle.mlr_spec.specs.Split.{place_in}
use Rattle.mlr_spec.specs.Tree.{Tree}
use Rattle.verbs_base.specs.Choosing.{once}
use Rattle.verbs_base.specs.Records.{Fields}
use Rattle.stat_base.specs.declared.accumulator.Accumulator.{Accumulator}
use Rattle.mlr_stats.specs.Statistic.{fields_of}

-- a name without the first occurrence of a text, if it holds the text; each name holds the empty text
abbrev pub without : List ℕ → List ℕ → Option (List ℕ)
without [] name = Some name
without text name = option_map (λ place. take place name ++ drop (place + length text) name) (place_in text name)

-- a name without the first of some texts that it holds
abbrev pub shortened : List (List ℕ) → List ℕ → Option (List ℕ)
shortened [] name = None
shortened (text ∷ texts) name = elim (without text name) [ Some short ↦ Some short | None ↦ shortened texts name ]

-- the short names of a record's fields, each once, in the order in which they come first
abbrev pub short_names : List (List ℕ) → Fields → List (List ℕ)
short_names texts fields = once (filter_map (λ pair. shortened texts pair.0) fields)

-- the value of a field, if this is its short name
abbrev pub value_if_short : List (List ℕ) → List ℕ → List ℕ × Tree → Option Tree
value_if_short texts short pair = elim (shortened texts pair.0) [ Some own ↦ (if bytes_eq own short then Some pair.1 else None) | None ↦ None ]

-- the values of the fields of a short name
abbrev pub values_of_short : List (List ℕ) → Fields → List ℕ → List Tree
values_of_short texts fields short = filter_map (value_if_short texts short) fields

-- the statistics of the fields of each short name
abbrev pub gathered : List Accumulator → List (List ℕ) → Fields → Fields
gathered accumulators texts fields = flat_map (λ short. fields_of accumulators short (values_of_short texts fields short)) (short_names texts fields)

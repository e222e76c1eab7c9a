-- The flags of `sort`.
use Rattle.std.specs.Prelude.{ℕ, codes, if◌then◌else◌, List, [], Option, Some, None}
use Rattle.std.specs.List.{filter_map}
use Rattle.std.specs.Option.{option_map, unwrap_or}
use Rattle.std.specs.Str.{bytes_eq}
use Rattle.mlr_spec.specs.declared.arith.Order.{Order}
use Rattle.mlr_spec.specs.declared.arith.Order.TheVariants as order
use Rattle.cli_grammar.specs.declared.given.Given.{Given}
use Rattle.cli_grammar.specs.declared.given.VerbWords.{VerbWords}
use Rattle.cli_choices.specs.Names.{names_in}
use Rattle.verbs_sort.specs.declared.sort.Sort.{Sort}
use Rattle.verbs_sort.specs.declared.sort.SortFlag.{SortFlag}

-- the order of a flag
abbrev pub order_named : List ℕ → Option Order
order_named name =
    if bytes_eq name (codes "-f") then Some order.Text
    else if bytes_eq name (codes "-r") then Some order.TextDown
    else if bytes_eq name (codes "-nf") then Some order.Number
    else if bytes_eq name (codes "-nr") then Some order.NumberDown
    else if bytes_eq name (codes "-c") then Some order.Folded
    else if bytes_eq name (codes "-cr") then Some order.FoldedDown
    else None

abbrev pub flag_of : Given → Option SortFlag
flag_of given = option_map (λ by. record { order = by; names = names_in (unwrap_or given.argument []) }) (order_named given.name)

-- every flag counts, in the order in which they are given
abbrev pub sort_of : VerbWords → Sort
sort_of given = record { flags = filter_map flag_of given.options }

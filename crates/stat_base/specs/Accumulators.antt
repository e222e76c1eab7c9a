-- The names of accumulators.
use Rattle.std.specs.Prelude.{ℕ, Bool, List, ◌++◌, codes, if◌then◌else◌, Option, Some}
use Rattle.std.specs.Fmt.{decimal}
use Rattle.std.specs.List.{find, range_with_len}
use Rattle.std.specs.Option.{option_map}
use Rattle.std.specs.Str.{bytes_eq}
use Rattle.stat_base.specs.declared.accumulator.Accumulator.{Accumulator}
use Rattle.stat_base.specs.declared.accumulator.Accumulator.TheVariants.{Count, Sum, Mean, Min, Max, Mode, Antimode, First, Last, DistinctCount, NullCount, Median, Percentile}

-- the name of each
abbrev pub name_of : Accumulator → List ℕ
name_of Count = codes "count"
name_of Sum = codes "sum"
name_of Mean = codes "mean"
name_of Min = codes "min"
name_of Max = codes "max"
name_of Mode = codes "mode"
name_of Antimode = codes "antimode"
name_of First = codes "first"
name_of Last = codes "last"
name_of DistinctCount = codes "distinct_count"
name_of NullCount = codes "null_count"
name_of Median = codes "median"
name_of (Percentile percent) = codes "p" ++ decimal percent

abbrev pub is_percentile : List ℕ → ℕ → Bool
is_percentile name percent = bytes_eq name (name_of (Percentile percent))

-- p0 to p100
abbrev pub percentile_named : List ℕ → Option Accumulator
percentile_named name = option_map Percentile (find (is_percentile name) (range_with_len 0 101))

-- the accumulator of a name
abbrev pub accumulator_named : List ℕ → Option Accumulator
accumulator_named name =
    if bytes_eq name (name_of Count) then Some Count
    else if bytes_eq name (name_of Sum) then Some Sum
    else if bytes_eq name (name_of Mean) then Some Mean
    else if bytes_eq name (name_of Min) then Some Min
    else if bytes_eq name (name_of Max) then Some Max
    else if bytes_eq name (name_of Mode) then Some Mode
    else if bytes_eq name (name_of Antimode) then Some Antimode
    else if bytes_eq name (name_of First) then Some First
    else if bytes_eq name (name_of Last) then Some Last
    else if bytes_eq name (name_of DistinctCount) then Some DistinctCount
    else if bytes_eq name (name_of NullCount) then Some NullCount
    else if bytes_eq name (name_of Median) then Some Median
    else percentile_named name

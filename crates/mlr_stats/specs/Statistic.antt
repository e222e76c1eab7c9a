-- The statistics of the values of a field.
use Rattle.std.specs.Prelude.{ℕ, ◌*◌, ◌/◌, ◌-◌, Bool, true, false, min, if◌then◌else◌, List, [], ◌∷◌, length, map, slice_get, slice_index_or, Option, Some, None}
use Rattle.std.specs.List.{filter, filter_map}
use Rattle.std.specs.Option.{unwrap_or}
use Rattle.std.specs.Ordering.{flip_args, nat_cmp}
use Rattle.std.specs.declared.cmp.Ordering.{Ordering}
use Rattle.mlr_spec.specs.Arith.{arith_of}
use Rattle.mlr_spec.specs.Order.{order_of}
use Rattle.mlr_spec.specs.Tree.{Tree, empty, error, is_empty}
use Rattle.mlr_spec.specs.declared.arith.Op.TheVariants.{Divide}
use Rattle.mlr_spec.specs.declared.arith.Order.TheVariants.{Mixed}
use Rattle.text_forms.specs.Shown.{shown}
use Rattle.mlr_groups.specs.Grouping.{each_once, texts_eq}
use Rattle.mlr_groups.specs.Tallying.{capped}
use Rattle.mlr_sort.specs.InOrder.{in_order}
use Rattle.group_state.specs.Counts.{count_value}
use Rattle.stat_base.specs.Accumulators.{name_of}
use Rattle.stat_base.specs.Outputs.{output_name}
use Rattle.stat_base.specs.Values.{present, sum_of}
use Rattle.stat_base.specs.declared.accumulator.Accumulator.{Accumulator}
use Rattle.stat_base.specs.declared.accumulator.Accumulator.TheVariants.{Count, Sum, Mean, Min, Max, Mode, Antimode, First, Last, DistinctCount, NullCount, Median, Percentile}

-- the first element in an order, of those that tie the first to come
abbrev pub first_by : {A : Type 0} → (A → A → Ordering) → List A → Option A
first_by cmp xs = slice_get (in_order cmp xs) 0

-- how two values compare: the less comes first, or the greater
abbrev pub by_value : Bool → Tree → Tree → Ordering
by_value greatest = if greatest then flip_args (order_of Mixed) else order_of Mixed

-- the last of some values
abbrev pub last_of : List Tree → Option Tree
last_of [] = None
last_of (value ∷ values) = Some (unwrap_or (last_of values) value)

-- the text of a value, which it may have in common with others
abbrev pub own_text : Tree → Option (List (List ℕ))
own_text value = Some (shown value ∷ [])

-- the texts of some values, each once, in the order in which they come first
abbrev pub texts_of : List Tree → List (List (List ℕ))
texts_of values = each_once texts_eq (filter_map own_text values)

-- the values that have a text
abbrev pub with_text : List Tree → List (List ℕ) → List Tree
with_text values text = filter (λ value. texts_eq text (shown value ∷ [])) values

-- the values of each text
abbrev pub alike : List Tree → List (List Tree)
alike values = map (with_text values) (texts_of values)

-- how two lists compare: the longer comes first, or the shorter
abbrev pub by_length : Bool → List Tree → List Tree → Ordering
by_length least xs ys = if least then nat_cmp (capped (length xs)) (capped (length ys)) else nat_cmp (capped (length ys)) (capped (length xs))

-- the first value of the most frequent text, or of the least frequent
abbrev pub mode_of : Bool → List Tree → Option Tree
mode_of least values = slice_get (unwrap_or (first_by (by_length least) (alike values)) []) 0

-- the sum divided by the count
abbrev pub mean_of : List Tree → Tree
mean_of [] = error
mean_of (value ∷ values) = arith_of Divide (sum_of (value ∷ values)) (count_value (length (value ∷ values)))

-- the place of a percentile among some values in order
abbrev pub percentile_place : ℕ → ℕ → ℕ
percentile_place percent count = min (percent * count / 100) (count - 1)

-- the value at that place among values in order
abbrev pub at_percentile : ℕ → List Tree → Tree
at_percentile percent ordered = slice_index_or ordered (percentile_place percent (length ordered)) empty

abbrev pub percentile_of : ℕ → List Tree → Tree
percentile_of percent values = at_percentile percent (in_order (order_of Mixed) values)

-- a statistic of some values, none of which is empty
abbrev pub of_values : List Tree → Accumulator → Tree
of_values values Count = count_value (length values)
of_values values Sum = sum_of values
of_values values Mean = mean_of values
of_values values Min = unwrap_or (first_by (by_value false) values) empty
of_values values Max = unwrap_or (first_by (by_value true) values) empty
of_values values Mode = unwrap_or (mode_of false values) empty
of_values values Antimode = unwrap_or (mode_of true values) empty
of_values values First = unwrap_or (slice_get values 0) empty
of_values values Last = unwrap_or (last_of values) empty
of_values values DistinctCount = count_value (length (texts_of values))
of_values values NullCount = count_value 0
of_values values Median = percentile_of 50 values
of_values values (Percentile percent) = percentile_of percent values

-- a statistic of some values: empty ones are passed over, but by the count of them
abbrev pub statistic : List Tree → Accumulator → Tree
statistic values NullCount = count_value (length (filter is_empty values))
statistic values accumulator = of_values (present values) accumulator

-- the fields that some statistics of the values of a field make
abbrev pub fields_of : List Accumulator → List ℕ → List Tree → List (List ℕ × Tree)
fields_of accumulators name values = map (λ accumulator. (output_name name (name_of accumulator), statistic values accumulator)) accumulators

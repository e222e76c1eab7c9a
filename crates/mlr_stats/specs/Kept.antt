-- What is kept of the values of a field, as far as some statistics need it.
use Rattle.std.proofs.Common.{Box, Global}
use Rattle.std.specs.Prelude.{◌≡◌, Bool, true, false, ◌||◌, List, length, map, slice_get, Option, Some, MatchOption, [], ◌∷◌}
use Rattle.std.specs.List.{AllByRecursion, filter, fold}
use Rattle.std.specs.Option.{option_map}
use Rattle.mlr_spec.specs.Order.{order_of}
use Rattle.mlr_spec.specs.Tree.{Tree, is_empty}
use Rattle.mlr_spec.specs.declared.arith.Order.TheVariants.{Mixed}
use Rattle.mlr_value.specs.Value.{tree_of}
use Rattle.mlr_value.specs.declared.value.Value.{Value}
use Rattle.mlr_groups.specs.Keys.{key_of}
use Rattle.mlr_groups.specs.Tallying.{capped}
use Rattle.mlr_sort.specs.InOrder.{in_order}
use Rattle.stat_base.specs.Values.{present, sum_of}
use Rattle.stat_base.specs.declared.accumulator.Accumulator.{Accumulator}
use Rattle.stat_base.specs.declared.accumulator.Accumulator.TheVariants.{Count, Sum, Mean, Min, Max, Mode, Antimode, First, Last, DistinctCount, NullCount, Median, Percentile}
use Rattle.mlr_stats.specs.declared.needs.Needs.{Needs}
use Rattle.mlr_stats.specs.declared.more.More.{More}
use Rattle.mlr_stats.specs.declared.summary.Summary.{Summary}
use Rattle.mlr_stats.specs.declared.text_counts.TextCounts.{TextCounts}
use Rattle.mlr_stats.specs.Statistic.{by_value, first_by, last_of, texts_of, with_text}

-- what is needed for one more statistic
abbrev pub with_needs : Needs → Accumulator → Needs
with_needs needs Count = needs
with_needs needs Sum = record needs { sum = true }
with_needs needs Mean = record needs { sum = true }
with_needs needs Min = record needs { least = true }
with_needs needs Max = record needs { greatest = true }
with_needs needs Mode = record needs { texts = true }
with_needs needs Antimode = record needs { texts = true }
with_needs needs First = record needs { first = true }
with_needs needs Last = record needs { last = true }
with_needs needs DistinctCount = record needs { texts = true }
with_needs needs NullCount = needs
with_needs needs Median = record needs { values = true }
with_needs needs (Percentile percent) = record needs { values = true }

abbrev pub no_needs : Needs
no_needs = record { sum = false; least = false; greatest = false; first = false; last = false; texts = false; values = false }

-- what some statistics need
abbrev pub needs_of : List Accumulator → Needs
needs_of accumulators = fold with_needs no_needs accumulators

-- whether they need more than counts and the sum
abbrev pub needs_more : Needs → Bool
needs_more needs = needs.least || (needs.greatest || (needs.first || (needs.last || (needs.texts || needs.values))))

-- whether what is kept for these needs serves a statistic beside counts and the sum, and whether it serves any
abbrev pub serves_more : Needs → Accumulator → Bool
serves_more needs Min = needs.least
serves_more needs Max = needs.greatest
serves_more needs First = needs.first
serves_more needs Last = needs.last
serves_more needs Mode = needs.texts
serves_more needs Antimode = needs.texts
serves_more needs DistinctCount = needs.texts
serves_more needs Median = needs.values
serves_more needs (Percentile percent) = needs.values
serves_more needs _ = false

abbrev pub serves : Needs → Accumulator → Bool
serves needs Count = true
serves needs Sum = needs.sum
serves needs Mean = needs.sum
serves needs NullCount = true
serves needs accumulator = serves_more needs accumulator

-- a value that is kept, if it is needed
abbrev pub Keeps : Bool → (List Tree → Option Tree) → List Tree → Option Value → Type 0
Keeps needed of values kept = needed ≡ true → option_map tree_of kept ≡ of values

-- the first value of a list
abbrev pub first_of : List Tree → Option Tree
first_of values = slice_get values 0

-- how many values have each text, and the first of them
pub record CountsTexts (values : List Tree) (kept : TextCounts) : Type 0 where
  pub table : kept.table ≡ map key_of (texts_of values)
  pub firsts : map (λ value. Some (tree_of value)) kept.firsts.items ≡ map (λ text. first_of (with_text values text)) (texts_of values)
  pub counts : kept.counts.items ≡ map (λ text. capped (length (with_text values text))) (texts_of values)

-- what is kept of some values, of which none is empty; the list of all of them may be arranged in some way
pub record KeepsMore (needs : Needs) (arranged : List Tree → List Tree) (all : List Tree) (more : More) : Type 0 where
  pub least : Keeps needs.least (first_by (by_value false)) all more.least
  pub greatest : Keeps needs.greatest (first_by (by_value true)) all more.greatest
  pub first : Keeps needs.first first_of all more.first
  pub last : Keeps needs.last last_of all more.last
  pub texts : needs.texts ≡ true → CountsTexts all more.texts
  pub values : needs.values ≡ true → map tree_of more.values.items ≡ arranged all

-- the same, if anything but counts and the sum is needed
abbrev pub HasMore : Needs → (List Tree → List Tree) → List Tree → Option (Box More Global) → Type 0
HasMore needs arranged all more = MatchOption more (needs_more needs ≡ false) (λ more. KeepsMore needs arranged all more.value)

-- what is kept of some values
pub record KeepsAll (needs : Needs) (arranged : List Tree → List Tree) (values : List Tree) (summary : Summary) : Type 0 where
  pub count : summary.count ≡ capped (length (present values))
  pub nulls : summary.nulls ≡ capped (length (filter is_empty values))
  pub sum : needs.sum ≡ true → tree_of summary.sum ≡ sum_of (present values)
  pub more : HasMore needs arranged (present values) summary.more

-- what these statistics need is kept, with the values in the order in which they came
abbrev pub Summarizes : List Accumulator → List Tree → Summary → Type 0
Summarizes accumulators = KeepsAll (needs_of accumulators) (λ values. values)

-- the same with the values in their order
abbrev pub Arranges : List Accumulator → List Tree → Summary → Type 0
Arranges accumulators = KeepsAll (needs_of accumulators) (in_order (order_of Mixed))

-- there are no values
abbrev pub is_nil : List Tree → Bool
is_nil [] = true
is_nil (value ∷ values) = false

-- what is kept for these needs serves all these statistics
abbrev pub ServesAll : Needs → List Accumulator → Type 0
ServesAll needs accumulators = AllByRecursion (λ accumulator. serves needs accumulator ≡ true) accumulators

-- The orders of values: each is a rank, then a comparison of numbers or of texts. `order_total` says that each is a total preorder.
use Rattle.std.specs.Prelude.{ℕ, true, false, if◌then◌else◌, List, [], map, ℤ, pos}
use Rattle.std.specs.Char.{to_ascii_lowercase}
use Rattle.std.specs.Cmp.{IsTotalOrder, nat_cmp_total, int_cmp_total, on_total, back_total, then_total}
use Rattle.std.specs.Cmp.Lexicographic.{slice_cmp, on_texts}
use Rattle.std.specs.Ordering.{nat_cmp, int_cmp, on, flip_args, then_cmp}
use Rattle.std.specs.declared.cmp.Ordering.{Ordering}
use Rattle.mlr_spec.specs.declared.arith.Order.{Order}
use Rattle.mlr_spec.specs.declared.arith.Order.TheVariants.{Text, TextDown, Folded, FoldedDown, Number, NumberDown, Mixed}
use Rattle.mlr_spec.specs.Tree.{Tree, empty, string, int, boolean, text_of, is_collection}

-- its text with the letters of ASCII in lower case
abbrev pub folded_text_of : Tree → List ℕ
folded_text_of x = map to_ascii_lowercase (text_of x)

-- collections are last where texts are compared
abbrev pub rank_of_text : Tree → ℕ
rank_of_text x = if is_collection x then 1 else 0

-- values that are no ints are last where numbers are compared
abbrev pub rank_of_number : Tree → ℕ
rank_of_number (int n spelling) = 0
rank_of_number _ = 1

-- the number of an int, and the bytes of a string; of other values nothing is compared
abbrev pub number_in : Tree → ℤ
number_in (int n spelling) = n
number_in _ = pos 0

abbrev pub string_in : Tree → List ℕ
string_in (string text) = text
string_in _ = []

-- the kinds in the order of mixed values
abbrev pub rank_of_kind : Tree → ℕ
rank_of_kind (int n spelling) = 0
rank_of_kind (boolean false) = 1
rank_of_kind (boolean true) = 2
rank_of_kind empty = 3
rank_of_kind (string text) = 4
rank_of_kind _ = 5

abbrev pub by_text : Tree → Tree → Ordering
by_text = on text_of (slice_cmp nat_cmp)

abbrev pub by_folded : Tree → Tree → Ordering
by_folded = on folded_text_of (slice_cmp nat_cmp)

abbrev pub by_number : Tree → Tree → Ordering
by_number = then_cmp (on rank_of_number nat_cmp) (on number_in int_cmp)

abbrev pub by_kind : Tree → Tree → Ordering
by_kind = then_cmp (on rank_of_kind nat_cmp) (then_cmp (on number_in int_cmp) (on string_in (slice_cmp nat_cmp)))

-- collections, which are last and equal, after what is compared by texts
abbrev pub collections_last : (Tree → Tree → Ordering) → Tree → Tree → Ordering
collections_last = then_cmp (on rank_of_text nat_cmp)

abbrev pub order_of : Order → Tree → Tree → Ordering
order_of Text = collections_last by_text
order_of TextDown = collections_last (flip_args by_text)
order_of Folded = collections_last by_folded
order_of FoldedDown = collections_last (flip_args by_folded)
order_of Number = by_number
order_of NumberDown = flip_args by_number
order_of Mixed = by_kind

-- each order is a total preorder
pub order_total : (order : Order) → IsTotalOrder (order_of order)
order_total Text = then_total (on_total rank_of_text nat_cmp_total) (on_texts text_of)
order_total TextDown = then_total (on_total rank_of_text nat_cmp_total) (back_total (on_texts text_of))
order_total Folded = then_total (on_total rank_of_text nat_cmp_total) (on_texts folded_text_of)
order_total FoldedDown = then_total (on_total rank_of_text nat_cmp_total) (back_total (on_texts folded_text_of))
order_total Number = then_total (on_total rank_of_number nat_cmp_total) (on_total number_in int_cmp_total)
order_total NumberDown =
    back_total (then_total (on_total rank_of_number nat_cmp_total) (on_total number_in int_cmp_total))
order_total Mixed =
    then_total (on_total rank_of_kind nat_cmp_total) (then_total (on_total number_in int_cmp_total) (on_texts string_in))

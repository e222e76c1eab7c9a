-- What `top` keeps of a group, and what it makes of it.
use Rattle.std.specs.Prelude.{◌≡◌, ℕ, pos, ◌+◌, true, false, List, [], ◌∷◌, length, map, max, Option, Some, None, slice_index_or, codes}
use Rattle.std.specs.Arc.{arc_value}
use Rattle.std.specs.Global.{Vec}
use Rattle.std.specs.List.{filter, filter_map, fold, range_with_len}
use Rattle.std.specs.Option.{unwrap_or}
use Rattle.mlr_spec.specs.Pairs.{put_each}
use Rattle.mlr_spec.specs.Tree.{Tree, empty, int}
use Rattle.mlr_event.specs.declared.event.Ctx.{Ctx}
use Rattle.verbs_base.specs.Choosing.{picked}
use Rattle.verbs_base.specs.Records.{Fields, Row, records}
use Rattle.stat_base.specs.Outputs.{output_name}
use Rattle.stat_base.specs.Values.{values_of}
use Rattle.verbs_top.specs.Best.{HoldsBest, Pair, first_pairs, pair_of}
use Rattle.verbs_top.specs.Top.{is_int, value_in}
use Rattle.verbs_top.specs.declared.best.Best.{Best}
use Rattle.verbs_top.specs.declared.best.Entry.{Entry}
use Rattle.verbs_top.specs.declared.state.TopState.{TopState}
use Rattle.verbs_top.specs.declared.top.Top.{Top}

-- the ints of a field, without records
abbrev pub alone : Tree → Pair
alone value = (value, None)

abbrev pub column_of : List ℕ → List Row → List Pair
column_of name rows = map alone (filter is_int (values_of name (records rows)))

-- the ints of a field with their records
abbrev pub with_row : List ℕ → Row → Pair
with_row name row = (value_in name row, Some row)

abbrev pub row_pairs : List ℕ → List Row → List Pair
row_pairs name rows = map (with_row name) (filter (λ row. is_int (value_in name row)) rows)

-- what is kept of each field
abbrev pub HoldColumns : Top → List (List Pair) → List Best → Type 0
HoldColumns options [] [] = Unit {0}
HoldColumns options [] (best ∷ columns) = ⊥
HoldColumns options (given ∷ more) [] = ⊥
HoldColumns options (given ∷ more) (best ∷ columns) = HoldsBest options given best × HoldColumns options more columns

-- the grouping fields of the first record, if there is one
abbrev pub first_of : List (List ℕ) → List Row → Option Fields
first_of names [] = None
first_of names (row ∷ rows) = Some (picked names row.0)

-- the records, of which either whole ones or the ints of the fields are kept
abbrev pub Keeps : Top → TopState → List Row → Type 0
Keeps options s rows =
    (options.whole ≡ true → HoldsBest options (row_pairs (slice_index_or options.names 0 []) rows) s.rows)
    × (options.whole ≡ false → (s.first ≡ first_of (unwrap_or options.groups []) rows) × HoldColumns options (map (λ name. column_of name rows) options.names) s.columns.items)

abbrev pub TopHolds : TopState → List Row → Type 0
TopHolds s rows = Keeps (arc_value s.options) s rows

-- the ints of entries, and the first of those of a field
abbrev pub values_in : List Pair → List Tree
values_in pairs = map (λ pair. pair.0) pairs

-- the records of those that have them
abbrev pub rows_in : List Pair → List Row
rows_in pairs = filter_map (λ pair. pair.1) pairs

abbrev pub trees_in : Vec Entry → List Tree
trees_in entries = values_in (map pair_of entries.items)

abbrev pub first_trees : Top → Best → List Tree
first_trees options best = values_in (first_pairs options (map pair_of best.entries.items))

abbrev pub output_names : List (List ℕ) → List (List ℕ)
output_names names = map (λ name. output_name name (codes "top")) names

abbrev pub longest : List (List Tree) → ℕ
longest lists = fold max 0 (map length lists)

abbrev pub first_list : List (List Tree) → List Tree
first_list [] = []
first_list (list ∷ lists) = list

abbrev pub other_lists : List (List Tree) → List (List Tree)
other_lists [] = []
other_lists (list ∷ lists) = lists

-- the fields that are made of some lists for a place
abbrev pub ints_at : List (List ℕ) → List (List Tree) → ℕ → Fields
ints_at [] lists place = []
ints_at (name ∷ names) lists place = (name, slice_index_or (first_list lists) place empty) ∷ ints_at names (other_lists lists) place

abbrev pub made_fields : List ℕ → List (List ℕ) → List (List Tree) → ℕ → Fields
made_fields output names lists place = (output, int (pos (place + 1)) []) ∷ ints_at names lists place

-- a record for each place, of the fields that it begins with
abbrev pub place_rows : Top → Fields → List (List Tree) → Ctx → List Row
place_rows options first lists ctx =
    map (λ place. (put_each first (made_fields options.output (output_names options.names) lists place), ctx)) (range_with_len 0 (longest lists))

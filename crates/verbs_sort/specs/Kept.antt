-- What `sort` keeps of the records that it was given.
use Rattle.std.specs.Prelude.{◌≡◌, ℕ, not, List, [], ◌∷◌, map}
use Rattle.std.specs.List.{AllByRecursion, filter}
use Rattle.std.specs.Option.{unwrap_or}
use Rattle.std.specs.Ordering.{on, then_cmp}
use Rattle.std.specs.declared.cmp.Ordering.{Ordering}
use Rattle.std.specs.declared.cmp.Ordering.TheVariants.{Equal}
use Rattle.mlr_spec.specs.Order.{order_of}
use Rattle.mlr_spec.specs.Pairs.{value_at}
use Rattle.mlr_spec.specs.Tree.{Tree, absent}
use Rattle.mlr_spec.specs.declared.arith.Order.{Order}
use Rattle.mlr_value.specs.Value.{tree_of}
use Rattle.mlr_value.specs.declared.value.Value.{Value}
use Rattle.verbs_base.specs.Records.{Fields, Row}
use Rattle.verbs_sort.specs.declared.sort.Entry.{Entry}
use Rattle.verbs_sort.specs.declared.sort.Held.{Held}
use Rattle.verbs_sort.specs.declared.sort.KeyValues.{KeyValues}
use Rattle.verbs_sort.specs.declared.sort.SortKey.{SortKey}
use Rattle.verbs_sort.specs.declared.sort.SortRows.{SortRows}
use Rattle.verbs_sort.specs.Sort.{has_keys}

-- the fields that are compared, each with its order
abbrev pub keys_in : List SortKey → List (Order × List ℕ)
keys_in keys = map (λ key. (key.order, key.name)) keys

abbrev pub trees_in : List Value → List Tree
trees_in values = map tree_of values

-- the values of these fields in a record
abbrev pub values_in : List (Order × List ℕ) → Fields → List Tree
values_in keys fields = map (λ key. unwrap_or (value_at key.1 fields) absent) keys

-- the first of some values, and those that follow it
abbrev pub first_of : List Tree → Tree
first_of [] = absent
first_of (x ∷ xs) = x

abbrev pub rest_of : List Tree → List Tree
rest_of [] = []
rest_of (x ∷ xs) = xs

-- how the values of these fields compare: by the first two that their order tells apart
abbrev pub compare_values : List (Order × List ℕ) → List Tree → List Tree → Ordering
compare_values [] = λ xs ys. Equal
compare_values (key ∷ keys) = then_cmp (on first_of (order_of key.0)) (on rest_of (compare_values keys))

-- the record of an entry, and one that lacks a key field
abbrev pub held_row : Held → Row
held_row held = (held.fields, held.ctx)

abbrev pub row_of : Entry → Row
row_of entry = held_row entry.row

-- the values that an entry has copies of
abbrev pub trees_of : KeyValues → List Tree
trees_of values = tree_of values.first ∷ tree_of values.second ∷ trees_in values.more.items

-- a list has the values of these fields of a record, and is at least two long: without a field, an absent value is there
pub record HasValues (keys : List (Order × List ℕ)) (fields : Fields) (values : List Tree) : Type 0 where
  pub first : first_of values ≡ first_of (values_in keys fields)
  pub second : first_of (rest_of values) ≡ first_of (rest_of (values_in keys fields))
  pub more : rest_of (rest_of values) ≡ rest_of (rest_of (values_in keys fields))

-- an entry has the values of the key fields of its record
abbrev pub Keyed : List (Order × List ℕ) → Entry → Type 0
Keyed keys entry = HasValues keys entry.row.fields (trees_of entry.values)

-- the records with all key fields are in the entries, and the others apart
pub record Holds (keys : List (Order × List ℕ)) (entries : List Entry) (others : List Held) (rows : List Row) : Type 0 where
  pub keyed : AllByRecursion (Keyed keys) entries
  pub with_keys : map row_of entries ≡ filter (λ row. has_keys keys row.0) rows
  pub without : map held_row others ≡ filter (λ row. not (has_keys keys row.0)) rows

abbrev pub SortHolds : SortRows → List Row → Type 0
SortHolds s rows = Holds (keys_in s.keys.items) s.entries.items s.others.items rows

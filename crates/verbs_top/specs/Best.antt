-- The first ints of a field, without the others.
use Rattle.std.specs.Prelude.{◌≡◌, ℕ, zero, suc, Bool, false, ◌&&◌, if◌then◌else◌, List, [], ◌∷◌, map, take, Option, Some, None, slice_get}
use Rattle.std.specs.Ordering.{is_lt, on}
use Rattle.std.specs.declared.cmp.Ordering.{Ordering}
use Rattle.mlr_spec.specs.Tree.{Tree}
use Rattle.mlr_value.specs.Value.{tree_of}
use Rattle.mlr_value.specs.declared.value.Value.{Value}
use Rattle.mlr_sort.specs.InOrder.{in_order}
use Rattle.verbs_base.specs.Records.{Row}
use Rattle.verbs_top.specs.Top.{by_top, is_int}
use Rattle.verbs_top.specs.declared.best.Best.{Best}
use Rattle.verbs_top.specs.declared.best.Entry.{Entry}
use Rattle.verbs_top.specs.declared.best.Held.{Held}
use Rattle.verbs_top.specs.declared.top.Top.{Top}
use Rattle.verbs_top.specs.declared.top.TopOrder.{TopOrder}

-- there are this many first elements, of which each has a property
abbrev pub FirstAre : {A : Type 0} → ℕ → (A → Type 0) → List A → Type 0
FirstAre zero P xs = Unit {0}
FirstAre (suc n) P [] = ⊥
FirstAre (suc n) P (x ∷ xs) = P x × FirstAre n P xs

-- a value, with its record where records are given
abbrev pub Pair : Type 0
Pair = Tree × Option Row

abbrev pub held_row : Held → Row
held_row held = (held.fields, held.ctx)

abbrev pub pair_of : Entry → Pair
pair_of entry = (tree_of entry.value, elim entry.row [ None ↦ None | Some row ↦ Some (held_row row.value) ])

-- how two of them compare: as their values do
abbrev pub by_value : TopOrder → Pair → Pair → Ordering
by_value order = on (λ (pair : Pair). pair.0) (by_top order)

-- the first in order
abbrev pub first_pairs : Top → List Pair → List Pair
first_pairs options pairs = take options.count (in_order (by_value options.order) pairs)

-- what a value adds: itself if it is an int
abbrev pub offered : Option Tree → Option Row → List Pair
offered None row = []
offered (Some value) row = if is_int value then (value, row) ∷ [] else []

-- an int that precedes the last of the first, if that is known
abbrev pub is_wanted : TopOrder → Option Value → Tree → Bool
is_wanted order None value = is_int value
is_wanted order (Some last) value = is_int value && is_lt (by_top order value (tree_of last))

abbrev pub wanted_of : TopOrder → Option Value → Option Tree → Option Tree
wanted_of order last None = None
wanted_of order last (Some value) = if is_wanted order last value then Some value else None

-- it isn't after a value
abbrev pub IsUpTo : TopOrder → Tree → Pair → Type 0
IsUpTo order value pair = is_lt (by_top order value pair.0) ≡ false

-- The first of the entries are the first of those that were given, which are all up to the last one, if that is known.
pub record HoldsBest (options : Top) (given : List Pair) (best : Best) : Type 0 where
  pub first : first_pairs options (map pair_of best.entries.items) ≡ first_pairs options given
  pub upto : (last : Value) → best.last ≡ Some last → FirstAre options.count (IsUpTo options.order (tree_of last)) (in_order (by_value options.order) given)

-- it is the value of the last of as many as are wanted
pub record IsLastWanted (count : ℕ) (pairs : List Pair) (value : Tree) : Type 0 where
  pub place : ℕ
  pub counted : count ≡ suc place
  pub last : Pair
  pub there : slice_get pairs place ≡ Some last
  pub value_is : last.0 ≡ value

-- Records in the order of the ints of a field, as `top` and `sort` give them.
use Rattle.std.proofs.Common.{◌≡◌, ℕ, Bool, true, false, not, ◌&&◌, cond, List, [], ◌∷◌, ◌++◌, take, Option, Some, None, is_some, refl, ap, sym, ◌∙◌}
use Rattle.std.specs.List.{filter}
use Rattle.std.specs.Option.{unwrap_or}
use Rattle.std.specs.Ordering.{ordering_then}
use Rattle.std.specs.declared.cmp.Ordering.{Ordering}
use Rattle.std.specs.declared.cmp.Ordering.TheVariants.{Less, Equal, Greater}
use Rattle.std.proofs.lemmas.Bool.{true≢false}
use Rattle.std.proofs.lemmas.List.{append-nil}
use Rattle.mlr_spec.specs.Pairs.{value_at}
use Rattle.mlr_spec.specs.Tree.{Tree, absent}
use Rattle.mlr_spec.specs.declared.arith.Order.{Order}
use Rattle.mlr_sort.specs.InOrder.{in_order}
use Rattle.mlr_event.specs.declared.event.Ctx.{Ctx}
use Rattle.verbs_base.specs.Records.{Row}
use Rattle.verbs_sort.specs.Sort.{compare_by, has_keys, sort, sorted_rows}
use Rattle.verbs_top.specs.Top.{by_top, is_int, top_rows, value_in}
use Rattle.verbs_top.specs.declared.top.Top.{Top}
use Rattle.verbs_top.specs.declared.top.TopOrder.{TopOrder}
use Rattle.verbs_top.specs.declared.top.TopOrder.TheVariants.{Max, Min}
use Rattle.verbs_laws.specs.SortLike.{order_like, sort_like}

module _ (order : TopOrder) (name : List ℕ) where
  abbrev keys : List (Order × List ℕ)
  keys = (order_like order, name) ∷ []

  -- an order, and nothing after it
  alone : (o : Ordering) → o ≡ ordering_then o Equal
  alone Less = refl
  alone Equal = refl
  alone Greater = refl

  -- both compare the same values
  abbrev by_ints : Row → Row → Ordering
  by_ints row other = by_top order (value_in name row) (value_in name other)

  abbrev by_keys : Row → Row → Ordering
  by_keys row other = compare_by keys row.0 other.0

  same-compare : by_ints ≡ by_keys
  same-compare = λ i row other. compared order row other i
    where
      compared : (o : TopOrder) (row other : Row) → by_top o (value_in name row) (value_in name other) ≡ compare_by ((order_like o, name) ∷ []) row.0 other.0
      compared Max row other = alone (by_top Max (value_in name row) (value_in name other))
      compared Min row other = alone (by_top Min (value_in name row) (value_in name other))

  -- a record with an int in the field has the field
  has-int : (row : Row) → is_int (value_in name row) ≡ true → has_keys keys row.0 ≡ true
  has-int row int = found (value_at name row.0) refl
    where
      found : (value : Option Tree) → value_at name row.0 ≡ value → has_keys keys row.0 ≡ true
      found None is = absurd (true≢false (sym int ∙ ap (λ v. is_int (unwrap_or v absent)) is))
      found (Some value) is = ap (λ v. is_some v && true) is

  abbrev ints : List Row → List Row
  ints rows = filter (λ row. is_int (value_in name row)) rows

  all-have : (rows : List Row) → filter (λ row. has_keys keys row.0) (ints rows) ≡ ints rows
  all-have [] = refl
  all-have (row ∷ rows) = chosen (is_int (value_in name row)) refl (all-have rows)
    where
      chosen : (t : Bool) → is_int (value_in name row) ≡ t → filter (λ r. has_keys keys r.0) (ints rows) ≡ ints rows
          → filter (λ r. has_keys keys r.0) (cond t (row ∷ ints rows) (ints rows)) ≡ cond t (row ∷ ints rows) (ints rows)
      chosen true int rest = ap (λ t. cond t (row ∷ filter (λ (r : Row). has_keys keys r.0) (ints rows)) (filter (λ (r : Row). has_keys keys r.0) (ints rows))) (has-int row int) ∙ ap (λ rs. row ∷ rs) rest
      chosen false other rest = rest

  none-lack : (rows : List Row) → filter (λ row. not (has_keys keys row.0)) (ints rows) ≡ []
  none-lack [] = refl
  none-lack (row ∷ rows) = chosen (is_int (value_in name row)) refl (none-lack rows)
    where
      chosen : (t : Bool) → is_int (value_in name row) ≡ t → filter (λ r. not (has_keys keys r.0)) (ints rows) ≡ []
          → filter (λ r. not (has_keys keys r.0)) (cond t (row ∷ ints rows) (ints rows)) ≡ []
      chosen true int rest = ap (λ t. cond (not t) (row ∷ filter (λ (r : Row). not (has_keys keys r.0)) (ints rows)) (filter (λ (r : Row). not (has_keys keys r.0)) (ints rows))) (has-int row int) ∙ rest
      chosen false other rest = rest

  -- sorted records that all have the field
  ints-sorted : (rows : List Row) → in_order by_ints (ints rows) ≡ sorted_rows keys (ints rows)
  ints-sorted rows =
      (λ i. in_order (same-compare i) (sym (all-have rows) i))
      ∙ sym (append-nil (in_order by_keys (filter (λ (row : Row). has_keys keys row.0) (ints rows))))
      ∙ ap (λ more. in_order by_keys (filter (λ (row : Row). has_keys keys row.0) (ints rows)) ++ more) (sym (none-lack rows))

-- the first of them
pub rows-sorted : (options : Top) (name : List ℕ) (rows : List Row) (ctx : Ctx)
    → top_rows options rows name ≡ take options.count ((sort (sort_like options.order name)).late (filter (λ row. is_int (value_in name row)) rows) ctx)
rows-sorted options name rows ctx = ap (take options.count) (ints-sorted options.order name rows)

-- What is kept of the ints of a field.
use Rattle.std.proofs.Common.{◌≡◌, ℕ, ◌<◌, ◌&&◌, Bool, true, false, cond, List, [], ◌∷◌, ◌++◌, map, take, Option, Some, None, slice_get, get_or, length, refl, ap, sym, subst, ◌∙◌}
use Rattle.std.specs.List.{AllByRecursion}
use Rattle.std.specs.Cmp.{IsStrictWeakOrder, IsTotalOrder, on_total}
use Rattle.std.specs.Ordering.{is_lt}
use Rattle.std.proofs.lemmas.List.{append-nil, map-append}
use Rattle.std.proofs.lemmas.List.Sorted.{ranks_by}
use Rattle.std.proofs.lemmas.Option.{slice_get-get_or, slice_get-map}
use Rattle.std.specs.Option.{option_map}
use Rattle.mlr_spec.specs.Order.{order_total}
use Rattle.mlr_spec.specs.Tree.{Tree}
use Rattle.mlr_spec.specs.declared.arith.Order.TheVariants.{Number, NumberDown}
use Rattle.mlr_value.specs.Value.{tree_of}
use Rattle.mlr_value.specs.declared.value.Value.{Value}
use Rattle.mlr_sort.specs.InOrder.{in_order}
use Rattle.mlr_sort.proofs.InOrder.{in_order-map, less}
use Rattle.verbs_base.specs.Records.{Row}
use Rattle.verbs_top.specs.Best.{FirstAre, HoldsBest, IsLastWanted, IsUpTo, Pair, by_value, first_pairs, is_wanted, offered, pair_of, wanted_of}
use Rattle.verbs_top.specs.Top.{by_top, is_int}
use Rattle.verbs_top.specs.declared.best.Best.{Best}
use Rattle.verbs_top.specs.declared.best.Entry.{Entry}
use Rattle.verbs_top.specs.declared.top.Top.{Top}
use Rattle.verbs_top.specs.declared.top.TopOrder.{TopOrder}
use Rattle.verbs_top.specs.declared.top.TopOrder.TheVariants.{Max, Min}
use Rattle.verbs_top.proofs.FirstOnes.{first-last, first-more, first-passed, first-same, same-more}

-- any two values compare
pub top-total : (order : TopOrder) → IsTotalOrder (by_top order)
top-total Max = order_total NumberDown
top-total Min = order_total Number

pairs-total : (order : TopOrder) → IsTotalOrder (by_value order)
pairs-total order = on_total (λ (pair : Pair). pair.0) (top-total order)

pairs-order : (order : TopOrder) → IsStrictWeakOrder (less (by_value order))
pairs-order order = ranks_by (pairs-total order) (λ pair. pair)

pub all-unit : {A : Type 0} (xs : List A) → AllByRecursion (λ (x : A). Unit {0}) xs
all-unit [] = tt
all-unit (x ∷ xs) = (tt, all-unit xs)

-- entries are sorted as what they stand for
pub sorted-pairs : (order : TopOrder) (entries : List Entry) → map pair_of (in_order (λ entry other. by_top order (tree_of entry.value) (tree_of other.value)) entries) ≡ in_order (by_value order) (map pair_of entries)
sorted-pairs order entries =
    in_order-map pair_of (λ (entry other : Entry). by_top order (tree_of entry.value) (tree_of other.value)) (by_value order) (λ (entry : Entry). Unit {0}) (λ x y p q. refl) entries (all-unit entries)

module _ (options : Top) (given : List Pair) (best : Best) (holds : HoldsBest options given best) where
  -- one more entry
  pub holds-push : (best' : Best) (entry : Entry) → best'.entries.items ≡ best.entries.items ++ entry ∷ [] → best'.last ≡ best.last
      → HoldsBest options (given ++ pair_of entry ∷ []) best'
  holds-push best' entry pushed same = record {
    first =
        ap (first_pairs options) (ap (map pair_of) pushed ∙ map-append pair_of best.entries.items (entry ∷ []))
        ∙ same-more (by_value options.order) (pairs-order options.order) options.count (map pair_of best.entries.items) given (pair_of entry) holds.first;
    upto = λ last is.
        first-more (by_value options.order) (pairs-order options.order) (tree_of last, None) options.count given (pair_of entry) (holds.upto last (sym same ∙ is));
  }

  -- only the first entries, of which the last may be known
  pub holds-cut : (best' : Best) → map pair_of best'.entries.items ≡ first_pairs options (map pair_of best.entries.items)
      → ((last : Value) → best'.last ≡ Some last → IsLastWanted options.count (map pair_of best'.entries.items) (tree_of last))
      → HoldsBest options given best'
  holds-cut best' cut known = record {
    first = ap (first_pairs options) cut ∙ first-same (by_value options.order) (pairs-order options.order) options.count (map pair_of best.entries.items) ∙ holds.first;
    upto = λ last is. upto last (known last is);
  }
    where
      upto : (last : Value) → IsLastWanted options.count (map pair_of best'.entries.items) (tree_of last)
          → FirstAre options.count (IsUpTo options.order (tree_of last)) (in_order (by_value options.order) given)
      upto last wanted =
          subst (λ value. FirstAre options.count (IsUpTo options.order value) (in_order (by_value options.order) given)) wanted.value_is
          (subst (λ n. FirstAre n (IsUpTo options.order wanted.last.0) (in_order (by_value options.order) given)) (sym wanted.counted)
          (first-last (by_value options.order) (pairs-order options.order) wanted.place given (map pair_of best.entries.items) wanted.last
          (subst (λ n. take n (in_order (by_value options.order) (map pair_of best.entries.items)) ≡ take n (in_order (by_value options.order) given)) wanted.counted holds.first)
          (subst (λ n. slice_get (take n (in_order (by_value options.order) (map pair_of best.entries.items))) wanted.place ≡ Some wanted.last) wanted.counted
          (ap (λ pairs. slice_get pairs wanted.place) (sym cut) ∙ wanted.there))))

  -- a value that isn't among the first
  pub holds-passed : (value : Option Tree) (row : Option Row) → wanted_of options.order best.last value ≡ None → HoldsBest options (given ++ offered value row) best
  holds-passed None row none = subst (λ pairs. HoldsBest options pairs best) (sym (append-nil given)) holds
  holds-passed (Some value) row none = chosen (is_int value) refl
    where
      late : (last : Option Value) → best.last ≡ last → is_int value ≡ true → cond (is_wanted options.order last value) (Some value) None ≡ None → HoldsBest options (given ++ (value, row) ∷ []) best
      late None is int none = absurd (let e : Some value ≡ None = sym (ap (λ t. cond {A = Option Tree} t (Some value) None) int) ∙ none in cc)
      late (Some last) is int none = apart (is_lt (by_top options.order value (tree_of last))) refl
        where
          apart : (t : Bool) → is_lt (by_top options.order value (tree_of last)) ≡ t → HoldsBest options (given ++ (value, row) ∷ []) best
          apart true before = absurd (let e : Some value ≡ None = sym ((λ i. cond (int i && before i) (Some value) None)) ∙ none in cc)
          apart false after = record {
            first = holds.first ∙ sym (first-passed (by_value options.order) (pairs-order options.order) (tree_of last, None) options.count given (value, row) (holds.upto last is) after);
            upto = λ other known. first-more (by_value options.order) (pairs-order options.order) (tree_of other, None) options.count given (value, row) (holds.upto other known);
          }

      chosen : (t : Bool) → is_int value ≡ t → HoldsBest options (given ++ cond (is_int value) ((value, row) ∷ []) []) best
      chosen true int = subst (λ t. HoldsBest options (given ++ cond t ((value, row) ∷ []) []) best) (sym int) (late best.last refl int none)
      chosen false other = subst (λ t. HoldsBest options (given ++ cond t ((value, row) ∷ []) []) best) (sym other) (subst (λ pairs. HoldsBest options pairs best) (sym (append-nil given)) holds)

-- one value, with its record
abbrev pub one : Tree → Option Row → List Pair
one value row = (value, row) ∷ []

-- a value that may be among the first is an int
pub wanted-offered : (order : TopOrder) (last : Option Value) (value : Option Tree) (found : Tree) (row : Option Row) → wanted_of order last value ≡ Some found → offered value row ≡ one found row
wanted-offered order last None found row is = absurd (let e : None ≡ Some found = is in cc)
wanted-offered order None (Some value) found row is = chosen (is_int value) refl
  where
    chosen : (t : Bool) → is_int value ≡ t → cond (is_int value) (one value row) [] ≡ one found row
    chosen true int = let e : Some value ≡ Some found = sym (ap (λ t. cond {A = Option Tree} t (Some value) None) int) ∙ is in let same : value ≡ found = cc in ap (λ t. cond t (one value row) []) int ∙ ap (λ (v : Tree). one v row) same
    chosen false other = absurd (let e : None ≡ Some found = sym (ap (λ t. cond {A = Option Tree} t (Some value) None) other) ∙ is in cc)
wanted-offered order (Some last) (Some value) found row is = chosen (is_int value) refl
  where
    chosen : (t : Bool) → is_int value ≡ t → cond (is_int value) (one value row) [] ≡ one found row
    chosen true int = apart (is_lt (by_top order value (tree_of last))) refl
      where
        apart : (t : Bool) → is_lt (by_top order value (tree_of last)) ≡ t → cond (is_int value) (one value row) [] ≡ one found row
        apart true before = let e : Some value ≡ Some found = sym (λ i. cond (int i && before i) (Some value) None) ∙ is in let same : value ≡ found = cc in ap (λ t. cond t (one value row) []) int ∙ ap (λ (v : Tree). one v row) same
        apart false after = absurd (let e : None ≡ Some found = sym (λ i. cond (int i && after i) (Some value) None) ∙ is in cc)
    chosen false other = absurd (let e : None ≡ Some found = sym (ap (λ t. cond (t && is_lt (by_top order value (tree_of last))) (Some value) None) other) ∙ is in cc)

-- the entry at a place
pub pair-there : (entries : List Entry) (entry : Entry) (place : ℕ) → place < length entries → entry ≡ get_or entries place entry → slice_get (map pair_of entries) place ≡ Some (pair_of entry)
pair-there entries entry place within is =
    slice_get-map pair_of entries place ∙ ap (option_map pair_of) (slice_get-get_or entries place entry within ∙ ap Some (sym is))

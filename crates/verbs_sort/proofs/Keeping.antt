-- What `sort` keeps.
use Rattle.std.proofs.Common.{◌≡◌, ℕ, ◌+◌, ◌<◌, Bool, true, false, not, cond, List, [], ◌∷◌, ◌++◌, drop, get_or, length, map, ap, sym, subst, ◌∙◌, add-one, drop-cons, append_assoc}
use Rattle.std.specs.List.{AllByRecursion, filter}
use Rattle.std.proofs.lemmas.List.Elements.{filter-append}
use Rattle.std.proofs.lemmas.List.{append-nil, map-append}
use Rattle.mlr_spec.specs.declared.arith.Order.{Order}
use Rattle.mlr_sort.specs.InOrder.{in_order}
use Rattle.mlr_sort.proofs.InOrder.{in_order-map}
use Rattle.mlr_event.specs.declared.event.Event.{Event}
use Rattle.verbs_base.specs.Records.{Row, events_of}
use Rattle.verbs_sort.specs.Kept.{HasValues, Holds, Keyed, compare_values, held_row, keys_in, row_of, trees_of}
use Rattle.verbs_sort.specs.Sort.{compare_by, has_keys, sorted_rows}
use Rattle.verbs_sort.specs.declared.sort.Entry.{Entry}
use Rattle.verbs_sort.specs.declared.sort.Held.{Held}
use Rattle.verbs_sort.specs.declared.sort.SortKey.{SortKey}
use Rattle.verbs_sort.proofs.Comparing.{as-values}

-- entries of records compare as the records
pub entries-compare : (keys : List (Order × List ℕ)) (x y : Entry) → Keyed keys x → Keyed keys y
    → compare_values keys (trees_of x.values) (trees_of y.values) ≡ compare_by keys (row_of x).0 (row_of y).0
entries-compare keys x y = as-values keys (row_of x).0 (row_of y).0 (trees_of x.values) (trees_of y.values)

pub sorted-entries : (keys : List (Order × List ℕ)) (entries : List Entry) → AllByRecursion (Keyed keys) entries
    → map row_of (in_order (λ x y. compare_values keys (trees_of x.values) (trees_of y.values)) entries)
    ≡ in_order (λ row other. compare_by keys row.0 other.0) (map row_of entries)
sorted-entries keys = in_order-map row_of _ _ (Keyed keys) (entries-compare keys)

all-append : {A : Type 0} (P : A → Type 0) (xs : List A) (x : A) → AllByRecursion P xs → P x → AllByRecursion P (xs ++ x ∷ [])
all-append P [] x all last = (last, tt)
all-append P (y ∷ ys) x all last = (all.0, all-append P ys x all.1 last)

module _ {A : Type 0} where
  pub dropped : (xs : List A) (i : ℕ) (x : A) → i < length xs → x ≡ get_or xs i x → drop i xs ≡ x ∷ drop (i + 1) xs
  dropped xs i x below is = drop-cons xs i x below ∙ (λ j. sym is j ∷ drop (sym (add-one i) j) xs)

-- one record more passes a test, or doesn't
module _ {A : Type 0} (test : A → Bool) (rows : List A) (row : A) where
  pub filter-passed : test row ≡ true → filter test (rows ++ row ∷ []) ≡ filter test rows ++ row ∷ []
  filter-passed is = filter-append test rows (row ∷ []) ∙ ap (λ t. filter test rows ++ cond t (row ∷ []) []) is

  pub filter-left : test row ≡ false → filter test (rows ++ row ∷ []) ≡ filter test rows
  filter-left isnt =
      filter-append test rows (row ∷ []) ∙ ap (λ t. filter test rows ++ cond t (row ∷ []) []) isnt ∙ append-nil (filter test rows)

-- a record more, among the entries or the others
module _ (keys : List (Order × List ℕ)) (entries : List Entry) (others : List Held) (rows : List Row) (holds : Holds keys entries others rows) where
  pub holding-entry : (entry : Entry) → has_keys keys (row_of entry).0 ≡ true → Keyed keys entry
      → Holds keys (entries ++ entry ∷ []) others (rows ++ row_of entry ∷ [])
  holding-entry entry is keyed = record {
    keyed = all-append (Keyed keys) entries entry holds.keyed keyed;
    with_keys =
        map-append row_of entries (entry ∷ []) ∙ ap (λ rs. rs ++ row_of entry ∷ []) holds.with_keys
        ∙ sym (filter-passed (λ row. has_keys keys row.0) rows (row_of entry) is);
    without = holds.without ∙ sym (filter-left (λ row. not (has_keys keys row.0)) rows (row_of entry) (ap not is));
  }

  pub holding-other : (held : Held) → has_keys keys held.fields ≡ false
      → Holds keys entries (others ++ held ∷ []) (rows ++ held_row held ∷ [])
  holding-other held isnt = record {
    keyed = holds.keyed;
    with_keys = holds.with_keys ∙ sym (filter-left (λ row. has_keys keys row.0) rows (held_row held) isnt);
    without =
        map-append held_row others (held ∷ []) ∙ ap (λ rs. rs ++ held_row held ∷ []) holds.without
        ∙ sym (filter-passed (λ row. not (has_keys keys row.0)) rows (held_row held) (ap not isnt));
  }

-- what the end gives, of sorted entries and then the others
pub given-sorted : (keys : List (Order × List ℕ)) (entries sorted : List Entry) (others : List Held) (rows : List Row) (out middle last : List Event)
    → Holds keys entries others rows → map row_of sorted ≡ in_order (λ row other. compare_by keys row.0 other.0) (map row_of entries)
    → middle ≡ out ++ events_of (map row_of sorted) → last ≡ middle ++ events_of (map held_row others) → last ≡ out ++ events_of (sorted_rows keys rows)
given-sorted keys entries sorted others rows out middle last holds ordered first second =
    second ∙ ap (λ events. events ++ events_of (map held_row others)) first
    ∙ append_assoc out (events_of (map row_of sorted)) (events_of (map held_row others))
    ∙ ap (λ events. out ++ events) (sym (map-append _ (map row_of sorted) (map held_row others)))
    ∙ ap (λ rs. out ++ events_of rs) (λ i. chosen i ++ holds.without i)
  where
    chosen : map row_of sorted ≡ in_order (λ row other. compare_by keys row.0 other.0) (filter (λ row. has_keys keys row.0) rows)
    chosen = ordered ∙ ap (in_order (λ (row other : Row). compare_by keys row.0 other.0)) holds.with_keys

-- the same where the entry is of this record, and was pushed
pub keeps-entry : (keys : List (Order × List ℕ)) (entries pushed : List Entry) (others : List Held) (rows : List Row) (entry : Entry) (row : Row)
    → Holds keys entries others rows → row_of entry ≡ row → has_keys keys row.0 ≡ true → HasValues keys row.0 (trees_of entry.values)
    → pushed ≡ entries ++ entry ∷ [] → Holds keys pushed others (rows ++ row ∷ [])
keeps-entry keys entries pushed others rows entry row holds at is values end =
    let kept = holding-entry keys entries others rows holds entry (ap (λ (r : Row). has_keys keys r.0) at ∙ is) (subst (λ (r : Row). HasValues keys r.0 (trees_of entry.values)) (sym at) values) in
    subst (λ r. Holds keys pushed others (rows ++ r ∷ [])) at (subst (λ es. Holds keys es others (rows ++ row_of entry ∷ [])) (sym end) kept)

-- the same of what was taken out of the state
pub given-at_end : (keys kept : List SortKey) (entries taken sorted : List Entry) (others left : List Held) (rows : List Row) (out middle last : List Event)
    → kept ≡ keys → taken ≡ entries → left ≡ others → Holds (keys_in keys) entries others rows
    → (AllByRecursion (Keyed (keys_in kept)) taken → map row_of sorted ≡ in_order (λ row other. compare_by (keys_in kept) row.0 other.0) (map row_of taken))
    → middle ≡ out ++ events_of (map row_of sorted) → last ≡ middle ++ events_of (map held_row left) → last ≡ out ++ events_of (sorted_rows (keys_in keys) rows)
given-at_end keys kept entries taken sorted others left rows out middle last e f g holds ordered first second =
    let same : Holds (keys_in kept) taken left rows = subst (λ ks. Holds (keys_in ks) taken left rows) (sym e) (subst (λ es. Holds (keys_in keys) es left rows) (sym f) (subst (λ os. Holds (keys_in keys) entries os rows) (sym g) holds)) in
    given-sorted (keys_in kept) taken sorted left rows out middle last same (ordered same.keyed) first second
    ∙ ap (λ ks. out ++ events_of (sorted_rows (keys_in ks) rows)) e

-- What is kept of the fields of a group, with one more record and at the end.
use Rattle.std.proofs.Common.{◌≡◌, ℕ, zero, suc, pos, ◌+◌, ◌<◌, ◌≤◌, Bool, true, false, cond, List, [], ◌∷◌, ◌++◌, drop, length, map, max, set, take, Option, Some, None, get_or, refl, ap, sym, subst, ◌∙◌, add-one, append_assoc, arith}
use Rattle.std.specs.List.{cons_option, filter, fold}
use Rattle.std.specs.Option.{unwrap_or}
use Rattle.std.proofs.Math.Seq.{drop-cons}
use Rattle.std.proofs.lemmas.List.{length-map, map-append, append-nil, drop_all, get_or-map, take-map, take_all, take_more}
use Rattle.std.proofs.lemmas.List.Elements.{filter-append, filter_map-append}
use Rattle.mlr_spec.specs.Pairs.{value_at}
use Rattle.mlr_spec.specs.Tree.{Tree, absent, empty, int}
use Rattle.mlr_sort.specs.InOrder.{in_order}
use Rattle.mlr_sort.proofs.InOrder.{in_order-map}
use Rattle.verbs_base.specs.Records.{Row, records}
use Rattle.stat_base.specs.Outputs.{output_name}
use Rattle.stat_base.specs.Values.{values_of}
use Rattle.std.specs.Prelude.{codes}
use Rattle.verbs_top.specs.Best.{HoldsBest, Pair, by_value, first_pairs, offered, pair_of}
use Rattle.verbs_top.specs.State.{HoldColumns, alone, column_of, first_list, first_trees, ints_at, longest, made_fields, other_lists, output_names, row_pairs, rows_in, trees_in, values_in, with_row}
use Rattle.verbs_top.specs.Top.{by_top, is_int, made_at, most, top_rows, top_values, value_in}
use Rattle.std.specs.Global.{Vec}
use Rattle.mlr_value.specs.Value.{tree_of}
use Rattle.verbs_top.specs.declared.best.Entry.{Entry}
use Rattle.verbs_top.specs.declared.best.Best.{Best}
use Rattle.verbs_top.specs.declared.top.Top.{Top}
use Rattle.verbs_top.proofs.Keeping.{all-unit, one}

module _ {A : Type 0} where
  -- the rest of a list begins with the element at the place
  pub dropped : (xs : List A) (i : ℕ) (x : A) → i < length xs → x ≡ get_or xs i x → drop i xs ≡ x ∷ drop (i + 1) xs
  dropped xs i x below is = drop-cons xs i x below ∙ (λ j. sym is j ∷ drop (sym (add-one i) j) xs)

  pub taken : (xs : List A) (i : ℕ) (x : A) → i < length xs → x ≡ get_or xs i x → take (i + 1) xs ≡ take i xs ++ x ∷ []
  taken xs i x below is = take_more xs i x below ∙ ap (λ y. take i xs ++ y ∷ []) (sym is)

  length-take : (i : ℕ) (xs : List A) → i < length xs → length (take i xs) ≡ i
  length-take zero xs below = refl
  length-take (suc i) [] below = absurd (omega (arith, below))
  length-take (suc i) (x ∷ xs) below = ap suc (length-take i xs (omega (arith, below)))

-- one more record adds its value
pub column-more : (name : List ℕ) (rows : List Row) (row : Row) → column_of name (rows ++ row ∷ []) ≡ column_of name rows ++ offered (value_at name row.0) None
column-more name rows row =
    ap (λ given. map alone (filter is_int (values_of name given))) (map-append (λ (r : Row). r.0) rows (row ∷ []))
    ∙ ap (λ values. map alone (filter is_int values)) (filter_map-append (value_at name) (records rows) (row.0 ∷ []))
    ∙ ap (map alone) (filter-append is_int (values_of name (records rows)) (values_of name (row.0 ∷ [])))
    ∙ map-append alone (filter is_int (values_of name (records rows))) (filter is_int (values_of name (row.0 ∷ [])))
    ∙ ap (λ pairs. column_of name rows ++ pairs) (last (value_at name row.0))
  where
    chosen : (value : Tree) (t : Bool) → map alone (cond t (value ∷ []) []) ≡ cond t (one value None) []
    chosen value true = refl
    chosen value false = refl

    last : (value : Option Tree) → map alone (filter is_int (cons_option value [])) ≡ offered value None
    last None = refl
    last (Some value) = chosen value (is_int value)

pub row_pairs-more : (name : List ℕ) (rows : List Row) (row : Row) → row_pairs name (rows ++ row ∷ []) ≡ row_pairs name rows ++ offered (value_at name row.0) (Some row)
row_pairs-more name rows row =
    ap (map (with_row name)) (filter-append (λ (r : Row). is_int (value_in name r)) rows (row ∷ []))
    ∙ map-append (with_row name) (filter (λ (r : Row). is_int (value_in name r)) rows) (filter (λ (r : Row). is_int (value_in name r)) (row ∷ []))
    ∙ ap (λ pairs. row_pairs name rows ++ pairs) (last (value_at name row.0) refl)
  where
    chosen : (value : Tree) (t : Bool) → value_at name row.0 ≡ Some value → map (with_row name) (cond t (row ∷ []) []) ≡ cond t (one value (Some row)) []
    chosen value true is = ap (λ v. one (unwrap_or v absent) (Some row)) is
    chosen value false is = refl

    last : (value : Option Tree) → value_at name row.0 ≡ value → map (with_row name) (cond (is_int (value_in name row)) (row ∷ []) []) ≡ offered value (Some row)
    last None is = ap (λ v. map (with_row name) (cond (is_int (unwrap_or v absent)) (row ∷ []) [])) is
    last (Some value) is = ap (λ v. map (with_row name) (cond (is_int (unwrap_or v absent)) (row ∷ []) [])) is ∙ chosen value (is_int value) is

module _ (options : Top) where
  pub columns-many : (given : List (List Pair)) (columns : List Best) → HoldColumns options given columns → length columns ≡ length given
  columns-many [] [] held = refl
  columns-many [] (best ∷ columns) held = absurd held
  columns-many (first ∷ given) [] held = absurd held
  columns-many (first ∷ given) (best ∷ columns) held = ap suc (columns-many given columns held.1)

  pub columns-push : (given : List (List Pair)) (columns : List Best) (more : List Pair) (best : Best) → HoldColumns options given columns → HoldsBest options more best
      → HoldColumns options (given ++ more ∷ []) (columns ++ best ∷ [])
  columns-push [] [] more best held last = (last, tt)
  columns-push [] (first ∷ columns) more best held last = absurd held
  columns-push (own ∷ given) [] more best held last = absurd held
  columns-push (own ∷ given) (first ∷ columns) more best held last = (held.0, columns-push given columns more best held.1 last)

  -- the ints at a place and those that follow, with more at the place
  columns-set : (done : List (List Pair)) (own extra : List Pair) (more : List (List Pair)) (columns : List Best) (i : ℕ) (old best : Best)
      → i ≡ length done → old ≡ get_or columns i old → ((given : List Pair) → HoldsBest options given old → HoldsBest options (given ++ extra) best)
      → HoldColumns options (done ++ own ∷ more) columns → HoldColumns options (done ++ (own ++ extra) ∷ more) (set columns i best)
  columns-set [] own extra more [] i old best at is takes held = absurd held
  columns-set [] own extra more (first ∷ columns) zero old best at is takes held = (takes own (subst (HoldsBest options own) (sym is) held.0), held.1)
  columns-set [] own extra more (first ∷ columns) (suc i) old best at is takes held = absurd (omega (arith, at))
  columns-set (other ∷ done) own extra more [] i old best at is takes held = absurd held
  columns-set (other ∷ done) own extra more (first ∷ columns) zero old best at is takes held = absurd (omega (arith, at))
  columns-set (other ∷ done) own extra more (first ∷ columns) (suc i) old best at is takes held =
      (held.0, columns-set done own extra more columns i old best (omega (arith, at)) is takes held.1)

  -- the fields before a place have the ints of one more record
  pub columns-next : (names : List (List ℕ)) (place : ℕ) (name : List ℕ) (rows : List Row) (row : Row) (columns : List Best) (old best : Best)
      → place < length names → name ≡ get_or names place name → old ≡ get_or columns place old
      → ((given : List Pair) → HoldsBest options given old → HoldsBest options (given ++ offered (value_at name row.0) None) best)
      → HoldColumns options (map (λ n. column_of n (rows ++ row ∷ [])) (take place names) ++ map (λ n. column_of n rows) (drop place names)) columns
      → HoldColumns options (map (λ n. column_of n (rows ++ row ∷ [])) (take (place + 1) names) ++ map (λ n. column_of n rows) (drop (place + 1) names)) (set columns place best)
  columns-next names place name rows row columns old best below named is takes held =
      let after = λ (n : List ℕ). column_of n (rows ++ row ∷ []) in
      let before = λ (n : List ℕ). column_of n rows in
      let done = map after (take place names) in
      let more = map before (drop (place + 1) names) in
      let many : length done ≡ place = length-map (take place names) after ∙ length-take place names below in
      let now : HoldColumns options (done ++ before name ∷ more) columns = subst (λ ns. HoldColumns options (done ++ map before ns) columns) (dropped names place name below named) held in
      let next : HoldColumns options (done ++ (before name ++ offered (value_at name row.0) None) ∷ more) (set columns place best) = columns-set done (before name) (offered (value_at name row.0) None) more columns place old best (sym many) is takes now in
      let placed : map after (take (place + 1) names) ++ more ≡ done ++ (before name ++ offered (value_at name row.0) None) ∷ more =
      ap (λ ns. map after ns ++ more) (taken names place name below named) ∙ ap (λ pairs. pairs ++ more) (map-append after (take place names) (name ∷ []))
      ∙ append_assoc done (after name ∷ []) more ∙ ap (λ pairs. done ++ pairs ∷ more) (column-more name rows row) in
      subst (λ given. HoldColumns options given (set columns place best)) (sym placed) next

  -- pairs that stand for others in the same order
  module _ {A : Type 0} (f : A → Pair) where
    first-of : (xs : List A) → first_pairs options (map f xs) ≡ map f (take options.count (in_order (λ x y. by_top options.order (f x).0 (f y).0) xs))
    first-of xs =
        ap (take options.count) (sym (in_order-map f (λ (x y : A). by_top options.order (f x).0 (f y).0) (by_value options.order) (λ (x : A). Unit {0}) (λ x y p q. refl) xs (all-unit xs)))
        ∙ take-map f options.count (in_order (λ (x y : A). by_top options.order (f x).0 (f y).0) xs)

  values-alone : (xs : List Tree) → values_in (map alone xs) ≡ xs
  values-alone [] = refl
  values-alone (x ∷ xs) = ap (λ ys. x ∷ ys) (values-alone xs)

  rows-with : (name : List ℕ) (rows : List Row) → rows_in (map (with_row name) rows) ≡ rows
  rows-with name [] = refl
  rows-with name (row ∷ rows) = ap (λ rs. row ∷ rs) (rows-with name rows)

  -- the first ints of a field
  values-first : (name : List ℕ) (rows : List Row) (best : Best) → HoldsBest options (column_of name rows) best → first_trees options best ≡ top_values options rows name
  values-first name rows best held =
      ap values_in held.first
      ∙ ap values_in (first-of alone (filter is_int (values_of name (records rows))))
      ∙ values-alone (top_values options rows name)

  -- the records of the first ints
  pub rows-first : (name : List ℕ) (rows : List Row) (best : Best) → HoldsBest options (row_pairs name rows) best → rows_in (first_pairs options (map pair_of best.entries.items)) ≡ top_rows options rows name
  rows-first name rows best held =
      ap rows_in held.first
      ∙ ap rows_in (first-of (with_row name) (filter (λ (row : Row). is_int (value_in name row)) rows))
      ∙ rows-with name (top_rows options rows name)

  pub columns-first : (names : List (List ℕ)) (rows : List Row) (columns : List Best) → HoldColumns options (map (λ name. column_of name rows) names) columns
      → map (first_trees options) columns ≡ map (top_values options rows) names
  columns-first [] rows [] held = refl
  columns-first [] rows (best ∷ columns) held = absurd held
  columns-first (name ∷ names) rows [] held = absurd held
  columns-first (name ∷ names) rows (best ∷ columns) held =
      λ i. values-first name rows best held.0 i ∷ columns-first names rows columns held.1 i

  -- what is made of the first ints
  pub fields-made : (rows : List Row) (place : ℕ) → made_fields options.output (output_names options.names) (map (top_values options rows) options.names) place ≡ made_at options rows place
  fields-made rows place = ap (λ fields. (options.output, int (pos (place + 1)) []) ∷ fields) (ints options.names)
    where
      made : List ℕ → List ℕ × Tree
      made name = (output_name name (codes "top"), get_or (top_values options rows name) place empty)

      ints : (names : List (List ℕ)) → ints_at (output_names names) (map (top_values options rows) names) place ≡ map made names
      ints [] = refl
      ints (name ∷ names) = ap (λ fields. made name ∷ fields) (ints names)

  pub longest-most : (rows : List Row) → longest (map (top_values options rows) options.names) ≡ most options rows
  longest-most rows = ap (fold max 0) (lengths options.names)
    where
      lengths : (names : List (List ℕ)) → map length (map (top_values options rows) names) ≡ map (λ name. length (top_values options rows name)) names
      lengths [] = refl
      lengths (name ∷ names) = ap (λ ns. length (top_values options rows name) ∷ ns) (lengths names)

-- the lists from a place on
pub first-drop : (i : ℕ) (lists : List (List Tree)) → first_list (drop i lists) ≡ get_or lists i []
first-drop zero [] = refl
first-drop (suc i) [] = refl
first-drop zero (list ∷ lists) = refl
first-drop (suc i) (list ∷ lists) = first-drop i lists

pub others-drop : (i : ℕ) (lists : List (List Tree)) → other_lists (drop i lists) ≡ drop (i + 1) lists
others-drop i lists = steps i lists ∙ ap (λ n. drop n lists) (sym (add-one i))
  where
    steps : (i : ℕ) (lists : List (List Tree)) → other_lists (drop i lists) ≡ drop (suc i) lists
    steps zero [] = refl
    steps (suc i) [] = refl
    steps zero (list ∷ lists) = refl
    steps (suc i) (list ∷ lists) = steps i lists

-- no ints of one more field
pub none-more : (options : Top) (names : List (List ℕ)) (i : ℕ) (columns : List Best) (best : Best) → i < length names
    → HoldColumns options (map (λ name. column_of name []) (take i names)) columns → HoldsBest options [] best
    → HoldColumns options (map (λ name. column_of name []) (take (i + 1) names)) (columns ++ best ∷ [])
none-more options names i columns best below held none =
    subst (λ given. HoldColumns options given (columns ++ best ∷ []))
    (sym (ap (map (λ (name : List ℕ). column_of name [])) (take_more names i [] below) ∙ map-append (λ (name : List ℕ). column_of name []) (take i names) (get_or names i [] ∷ [])))
    (columns-push options (map (λ (name : List ℕ). column_of name []) (take i names)) columns [] best held none)

-- all fields have the ints of the record, once no field is left
pub all-next : (options : Top) (names : List (List ℕ)) (i : ℕ) (after before : List ℕ → List Pair) (columns : List Best) → length names ≤ i
    → HoldColumns options (map after (take i names) ++ map before (drop i names)) columns → HoldColumns options (map after names) columns
all-next options names i after before columns past held =
    subst (λ given. HoldColumns options given columns)
    ((λ j. map after (take_all i names past j) ++ map before (drop_all i names past j)) ∙ append-nil (map after names)) held

-- the int of an entry in the lists
pub int-there : (lists : List (Vec Entry)) (list : Vec Entry) (column : ℕ) (entries : List Entry) (entry : Entry) (place : ℕ) → column < length lists → list ≡ get_or lists column list
    → entries ≡ list.items → place < length entries → entry ≡ get_or entries place entry
    → get_or (get_or (map trees_in lists) column []) place empty ≡ tree_of entry.value
int-there lists list column entries entry place within is same below at =
    ap (λ trees. get_or trees place empty) (get_or-map trees_in lists column list [] within ∙ ap trees_in (sym is) ∙ ap (λ es. values_in (map pair_of es)) (sym same))
    ∙ values entries place below at
  where
    values : (entries : List Entry) (place : ℕ) → place < length entries → entry ≡ get_or entries place entry → get_or (values_in (map pair_of entries)) place empty ≡ tree_of entry.value
    values [] place below at = absurd (omega (arith, below))
    values (first ∷ entries) zero below at = ap (λ (e : Entry). tree_of e.value) (sym at)
    values (first ∷ entries) (suc place) below at = values entries place (omega (arith, below)) at

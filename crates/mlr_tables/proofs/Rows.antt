-- Names in strict byte order: each is less than every later one, so a name has one row.
use Rattle.std.proofs.Common.{◌≡◌, ◌≢◌, ℕ, zero, suc, ◌+◌, ◌<◌, ◌≤◌, true, false, List, [], ◌∷◌, length, get_or, Some, None, refl, ap, sym, ◌∙◌, arith, ◌⊎◌, inl, inr}
use Rattle.std.proofs.lemmas.Bool.{false_from_ne_true, true≢false, cases_lt}
use Rattle.std.specs.Cmp.{first_so, second_so, tied_itself}
use Rattle.std.specs.Prelude.{if◌then◌else◌}
use Rattle.std.specs.Cmp.Lexicographic.{slice_cmp, nat_list_cmp_total, bytes_decides, texts_ties}
use Rattle.std.specs.Ordering.{nat_cmp, is_lt, is_eq, ordering_reverse}
use Rattle.std.specs.Option.{option_map}
use Rattle.std.specs.Str.{bytes_eq}
use Rattle.std.specs.declared.cmp.Ordering.{Ordering}
use Rattle.std.specs.declared.cmp.Ordering.TheVariants.{Less, Equal, Greater}
use Rattle.mlr_tables.specs.Table.{is_ascending, row_of}

abbrev pub cmp : List ℕ → List ℕ → Ordering
cmp = slice_cmp nat_cmp

abbrev pub at : List (List ℕ) → ℕ → List ℕ
at names i = get_or names i []

Less-is : (r : Ordering) → is_lt r ≡ true → r ≡ Less
Less-is Less e = refl
Less-is Equal e = absurd (true≢false (sym e))
Less-is Greater e = absurd (true≢false (sym e))

-- a name is less than every later one
first-less : (name : List ℕ) (names : List (List ℕ)) → is_ascending (name ∷ names) ≡ true → (i : ℕ) → i < length names
    → cmp name (at names i) ≡ Less
first-less name [] h i k = absurd (omega (arith, k))
first-less name (next ∷ names) h zero k = Less-is (cmp name next) (first_so (is_lt (cmp name next)) (is_ascending (next ∷ names)) h)
first-less name (next ∷ names) h (suc i) k =
    nat_list_cmp_total.trans name next (at names i) (Less-is (cmp name next) (first_so (is_lt (cmp name next)) (is_ascending (next ∷ names)) h))
    (first-less next names (second_so (is_lt (cmp name next)) (is_ascending (next ∷ names)) h) i (omega (arith, k)))

rest-ascending : (name : List ℕ) (names : List (List ℕ)) → is_ascending (name ∷ names) ≡ true → is_ascending names ≡ true
rest-ascending name [] h = refl
rest-ascending name (next ∷ names) h = second_so (is_lt (cmp name next)) (is_ascending (next ∷ names)) h

pub less : (names : List (List ℕ)) → is_ascending names ≡ true → (i j : ℕ) → i < j → j < length names
    → cmp (at names i) (at names j) ≡ Less
less [] h i j p q = absurd (omega (arith, q))
less (name ∷ names) h i zero p q = absurd (omega (arith, p))
less (name ∷ names) h zero (suc j) p q = first-less name names h j (omega (arith, q))
less (name ∷ names) h (suc i) (suc j) p q = less names (rest-ascending name names h) i j (omega (arith, p)) (omega (arith, q))

Less-not-Equal : Less ≢ Equal
Less-not-Equal e = true≢false (ap is_lt e)

-- a name that is less is another one
pub other : (x y : List ℕ) → cmp x y ≡ Less → x ≢ y
other x y h e = Less-not-Equal (sym h ∙ ap (λ z. cmp x z) (sym e) ∙ tied_itself nat_list_cmp_total x)

same-row : (first name : List ℕ) → first ≡ name → bytes_eq first name ≡ true
same-row first name e = (bytes_decides first name).1 e

other-row : (first name : List ℕ) → first ≢ name → bytes_eq first name ≡ false
other-row first name n = false_from_ne_true (bytes_eq first name) (λ e. n ((bytes_decides first name).0 e))

no_row : (name : List ℕ) (names : List (List ℕ)) → ((i : ℕ) → i < length names → at names i ≢ name)
    → None ≡ row_of name names
no_row name [] h = refl
no_row name (first ∷ names) h =
    ap (option_map suc) (no_row name names (λ i k. h (suc i) (omega (arith, k))))
    ∙ sym (ap (λ b. if b then Some 0 else option_map suc (row_of name names)) (other-row first name (h 0 (omega arith))))

pub row_at : (name : List ℕ) (names : List (List ℕ)) → is_ascending names ≡ true → (i : ℕ) → i < length names
    → at names i ≡ name → Some i ≡ row_of name names
row_at name [] h i k e = absurd (omega (arith, k))
row_at name (first ∷ names) h zero k e =
    sym (ap (λ b. if b then Some 0 else option_map suc (row_of name names)) (same-row first name e))
row_at name (first ∷ names) h (suc i) k e =
    ap (option_map suc) (row_at name names (rest-ascending first names h) i (omega (arith, k)) e)
    ∙ sym (ap (λ b. if b then Some 0 else option_map suc (row_of name names))
    (other-row first name (λ same. other first (at names i) (first-less first names h i (omega (arith, k))) (same ∙ sym e))))

-- what one comparison says of a name and all rows
pub Equal-same : (name row : List ℕ) → cmp name row ≡ Equal → row ≡ name
Equal-same name row h = sym ((bytes_decides name row).0 (texts_ties name row ∙ ap is_eq h))

back : (name row : List ℕ) → cmp name row ≡ Greater → cmp row name ≡ Less
back name row h = nat_list_cmp_total.antisymm row name ∙ ap ordering_reverse h

pub from_row : (name : List ℕ) (names : List (List ℕ)) (row : ℕ) → is_ascending names ≡ true → cmp name (at names row) ≡ Less
    → (i : ℕ) → row ≤ i → i < length names → at names i ≢ name
from_row name names row h less_than i p q same = by (cases_lt row i)
  where
    by : (row < i) ⊎ (i ≤ row) → ⊥
    by (inl k) =
        other name (at names i) (nat_list_cmp_total.trans name (at names row) (at names i) less_than (less names h row i k q))
        (sym same)
    by (inr k) =
        let e : row ≡ i = omega (arith, p, k) in
        other name (at names i) (ap (λ r. cmp name (at names r)) (sym e) ∙ less_than) (sym same)

pub through_row : (name : List ℕ) (names : List (List ℕ)) (row : ℕ) → is_ascending names ≡ true → row < length names
    → cmp name (at names row) ≡ Greater → (i : ℕ) → i < row + 1 → at names i ≢ name
through_row name names row h q greater i p same = by (cases_lt i row)
  where
    by : (i < row) ⊎ (row ≤ i) → ⊥
    by (inl k) =
        other (at names i) name (nat_list_cmp_total.trans (at names i) (at names row) name (less names h i row k q)
        (back name (at names row) greater)) same
    by (inr k) =
        let e : row ≡ i = omega (arith, p, k) in
        other (at names i) name (ap (λ r. cmp (at names r) name) (sym e) ∙ back name (at names row) greater) same

-- a name that is neither before a place nor from it on has no row
pub nowhere : (name : List ℕ) (names : List (List ℕ)) (start end : ℕ) → end ≤ start
    → ((i : ℕ) → i < start → at names i ≢ name) → ((i : ℕ) → end ≤ i → i < length names → at names i ≢ name)
    → None ≡ row_of name names
nowhere name names start end p before after = no_row name names (λ i k. by i k (cases_lt i start))
  where
    by : (i : ℕ) → i < length names → (i < start) ⊎ (start ≤ i) → at names i ≢ name
    by i k (inl h) = before i h
    by i k (inr h) = after i (omega (arith, p, h)) k

-- The texts of maps and arrays, one part after another.
use Rattle.std.proofs.Common.{◌≡◌, ℕ, zero, suc, ◌+◌, ◌==◌, Bool, true, false, ◌&&◌, List, [], ◌∷◌, ◌++◌, map, drop, length, codes, Some, None, slice_get, Result, Ok, Err, is_ok, OnOk, if◌then◌else◌, refl, ap, sym, ◌∙◌, append_assoc, arith, add-one}
use Rattle.std.specs.List.{list_any}
use Rattle.std.proofs.lemmas.Bool.{ne_eqb}
use Rattle.std.proofs.lemmas.List.{append-nil, length-map}
use Rattle.mlr_spec.specs.declared.json.JsonStyle.{JsonStyle}
use Rattle.mlr_spec.specs.Tree.{Tree, fields_of, trees_of, items_in, map_of, array_of, is_collection}
use Rattle.mlr_spec.specs.Json.{json_at, json_pairs, json_items, json_field, bracketed, joined, is_stacked, new_line}
use Rattle.mlr_json.specs.Escapes.{RepresentsBefore}
use Rattle.mlr_json.specs.Writing.{gap, line_end, led}

json_pairs-map : (style : JsonStyle) (level : ℕ) (pairs : List (List ℕ × Tree)) → json_pairs style level (fields_of pairs) ≡ map (json_field style level) pairs
json_pairs-map style level [] = refl
json_pairs-map style level (pair ∷ pairs) = ap (λ x. json_field style level pair ∷ x) (json_pairs-map style level pairs)

json_items-map : (style : JsonStyle) (level : ℕ) (items : List Tree) → json_items style level (trees_of items) ≡ map (json_at style level) items
json_items-map style level [] = refl
json_items-map style level (item ∷ items) = ap (λ x. json_at style level item ∷ x) (json_items-map style level items)

items_in-trees_of : (items : List Tree) → items_in (trees_of items) ≡ items
items_in-trees_of [] = refl
items_in-trees_of (item ∷ items) = ap (λ x. item ∷ x) (items_in-trees_of items)

-- what a separator goes before is led by it
joined-led : (lines : Bool) (level : ℕ) (text : List ℕ) (texts : List (List ℕ)) → joined (gap lines false level) (text ∷ texts) ≡ text ++ led lines false level texts
joined-led lines level text [] = sym (append-nil text)
joined-led lines level text (next ∷ texts) =
    rw (joined-led lines level next texts) (append_assoc text (gap lines false level) (next ++ led lines false level texts) ∙ ap (λ x. text ++ x) (sym (append_assoc (gap lines false level) next (led lines false level texts))))

bracketed-led : (lines : Bool) (level left right : ℕ) (text : List ℕ) (texts : List (List ℕ)) →
    bracketed lines level left right (text ∷ texts) ≡ left ∷ led lines true (level + 1) (text ∷ texts) ++ line_end lines level ++ right ∷ []
bracketed-led true level left right text texts =
    rw (joined-led true (level + 1) text texts) (ap (λ x. left ∷ x ++ new_line level ++ right ∷ []) (sym (append_assoc (new_line (level + 1)) text (led true false (level + 1) texts))))
bracketed-led false level left right text texts =
    rw (joined-led false (level + 1) text texts) (ap (λ x. left ∷ x ++ right ∷ []) (sym (append-nil (text ++ led false false (level + 1) texts))))

drop-at : {A : Type 0} → (xs : List A) (place : ℕ) (x : A) → slice_get xs place ≡ Some x → drop place xs ≡ x ∷ drop (suc place) xs
drop-at [] place x at = absurd (let e : None ≡ Some x = at in cc)
drop-at (y ∷ xs) zero x at = let same : y ≡ x = cc in ap (λ z. z ∷ xs) same
drop-at (y ∷ xs) (suc place) x at = drop-at xs place x at

-- one text more
pub led-next : {A : Type 0} → (lines : Bool) (level : ℕ) (f : A → List ℕ) (xs : List A) (place : ℕ) (x : A) → slice_get xs place ≡ Some x →
    led lines (place == 0) level (map f (drop place xs)) ≡ gap lines (place == 0) level ++ f x ++ led lines (place + 1 == 0) level (map f (drop (place + 1) xs))
led-next lines level f xs place x at =
    let later : (place + 1 == 0) ≡ false = ne_eqb (place + 1) 0 (λ e. omega arith) in
    rw (drop-at xs place x at, later, add-one) refl

pub any-next : {A : Type 0} → (p : A → Bool) (xs : List A) (place : ℕ) (x : A) → slice_get xs place ≡ Some x → p x ≡ false → list_any p (drop place xs) ≡ list_any p (drop (place + 1) xs)
any-next p xs place x at fails = rw (drop-at xs place x at, fails, add-one) refl

pub any-here : {A : Type 0} → (p : A → Bool) (xs : List A) (place : ℕ) (x : A) → slice_get xs place ≡ Some x → p x ≡ true → list_any p (drop place xs) ≡ true
any-here p xs place x at passes = rw (drop-at xs place x at, passes) refl

-- what remains after one text more
pub all-next : {A : Type 0} → (lines : Bool) (level : ℕ) (f : A → List ℕ) (xs : List A) (place : ℕ) (x : A) (into after_gap new all : List ℕ) → slice_get xs place ≡ Some x →
    into ++ led lines (place == 0) level (map f (drop place xs)) ≡ all → after_gap ≡ into ++ gap lines (place == 0) level → new ≡ after_gap ++ f x →
    new ++ led lines (place + 1 == 0) level (map f (drop (place + 1) xs)) ≡ all
all-next lines level f xs place x into after_gap new all at so_far gap_is new_is =
    let g = gap lines (place == 0) level in
    let rest = led lines (place + 1 == 0) level (map f (drop (place + 1) xs)) in
    rw (new_is, gap_is) (append_assoc (into ++ g) (f x) rest ∙ append_assoc into g (f x ++ rest) ∙ ap (λ t. into ++ t) (sym (append_assoc g (f x) rest) ∙ sym (led-next lines level f xs place x at)) ∙ so_far)

-- a last part, which memory may fail
pub last-part : {E : Type 0} → (r : Result (Unit {0}) E) (new old text want : List ℕ) → new ≡ (if is_ok r then old ++ text else old) → old ++ text ≡ want → OnOk r (new ≡ want)
last-part (Ok u) new old text want e same = e ∙ same
last-part (Err e) new old text want at same = tt

-- a bracket, the texts, and the closing bracket
bracketed-parts : (lines : Bool) (level left right : ℕ) (texts into : List ℕ) (all : List (List ℕ)) → (length all ≡ 0 → ⊥) → texts ≡ led lines true (level + 1) all →
    (((into ++ left ∷ []) ++ texts) ++ line_end lines level) ++ right ∷ [] ≡ into ++ bracketed lines level left right all
bracketed-parts lines level left right texts into [] some is = absurd (some refl)
bracketed-parts lines level left right texts into (text ∷ more) some is =
    let inner = led lines true (level + 1) (text ∷ more) in
    rw (is, bracketed-led lines level left right text more)
    (append_assoc ((into ++ left ∷ []) ++ inner) (line_end lines level) (right ∷ [])
    ∙ append_assoc (into ++ left ∷ []) inner (line_end lines level ++ right ∷ [])
    ∙ append_assoc into (left ∷ []) (inner ++ (line_end lines level ++ right ∷ []))
    ∙ ap (λ t. into ++ left ∷ t) (sym (append_assoc inner (line_end lines level) (right ∷ []))))

pub map-written : (style : JsonStyle) (level : ℕ) (pairs : List (List ℕ × Tree)) (into a b c : List ℕ) → (length pairs ≡ 0 → ⊥) → a ≡ into ++ codes "{" →
    b ≡ a ++ led (is_stacked style) true (level + 1) (map (json_field style (level + 1)) pairs) → c ≡ b ++ line_end (is_stacked style) level →
    c ++ codes "}" ≡ into ++ json_at style level (map_of pairs)
map-written style level pairs into a b c some a_is b_is c_is =
    rw (c_is, b_is, a_is, json_pairs-map style (level + 1) pairs)
    (bracketed-parts (is_stacked style) level 123 125 _ into (map (json_field style (level + 1)) pairs) (λ e. some (sym (length-map pairs (json_field style (level + 1))) ∙ e)) refl)

pub array-written : (style : JsonStyle) (lines : Bool) (level : ℕ) (items : List Tree) (into a b c : List ℕ) → (length items ≡ 0 → ⊥) → lines ≡ (is_stacked style && list_any is_collection items) → a ≡ into ++ codes "[" →
    b ≡ a ++ led lines true (level + 1) (map (json_at style (level + 1)) items) → c ≡ b ++ line_end lines level →
    c ++ codes "]" ≡ into ++ json_at style level (array_of items)
array-written style lines level items into a b c some lines_is a_is b_is c_is =
    rw (items_in-trees_of items, ← lines_is, c_is, b_is, a_is, json_items-map style (level + 1) items)
    (bracketed-parts lines level 91 93 _ into (map (json_at style (level + 1)) items) (λ e. some (sym (length-map items (json_at style (level + 1))) ∙ e)) refl)

-- what precedes an old text still precedes it with more after it
pub prefix-next : (old a b c x y : List ℕ) → RepresentsBefore old a → b ≡ a ++ x → c ≡ b ++ y → RepresentsBefore old c
prefix-next old a b c x y prefix b_is c_is = (prefix.0 ++ x ++ y, rw (c_is, b_is, prefix.1, append_assoc old prefix.0 x, append_assoc old (prefix.0 ++ x) y) refl)

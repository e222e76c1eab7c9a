-- The last rows of a list, with one more.
use Rattle.std.proofs.Common.{◌≡◌, ℕ, zero, suc, ◌+◌, ◌-◌, ◌<◌, ◌≤◌, List, [], ◌∷◌, ◌++◌, drop, length, Option, Some, None, refl, ap, sym, ◌∙◌, arith}
use Rattle.std.proofs.lemmas.List.{length-append, length-drop}
use Rattle.std.specs.Option.{option_to_list}
use Rattle.mlr_event.specs.declared.event.Event.{Event}
use Rattle.mlr_event.specs.declared.event.Event.TheVariants as event
use Rattle.verbs_base.specs.Records.{Row, events_of}
use Rattle.verbs_hold.specs.Tail.{last_rows}

module _ {A : Type 0} where
  drop-append : (n : ℕ) (xs ys : List A) → n ≤ length xs → drop n (xs ++ ys) ≡ drop n xs ++ ys
  drop-append zero xs ys within = refl
  drop-append (suc n) [] ys within = absurd (omega (arith, within))
  drop-append (suc n) (x ∷ xs) ys within = drop-append n xs ys (omega (arith, within))

  drop-next : (n : ℕ) (xs : List A) → drop (suc n) xs ≡ drop 1 (drop n xs)
  drop-next zero xs = refl
  drop-next (suc n) [] = refl
  drop-next (suc n) (x ∷ xs) = drop-next n xs

-- as many as are wanted: one more at the end, and one less at the start
pub last-more : (count : ℕ) (rows : List Row) (row : Row) → count < length (last_rows count rows) + 1 → drop 1 (last_rows count rows ++ row ∷ []) ≡ last_rows count (rows ++ row ∷ [])
last-more count rows row more =
    let long : length (last_rows count rows) ≡ length rows - (length rows - count) = length-drop (length rows - count) rows in
    let many : count ≤ length rows = omega (arith, more, long) in
    let all : length (rows ++ row ∷ []) ≡ length rows + 1 = length-append rows (row ∷ []) in
    let next : length (rows ++ row ∷ []) - count ≡ suc (length rows - count) = omega (arith, many, all) in
    let within : length rows - count ≤ length rows = omega arith in
    ap (drop 1) (sym (drop-append (length rows - count) rows (row ∷ []) within))
    ∙ sym (drop-next (length rows - count) (rows ++ row ∷ []))
    ∙ ap (λ n. drop n (rows ++ row ∷ [])) (sym next)

-- fewer: one more at the end
pub last-few : (count : ℕ) (rows : List Row) (row : Row) → length (last_rows count rows) + 1 ≤ count → last_rows count rows ++ row ∷ [] ≡ last_rows count (rows ++ row ∷ [])
last-few count rows row few =
    let long : length (last_rows count rows) ≡ length rows - (length rows - count) = length-drop (length rows - count) rows in
    let all : length (rows ++ row ∷ []) ≡ length rows + 1 = length-append rows (row ∷ []) in
    let none : length rows - count ≡ 0 = omega (arith, few, long) in
    let still : length (rows ++ row ∷ []) - count ≡ 0 = omega (arith, few, long, all) in
    ap (λ n. drop n rows ++ row ∷ []) none ∙ ap (λ n. drop n (rows ++ row ∷ [])) (sym still)

-- rows without their first one, which was taken out
pub rest-of : (rows : List Row) (first : Option Event) (events left : List Event) → events ≡ events_of rows → events ≡ option_to_list first ++ left → (first ≡ None → left ≡ []) → left ≡ events_of (drop 1 rows)
rest-of [] None events left are split none = none refl
rest-of [] (Some first) events left are split none = absurd (let e : [] ≡ first ∷ left = sym are ∙ split in cc)
rest-of (row ∷ rows) None events left are split none = absurd (let e : event.Rec row.0 row.1 ∷ events_of rows ≡ [] = sym are ∙ split ∙ none refl in cc)
rest-of (row ∷ rows) (Some first) events left are split none = let e : event.Rec row.0 row.1 ∷ events_of rows ≡ first ∷ left = sym are ∙ split in cc

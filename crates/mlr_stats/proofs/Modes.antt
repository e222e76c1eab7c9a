-- The place of the best count is that of the first list in the order of lengths.
use Rattle.std.proofs.Common.{◌≡◌, ℕ, ◌+◌, nat_lt, Bool, true, false, cond, if◌then◌else◌, List, [], ◌∷◌, ◌++◌, map, length, Option, Some, None, slice_get, refl, ap, sym, ◌∙◌, append_assoc}
use Rattle.std.specs.Cmp.{IsTotalOrder, on_total, back_total}
use Rattle.std.specs.List.{fold, range_with_len}
use Rattle.std.specs.Option.{option_map, unwrap_or}
use Rattle.std.specs.Ordering.{is_lt}
use Rattle.std.specs.declared.cmp.Ordering.TheVariants.{Less, Equal, Greater}
use Rattle.std.specs.Prelude.{◌==◌}
use Rattle.std.proofs.lemmas.Cmp.{nat_cmp_total}
use Rattle.std.proofs.lemmas.List.{append-nil, length-append, length-map}
use Rattle.std.proofs.lemmas.Option.{slice_get-map}
use Rattle.std.proofs.lemmas.Simd.{map-map}
use Rattle.mlr_spec.specs.Tree.{Tree, empty}
use Rattle.mlr_groups.specs.Tallying.{capped}
use Rattle.mlr_value.specs.Value.{tree_of}
use Rattle.mlr_value.specs.declared.value.Value.{Value}
use Rattle.mlr_stats.specs.Best.{best_place, better_place, is_better}
use Rattle.mlr_stats.specs.Kept.{CountsTexts, first_of}
use Rattle.mlr_stats.specs.Statistic.{alike, by_length, first_by, mode_of, texts_of, with_text}
use Rattle.mlr_stats.specs.declared.text_counts.TextCounts.{TextCounts}
use Rattle.mlr_stats.proofs.Firsts.{after_all, first_by-last}

abbrev count_of : List Tree → ℕ
count_of values = capped (length values)

by_length-total : (least : Bool) → IsTotalOrder (by_length least)
by_length-total true = on_total count_of nat_cmp_total
by_length-total false = back_total (on_total count_of nat_cmp_total)

less-told : (a b : Bool) → is_lt (cond a Less (cond b Equal Greater)) ≡ a
less-told true b = refl
less-told false true = refl
less-told false false = refl

less-is : (least : Bool) (xs ys : List Tree) → is_lt (by_length least xs ys) ≡ is_better least (count_of xs) (count_of ys)
less-is true xs ys = less-told (nat_lt (count_of xs) (count_of ys)) (count_of xs == count_of ys)
less-is false xs ys = less-told (nat_lt (count_of ys) (count_of xs)) (count_of ys == count_of xs)

get-last : {A : Type 0} (before : List A) (x : A) (rest : List A) → slice_get (before ++ x ∷ rest) (length before) ≡ Some x
get-last [] x rest = refl
get-last (y ∷ before) x rest = get-last before x rest

module _ (least : Bool) (all : List (List Tree)) where
  abbrev counts : List ℕ
  counts = map count_of all

  count-at : (p : ℕ) (group : List Tree) → slice_get all p ≡ Some group → slice_get counts p ≡ Some (count_of group)
  count-at p group at = slice_get-map count_of all p ∙ ap (option_map count_of) at

  chosen-at : (t : Bool) (p q : ℕ) (x y : List Tree) → slice_get all p ≡ Some x → slice_get all q ≡ Some y → slice_get all (if t then q else p) ≡ Some (cond t y x)
  chosen-at true p q x y at_p at_q = at_q
  chosen-at false p q x y at_p at_q = at_p

  better-at : (p q : ℕ) (x y : List Tree) → slice_get all p ≡ Some x → slice_get all q ≡ Some y
      → better_place least counts p q ≡ (if is_better least (count_of y) (count_of x) then q else p)
  better-at p q x y at_p at_q =
      ap (λ o. elim o [
        | Some count ↦ elim (slice_get counts q) [
          | Some other ↦ (if is_better least other count then q else p)
          | None ↦ p
        ]
        | None ↦ p
      ]) (count-at p x at_p)
      ∙ ap (λ o. elim o [ Some other ↦ (if is_better least other (count_of x) then q else p) | None ↦ p ]) (count-at q y at_q)

  -- the best place so far is that of the first of the lists so far, and so it is at the end
  best-after : (rest before : List (List Tree)) (p : ℕ) (x : List Tree) → all ≡ before ++ rest → slice_get all p ≡ Some x → first_by (by_length least) before ≡ Some x
      → slice_get all (fold (better_place least counts) p (range_with_len (length before) (length rest))) ≡ first_by (by_length least) all
  best-after [] before p x is at first = at ∙ sym first ∙ ap (first_by (by_length least)) (sym (is ∙ append-nil before))
  best-after (y ∷ rest) before p x is at first =
      let q = length before in
      let at_q : slice_get all q ≡ Some y = ap (λ groups. slice_get groups q) is ∙ get-last before y rest in
      let t = is_better least (count_of y) (count_of x) in
      let next = better-at p q x y at at_q in
      ap (λ place. slice_get all (fold (better_place least counts) place (range_with_len (q + 1) (length rest)))) next
      ∙ ap (λ n. slice_get all (fold (better_place least counts) (if t then q else p) (range_with_len n (length rest)))) (sym (length-append before (y ∷ [])))
      ∙ best-after rest (before ++ y ∷ []) (if t then q else p) (cond t y x)
      (is ∙ sym (append_assoc before (y ∷ []) rest))
      (chosen-at t p q x y at at_q)
      (first_by-last (by_length least) (by_length-total least) before y ∙ ap (λ o. after_all (by_length least) o y) first ∙ ap (λ b. Some (cond b y x)) (less-is least y x))

same : (t : Bool) → ◌≡◌ {A = ℕ} (if t then 0 else 0) 0
same true = refl
same false = refl

best-is : (least : Bool) (all : List (List Tree)) → slice_get all (best_place least (map count_of all)) ≡ first_by (by_length least) all
best-is least [] = refl
best-is least (x ∷ all) =
    let better = better_place least (map count_of (x ∷ all)) in
    ap (λ place. slice_get (x ∷ all) (fold better place (range_with_len 1 (length (map count_of all))))) (same (is_better least (count_of x) (count_of x)))
    ∙ ap (λ n. slice_get (x ∷ all) (fold better 0 (range_with_len 1 n))) (length-map all count_of)
    ∙ best-after least (x ∷ all) all (x ∷ []) 0 x refl refl refl

abbrev image : Value → Option Tree
image value = Some (tree_of value)

first-some : (group : Option (List Tree)) (tree : Tree) → option_map first_of group ≡ Some (Some tree) → tree ≡ unwrap_or (first_of (unwrap_or group [])) empty
first-some None tree is = absurd (let e : None ≡ Some (Some tree) = is in cc)
first-some (Some group) tree is = let e : first_of group ≡ Some tree = cc in ap (λ o. unwrap_or o empty) (sym e)

first-none : (group : Option (List Tree)) → option_map first_of group ≡ None → empty ≡ unwrap_or (first_of (unwrap_or group [])) empty
first-none None is = refl
first-none (Some group) is = absurd (let e : Some (first_of group) ≡ None = is in cc)

module _ (values : List Tree) (kept : TextCounts) (counts : CountsTexts values kept) (least : Bool) where
  place-is : best_place least kept.counts.items ≡ best_place least (map count_of (alike values))
  place-is = ap (best_place least) (counts.counts ∙ sym (map-map count_of (with_text values) (texts_of values)))

  group-at : slice_get (alike values) (best_place least kept.counts.items) ≡ first_by (by_length least) (alike values)
  group-at = ap (slice_get (alike values)) place-is ∙ best-is least (alike values)

  firsts-at : option_map image (slice_get kept.firsts.items (best_place least kept.counts.items)) ≡ option_map first_of (first_by (by_length least) (alike values))
  firsts-at =
      sym (slice_get-map image kept.firsts.items (best_place least kept.counts.items))
      ∙ ap (λ firsts. slice_get firsts (best_place least kept.counts.items)) (counts.firsts ∙ sym (map-map first_of (with_text values) (texts_of values)))
      ∙ slice_get-map first_of (alike values) (best_place least kept.counts.items)
      ∙ ap (option_map first_of) group-at

  pub mode-some : (value : Value) → slice_get kept.firsts.items (best_place least kept.counts.items) ≡ Some value → tree_of value ≡ unwrap_or (mode_of least values) empty
  mode-some value is = first-some (first_by (by_length least) (alike values)) (tree_of value) (sym firsts-at ∙ ap (option_map image) is)

  pub mode-none : slice_get kept.firsts.items (best_place least kept.counts.items) ≡ None → empty ≡ unwrap_or (mode_of least values) empty
  mode-none is = first-none (first_by (by_length least) (alike values)) (sym firsts-at ∙ ap (option_map image) is)

-- Lists that grow by an element, in blocks.
use Rattle.std.proofs.Common.{◌≡◌, ◌+◌, ◌-◌, Bool, true, false, cond, not, List, [], ◌∷◌, ◌++◌, length, drop, ap, sym, ◌∙◌, append_assoc, arith, length-append}
use Rattle.std.specs.List.{prefix_len, suffix_len}
use Rattle.std.proofs.lemmas.List.{append-nil, drop_all, drop-append-le, reverse-append}
use Rattle.std.proofs.lemmas.List.Sums.{suffix_len-le-length}
use Rattle.mlr_lines.specs.Blocks.{each_after, since_end}

module _ {A B : Type 0} (gives : List A → A → List B) where
  pub each_after-append : (before xs ys : List A) → each_after gives before (xs ++ ys) ≡ each_after gives before xs ++ each_after gives (before ++ xs) ys
  each_after-append before [] ys = ap (λ b. each_after gives b ys) (sym (append-nil before))
  each_after-append before (x ∷ xs) ys =
      let here = gives before x in
      let more = each_after gives (before ++ x ∷ []) xs in
      ap (λ t. here ++ t) (each_after-append (before ++ x ∷ []) xs ys ∙ ap (λ b. more ++ each_after gives b ys) (append_assoc before (x ∷ []) xs))
      ∙ sym (append_assoc here more (each_after gives (before ++ x ∷ xs) ys))

module _ {A : Type 0} (ends : A → Bool) where
  abbrev stays : A → Bool
  stays x = not (ends x)

  count-more : (xs : List A) (x : A) → suffix_len stays (xs ++ x ∷ []) ≡ cond (stays x) (1 + suffix_len stays xs) 0
  count-more xs x = ap (prefix_len stays) (reverse-append xs (x ∷ []))

  -- an element that ends a block
  pub since_end-none : (xs : List A) (x : A) → ends x ≡ true → since_end ends (xs ++ x ∷ []) ≡ []
  since_end-none xs x is =
      let all = xs ++ x ∷ [] in
      let none : suffix_len stays all ≡ 0 = count-more xs x ∙ ap (λ t. cond (not t) (1 + suffix_len stays xs) 0) is in
      ap (λ n. drop (length all - n) all) none ∙ drop_all (length all - 0) all (omega arith)

  -- any other element
  pub since_end-more : (xs : List A) (x : A) → ends x ≡ false → since_end ends (xs ++ x ∷ []) ≡ since_end ends xs ++ x ∷ []
  since_end-more xs x isnt =
      let all = xs ++ x ∷ [] in
      let count = suffix_len stays xs in
      let more : suffix_len stays all ≡ 1 + count = count-more xs x ∙ ap (λ t. cond (not t) (1 + count) 0) isnt in
      let place : length all - suffix_len stays all ≡ length xs - count = omega (arith, more, length-append xs (x ∷ []), suffix_len-le-length stays xs) in
      ap (λ n. drop n all) place ∙ drop-append-le (length xs - count) xs (x ∷ []) (omega arith)

-- A text that is written as its first bytes and then its last ones, which may lie over the first.
use Rattle.std.proofs.Common.{◌≡◌, ℕ, ◌+◌, ◌*◌, ◌-◌, ◌≤◌, List, ◌++◌, length, take, drop, ap, sym, ◌∙◌, arith}
use Rattle.std.proofs.lemmas.List.{take-take, take-append-drop, length-take-le, length-drop, take_rest, append_assoc}
use Rattle.std.proofs.Math.Seq.{take-append-add}

prefix_shorter : {A : Type 0} (xs ys t : List A) (s w l : ℕ) → s ≤ length xs → l ≤ w
    → take (s + w) ys ≡ take s xs ++ take w t → take (s + l) ys ≡ take s xs ++ take l t
prefix_shorter xs ys t s w l long less e =
    sym (take-take (s + l) (s + w) ys (omega arith)) ∙ ap (take (s + l)) e
    ∙ ap (λ n. take (n + l) (take s xs ++ take w t)) (sym (length-take-le s xs long))
    ∙ take-append-add (take s xs) (take w t) l ∙ ap (λ z. take s xs ++ z) (take-take l w t less)

-- xs with the first w bytes of t written at s is ys, and ys with the last w of t written at their end is zs
pub ends_cover : {A : Type 0} (xs ys zs t : List A) (s w : ℕ) → s ≤ length xs → w ≤ length t → length t ≤ 2 * w
    → take (s + length (take w t)) ys ≡ take s xs ++ take w t
    → let l = length t - w in
    let end = take (length t - l) (drop l t) in
    take (s + l + length end) zs ≡ take (s + l) ys ++ end
    → take (s + length t) zs ≡ take s xs ++ t
ends_cover xs ys zs t s w long wide both first last =
    let l = length t - w in
    let end = take (length t - l) (drop l t) in
    let rest : end ≡ drop l t = take_rest t l in
    let following = ap length rest ∙ length-drop l t in
    let n : s + length t ≡ s + l + length end = omega arith in
    ap (λ k. take k zs) n ∙ last ∙ ap (λ z. take (s + l) ys ++ z) rest
    ∙ ap (λ z. z ++ drop l t)
    (prefix_shorter xs ys t s w l long (omega arith) (ap (λ k. take (s + k) ys) (sym (length-take-le w t wide)) ∙ first))
    ∙ append_assoc (take s xs) (take l t) (drop l t) ∙ ap (λ z. take s xs ++ z) (take-append-drop l t)

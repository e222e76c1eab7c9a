use Rattle.std.proofs.Common.{◌≡◌, ℕ, ◌+◌, true, get_or, zero, suc, ◌<◌, ◌≤◌, not, length, map, refl, ap, sym, subst, ◌∙◌, arith, List}
use Rattle.std.specs.List.{prefix_len}
use Rattle.std.proofs.lemmas.Simd.{length-chunk, trailing_mask_l, run_in_chunk_fails, run_in_chunk_stops}
use Rattle.std.proofs.lemmas.List.Sums.{prefix_len_is}
use lib.Count.{count_trailing_zeros}
use lib.Lanes.{chunk, mask_l}
use Rattle.mlr_spec.specs.JsonTokens.{is_raw}
use Rattle.mlr_json.specs.Seen.{ends_raw}
use Rattle.mlr_json.proofs.Pieces.{raw-before, raw-all}
use Rattle.mlr_json.proofs.lexeme.raw_len.Goals as goal

none-set : count_trailing_zeros 64 0 ≡ 64
unfolding count_trailing_zeros
none-set = refl

-- where the lowest bit is one of the 16, it is the place of the first byte that ends the run
run_ends : (text : List ℕ) → 16 ≤ length text → (mask : ℕ) → mask ≡ mask_l (map ends_raw (chunk 0 16 text)) → count_trailing_zeros 64 mask < 16 → count_trailing_zeros 64 mask ≡ prefix_len is_raw text
run_ends text room mask is within =
    let place = count_trailing_zeros 64 mask in
    let c = chunk 0 16 text in
    let start : 0 + place ≡ place = omega arith in
    let counted : place ≡ prefix_len (λ x. not (ends_raw x)) c = ap (count_trailing_zeros 64) is ∙ trailing_mask_l ends_raw 64 c (omega (arith, length-chunk 0 16 text room)) (subst (λ m. 0 < m) is (some mask within)) in
    sym (prefix_len_is is_raw text place 0 (omega (arith, within, room))
    (λ j below. ap not (run_in_chunk_fails ends_raw text 0 16 place 0 room counted j (omega arith) (omega (arith, below))))
    (λ _. ap not (subst (λ k. ends_raw (get_or text k 0) ≡ true) start (run_in_chunk_stops ends_raw text 0 16 place 0 room counted within))))
  where
    some : (mask : ℕ) → count_trailing_zeros 64 mask < 16 → 0 < mask
    some zero low = absurd (omega (arith, none-set, low))
    some (suc mask) low = omega arith

pub returns-then-place-lt16 : goal.returns-then-place-lt16
returns-then-place-lt16 c = run_ends c.args.text.now (omega arith) c.raw_ends.result c.raw_ends.ensures c.if-place-lt16.true

pub returns-in-Some : goal.returns-in-Some
returns-in-Some c = raw-before c.args.text.now c.in-Some.place c.in-Some.ensures

pub returns-in-None : goal.returns-in-None
returns-in-None c = raw-all c.args.text.now c.in-None.ensures

-- The numbers of `seqgen`, some after others.
use Rattle.std.proofs.Common.{◌≡◌, ℕ, zero, suc, ◌+◌, ◌≤◌, false, [], ◌∷◌, ◌++◌, length, ap, sym, ◌∙◌, arith, nat_lt, length-append}
use Rattle.std.specs.Prelude.{map, min}
use Rattle.std.specs.List.{range_with_len}
use Rattle.std.proofs.lemmas.Bool.{ltb-false}
use Rattle.std.proofs.lemmas.List.{map-append}
use Rattle.std.proofs.lemmas.List.FromFn.{length-map-range_with_len}
use Rattle.mlr_event.specs.declared.event.Ctx.{Ctx}
use Rattle.mlr_event.specs.declared.event.Event.TheVariants as event
use Rattle.verbs_seq.specs.declared.seq_spec.SeqSpec.{SeqSpec}
use Rattle.verbs_seq.specs.Seq.{seq_event, seq_events}

range-append : (from n m : ℕ) → range_with_len from n ++ range_with_len (from + n) m ≡ range_with_len from (n + m)
range-append from zero m = ap (λ k. range_with_len k m) (let e : from + 0 ≡ from = omega arith in e) ∙ ap (range_with_len from) (let e : m ≡ 0 + m = omega arith in e)
range-append from (suc n) m = ap (λ t. from ∷ t) (ap (λ k. range_with_len (from + 1) n ++ range_with_len k m) (let e : from + suc n ≡ (from + 1) + n = omega arith in e) ∙ range-append (from + 1) n m) ∙ ap (range_with_len from) (let e : suc (n + m) ≡ suc n + m = omega arith in e)

pub events-append : (seq : SeqSpec) (n m : ℕ) → seq_events seq 0 n ++ seq_events seq n m ≡ seq_events seq 0 (n + m)
events-append seq n m =
    sym (map-append (seq_event seq) (range_with_len 0 n) (range_with_len n m))
    ∙ ap (λ k. map (seq_event seq) (range_with_len 0 n ++ range_with_len k m)) (let e : n ≡ 0 + n = omega arith in e)
    ∙ ap (map (seq_event seq)) (range-append 0 n m)

-- some numbers are not none
pub some-put : (seq : SeqSpec) (from n : ℕ) → 1 ≤ n → seq_events seq from n ≡ [] → ⊥
some-put seq from zero some none = omega (arith, some)
some-put seq from (suc n) some none = omega (arith, ap length none)

pub all-counted : (n m : ℕ) → nat_lt n m ≡ false → n ≤ m → n ≡ m
all-counted n m none within = omega (arith, ltb-false n m none, within)

-- the numbers of one turn, without and with the end
pub few-events : (seq : SeqSpec) (from remaining : ℕ) → length (seq_events seq from (min 500 remaining)) ≤ 501
few-events seq from remaining = omega (arith, length-map-range_with_len (seq_event seq) from (min 500 remaining))

pub few-with-end : (seq : SeqSpec) (from remaining : ℕ) (ctx : Ctx) → length (seq_events seq from (min 500 remaining) ++ event.End ctx ∷ []) ≤ 501
few-with-end seq from remaining ctx =
    omega (arith, length-append (seq_events seq from (min 500 remaining)) (event.End ctx ∷ []), length-map-range_with_len (seq_event seq) from (min 500 remaining))

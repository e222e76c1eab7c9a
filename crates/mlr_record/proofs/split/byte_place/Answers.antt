use Rattle.std.proofs.Common.{◌∙◌, sym, subst, arith}
use Rattle.memchr.specs.Find.{NoneBefore, Passes, is_byte}
use Rattle.std.specs.Prelude.{length}
use lib.Count.{count_trailing_zeros}
use Rattle.mlr_record.proofs.Lanes.{first-lane, no-lane}
use Rattle.mlr_record.proofs.split.byte_place.Goals as goal

pub returns-then-found-ne0 : goal.returns-then-found-ne0
returns-then-found-ne0 c =
    let test = is_byte c.args.byte in
    let text = c.args.text.now in
    let found = c.equal_bits-found in
    subst (λ n. NoneBefore (Passes test text) 0 (length text) (count_trailing_zeros 64 n) × Passes test text (count_trailing_zeros 64 n)) (sym found.ensures)
    (first-lane test text (omega arith) (omega (arith, found.ensures, c.if-found-ne0.true)))

pub far_place-requires-clause-none : goal.far_place-requires-clause-none
far_place-requires-clause-none c =
    no-lane (is_byte c.args.byte) c.args.text.now (omega arith) (sym c.equal_bits-found.ensures ∙ c.if-found-ne0.false)

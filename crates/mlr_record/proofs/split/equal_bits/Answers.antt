use Rattle.std.proofs.Common.{◌∙◌, ◌%◌, ◌^◌, ap, arith}
use Rattle.std.proofs.lemmas.Simd.{mask_l-mod}
use Rattle.std.proofs.lemmas.List.{length-map}
use Rattle.memchr.specs.Find.{is_byte}
use Rattle.std.specs.Prelude.{map}
use Rattle.mlr_record.proofs.Lanes.{equal-mask}
use Rattle.mlr_record.proofs.split.equal_bits.Goals as goal

pub returns : goal.returns
returns c =
    let lanes = c.args.lanes in
    let byte = c.args.byte in
    let sixteen = c.fits-lanes.0 in
    ap (λ n. n % 2 ^ 64) (equal-mask byte lanes sixteen) ∙ mask_l-mod (map (is_byte byte) lanes) 64 (omega (arith, length-map lanes (is_byte byte), sixteen))

use Rattle.std.proofs.Common.{None, Some, subst}
use Rattle.memchr.specs.Find.{IsFirstByte, is_byte}
use Rattle.mlr_record.proofs.Finding.{IsFirstByte-following, whole-rest}
use Rattle.mlr_record.proofs.split.far_place.Goals as goal

pub returns-in-None : goal.returns-in-None
returns-in-None c =
    let text = c.args.text.now in
    let test = is_byte c.args.byte in
    IsFirstByte-following test text c.args.from None c.requires.inside c.requires.none (subst (λ rest. IsFirstByte test rest None) (whole-rest text c.args.from) c.in-None.ensures)

pub returns-in-Some : goal.returns-in-Some
returns-in-Some c =
    let text = c.args.text.now in
    let test = is_byte c.args.byte in
    IsFirstByte-following test text c.args.from (Some c.in-Some.place) c.requires.inside c.requires.none (subst (λ rest. IsFirstByte test rest (Some c.in-Some.place)) (whole-rest text c.args.from) c.in-Some.ensures)

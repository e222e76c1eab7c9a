use Rattle.std.proofs.Common.{◌*◌, ◌^◌, ◌%◌, ap, ◌∙◌}
use Rattle.std.specs.Int.{bit_at}
use Rattle.std.specs.Int.RustNames.{bit_or}
use Rattle.mlr_fields.specs.Marks.{mark_of}
use Rattle.mlr_fields.proofs.Marking.{marked-pushed}
use Rattle.mlr_fields.proofs.marks.NameMarks.add.Goals as goal

pub returns : goal.returns
returns c = λ names new marked is name there.
    ap (λ mark. bit_at (bit_or c.args.self.now.bits (1 * 2 ^ mark % 2 ^ 64)) (mark_of name)) is
    ∙ marked-pushed c.args.self.now.bits names new name marked there

use Rattle.std.proofs.lemmas.Nat.Bits.{bit_at_ones}
use Rattle.mlr_fields.specs.Marks.{mark_of}
use Rattle.mlr_fields.proofs.Marking.{mark-few}
use Rattle.mlr_fields.proofs.marks.NameMarks.all.Goals as goal

pub returns : goal.returns
returns c = λ names name there. bit_at_ones 64 (mark_of name) (mark-few name)

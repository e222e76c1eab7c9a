use Rattle.std.proofs.Common.{arith}
use Rattle.mlr_json.proofs.Digits.{digit-small}
use Rattle.mlr_json.proofs.lexeme.unit_of.Goals as goal

pub overflow_add-result-3 : goal.overflow_add-result-3
overflow_add-result-3 c =
    let text = c.args.digits.now in
    let a = digit-small text 0 (omega arith) in
    let b = digit-small text 1 (omega arith) in
    let d = digit-small text 2 (omega arith) in
    let e = digit-small text 3 (omega arith) in
    omega arith

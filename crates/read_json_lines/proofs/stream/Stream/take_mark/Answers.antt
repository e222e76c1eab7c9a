use Rattle.std.proofs.Common.{sym, subst}
use Rattle.std.proofs.lemmas.Result.{on_ok_weaker}
use Rattle.mlr_spec.specs.declared.json.JsonMark.TheVariants.{Colon, Comma}
use Rattle.mlr_spec.specs.JsonTokens.{sign}
use Rattle.read_json_lines.specs.Turns.{turn_of}
use Rattle.read_json_lines.specs.Streams.{and_token, Takes}
use Rattle.read_json_lines.proofs.Taking.{takes-put}
use Rattle.read_json_lines.proofs.stream.Stream.take_mark.Goals as goal

pub returns-in-Colon-clause-takes : goal.returns-in-Colon-clause-takes
returns-in-Colon-clause-takes c =
    let old = c.args.self.now in
    let new = c.put_fault.new in
    on_ok_weaker c.put_fault.result
    (λ put. subst (λ m. Takes old new.self c.args.out.now new.out (λ rest. and_token old.place (sign m) rest)) (sym c.in-Colon.is)
    (takes-put old new.self _ c.args.out.now new.out old.place (sign Colon) (turn_of c.colon-fault.result) c.colon-fault.ensures put))
    c.put_fault.ensures

pub returns-in-Comma-clause-takes : goal.returns-in-Comma-clause-takes
returns-in-Comma-clause-takes c =
    let old = c.args.self.now in
    let new = c.put_fault-in-Comma.new in
    on_ok_weaker c.put_fault-in-Comma.result
    (λ put. subst (λ m. Takes old new.self c.args.out.now new.out (λ rest. and_token old.place (sign m) rest)) (sym c.in-Comma.is)
    (takes-put old new.self _ c.args.out.now new.out old.place (sign Comma) (turn_of c.comma-fault.result) c.comma-fault.ensures put))
    c.put_fault-in-Comma.ensures

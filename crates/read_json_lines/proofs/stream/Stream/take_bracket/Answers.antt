use Rattle.std.proofs.lemmas.Result.{on_ok_weaker}
use Rattle.mlr_spec.specs.JsonTokens.{sign}
use Rattle.read_json_lines.proofs.Taking.{takes-put}
use Rattle.read_json_lines.proofs.stream.Stream.take_bracket.Goals as goal

pub returns-clause-takes : goal.returns-clause-takes
returns-clause-takes c =
    let old = c.args.self.now in
    on_ok_weaker c.put.result
    (λ put. takes-put old c.put.new.self _ c.args.out.now c.put.new.out old.place (sign c.args.mark) c.in_ok-turn.turn c.in_ok-turn.ensures put)
    c.put.ensures

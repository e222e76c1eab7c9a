use Rattle.std.proofs.Common.{sym, ◌∙◌}
use Rattle.std.proofs.lemmas.Result.{on_ok_weaker}
use Rattle.read_json_lines.proofs.Ending.{ended-rest, ended-cut}
use Rattle.read_json_lines.proofs.stream.Stream.end_between.Goals as goal

pub returns-then-is_at_rest-clause-ended : goal.returns-then-is_at_rest-clause-ended
returns-then-is_at_rest-clause-ended c =
    ended-rest c.args.self.now c.args.out.now c.requires.text c.requires.begun c.requires.goes_on (sym c.is_at_rest.ensures ∙ c.if-is_at_rest.true)

pub returns-clause-ended : goal.returns-clause-ended
returns-clause-ended c =
    on_ok_weaker c.fail.result
    (λ put. ended-cut c.args.self.now c.fail.new.self c.args.out.now c.fail.new.out c.requires.text c.requires.begun c.requires.goes_on (sym c.is_at_rest.ensures ∙ c.if-is_at_rest.false) put)
    c.fail.ensures

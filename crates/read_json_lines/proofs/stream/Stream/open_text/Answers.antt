use Rattle.std.proofs.Common.{subst}
use Rattle.std.proofs.lemmas.Result.{on_ok_weaker}
use Rattle.read_json_lines.specs.Turns.{state_of, RefusesText}
use Rattle.read_json_lines.proofs.Taking.{opens-refused, opens-taken}
use Rattle.read_json_lines.proofs.stream.Stream.open_text.Goals as goal

pub returns-in-Some-clause-opens : goal.returns-in-Some-clause-opens
returns-in-Some-clause-opens c =
    let old = c.args.self.now in
    on_ok_weaker c.fail.result
    (λ put. opens-refused old c.fail.new.self c.args.out.now c.fail.new.out c.in-Some.trouble (subst (RefusesText (state_of old.record_state)) c.in-Some.is c.refused_text.ensures) put)
    c.fail.ensures

pub returns-clause-opens : goal.returns-clause-opens
returns-clause-opens c =
    let old = c.args.self.now in
    opens-taken old c.new.result c.args.out.now c.requires.goes_on (record { decodes = c.new.ensures.decodes }) c.in_default.ensures

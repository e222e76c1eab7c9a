use Rattle.std.proofs.Common.{arith, subst}
use Rattle.read_json_lines.specs.Plain.{IsPlain}
use Rattle.read_json_lines.proofs.Turning.{turned-quote}
use Rattle.read_json_lines.proofs.Plain.{turned-plain}
use Rattle.read_json_lines.proofs.stream.Stream.turn_quote.Goals as goal

pub returns-in-Some-clause-turned : goal.returns-in-Some-clause-turned
returns-in-Some-clause-turned c =
    turned-plain c.args.self.now c.take_text.new.self c.args.out.now c.take_text.new.out c.args.text.now c.following-in-Some.result.now c.in-Some.raw.now c.args.len c.in-Some.raw_len
    c.requires.goes_on c.requires.text c.requires.begun (omega arith) c.requires.within c.requires.prefix
    (subst (λ t. IsPlain t c.in-Some.raw.now c.in-Some.raw_len) c.following.ensures c.in-Some.ensures) c.following-in-Some.ensures
    c.in_ok-take_text.ensures.same c.in_ok-take_text.ensures.takes

pub returns-clause-turned : goal.returns-clause-turned
returns-clause-turned c =
    turned-quote c.args.self.now c.open_text.new.self c.args.out.now c.open_text.new.out c.args.text.now c.following-2.result.now c.args.len
    c.requires.goes_on c.requires.text c.requires.begun (omega arith) c.requires.within c.in_ok-open_text.ensures.same c.in_ok-open_text.ensures.opens
    c.requires.prefix c.following-2.ensures

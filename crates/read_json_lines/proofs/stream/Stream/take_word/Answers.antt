use Rattle.std.proofs.Common.{Option, ap, subst}
use Rattle.std.proofs.lemmas.Result.{on_ok_weaker}
use Rattle.mlr_spec.specs.JsonTokens.{Token}
use Rattle.read_json_lines.specs.Json.{Known}
use Rattle.read_json_lines.specs.Streams.{or_stop, Takes}
use Rattle.read_json_lines.proofs.Words.{word-token}
use Rattle.read_json_lines.proofs.stream.Stream.take_word.Goals as goal

pub returns-clause-takes : goal.returns-clause-takes
returns-clause-takes c =
    let old = c.args.self.now in
    let tokens : Option Token → Known → Known = λ t rest. or_stop old.place t rest in
    on_ok_weaker c.take_value.result
    (λ takes. subst (Takes old c.take_value.new.self c.args.out.now c.take_value.new.out) (ap tokens (word-token c.in_ok-value.value old.infer c.args.word.now c.in_ok-value.ensures)) takes)
    c.take_value.ensures.takes

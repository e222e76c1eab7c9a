use Rattle.std.proofs.Common.{Option, ℕ, List, [], ap, sym, subst, ◌∙◌}
use Rattle.std.proofs.lemmas.Result.{on_ok_weaker}
use Rattle.mlr_spec.specs.JsonTokens.{text_token}
use Rattle.read_json_lines.specs.Json.{Known}
use Rattle.read_json_lines.specs.declared.stream.Stream.{Stream}
use Rattle.read_json_lines.specs.declared.strings.OpenText.{OpenText}
use Rattle.read_json_lines.specs.Records.{turn}
use Rattle.read_json_lines.specs.Turns.{state_of, turn_of, IsTurn}
use Rattle.read_json_lines.specs.Streams.{and_token, Takes, text_tokens}
use Rattle.read_json_lines.proofs.Builder.{pieces_so_far, holds-so-far, so-far-decoded}
use Rattle.read_json_lines.proofs.Taking.{takes-token}
use Rattle.read_json_lines.proofs.stream.Stream.close_text.Goals as goal

pub returns-clause-takes : goal.returns-clause-takes
returns-clause-takes c =
    let old = c.args.self.now in
    let new = c.put_fault.new.self in
    let string = c.in-Some.open in
    let text = c.in_ok-text.text in
    let decoded = c.in_ok-text.ensures (pieces_so_far string.builder) (holds-so-far string.builder) ∙ so-far-decoded string.builder in
    let with_text : List ℕ → Known → Known = λ t rest. and_token string.place (text_token t) rest in
    let of_text : Option OpenText → Known → Known = λ o rest. text_tokens o [] rest in
    on_ok_weaker c.put_fault.result
    (λ put. subst (Takes old new c.args.out.now c.put_fault.new.out) (ap with_text decoded ∙ ap of_text (sym c.in-Some.is ∙ c.take.ensures.value))
    (takes-token old new c.args.out.now c.put_fault.new.out string.place (text_token text) (turn_of c.in_ok-fault.fault)
    (subst (IsTurn (turn (state_of old.record_state) (text_token text)) (turn_of c.in_ok-fault.fault)) (ap (λ (s : Stream). state_of s.record_state) (sym put.same)) c.in_ok-fault.ensures)
    (ap (λ (s : Stream). s.file) put.same)
    (record { events = put.appends.events; at = put.appends.at; stopped = put.appends.stopped })
    (record { nr = put.counts.nr; fnr = put.counts.fnr })))
    c.put_fault.ensures

use Rattle.std.proofs.Common.{sym, ◌∙◌}
use Rattle.mlr_json.proofs.Turned.{is-shallow}
use Rattle.read_json_lines.specs.Turns.{state_of}
use Rattle.read_json_lines.proofs.Texts.{text-on, text-wrong}
use Rattle.read_json_lines.proofs.record_state.RecordState.refused_text.Goals as goal

pub returns-then-takes_text : goal.returns-then-takes_text
returns-then-takes_text c =
    text-on (state_of c.args.self.now) (is-shallow c.args.self.now.machine) (sym c.is_within.ensures ∙ c.if-not-is_within.false) (sym c.takes_text.ensures ∙ c.if-takes_text.true)

pub returns-else-takes_text : goal.returns-else-takes_text
returns-else-takes_text c =
    text-wrong (state_of c.args.self.now) (sym c.is_within.ensures ∙ c.if-not-is_within.false) (sym c.takes_text.ensures ∙ c.if-takes_text.false)

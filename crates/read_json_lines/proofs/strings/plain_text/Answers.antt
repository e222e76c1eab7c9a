use Rattle.std.proofs.Common.{sym, ap, ◌∙◌}
use Rattle.mlr_spec.specs.JsonTokens.{found}
use Rattle.mlr_json.specs.Seen.{lexeme_seen}
use Rattle.read_json_lines.specs.Plain.{starts_quoted}
use Rattle.read_json_lines.proofs.Plain.{plain-string}
use Rattle.read_json_lines.proofs.strings.plain_text.Goals as goal

pub returns-then-starts_quoted : goal.returns-then-starts_quoted
returns-then-starts_quoted c =
    let lexeme = c.in-Found-Raw-default in
    plain-string c.args.text.now lexeme.raw.now lexeme.len (sym lexeme.ensures.prefix ∙ ap (λ l. found (lexeme_seen l) lexeme.len) lexeme.field-0-is) lexeme.ensures.within.0 lexeme.ensures.within.1
    (ap starts_quoted (sym c.following.ensures) ∙ sym c.starts_quoted.ensures ∙ c.if-starts_quoted.true)

use Rattle.std.proofs.Common.{sym}
use Rattle.mlr_json.specs.Seen.{lexeme_seen}
use Rattle.read_json_lines.proofs.Turning.{turned-bad}
use Rattle.read_json_lines.proofs.Lexing.{some-begins}
use Rattle.read_json_lines.proofs.Blanks.{found-between}
use Rattle.read_json_lines.proofs.stream.Stream.turn_outside.Goals as goal

pub turn_lexeme-requires-clause-outside : goal.turn_lexeme-requires-clause-outside
turn_lexeme-requires-clause-outside c = found-between c.args.text.now (lexeme_seen c.in-Found.lexeme) c.in-Found.len (sym c.in-Found.ensures.prefix)

pub returns-in_ok-fail-in-Bad-clause-turned : goal.returns-in_ok-fail-in-Bad-clause-turned
returns-in_ok-fail-in-Bad-clause-turned c =
    turned-bad c.args.self.now c.fail.new.self c.args.out.now c.fail.new.out c.args.text.now c.following.result.now c.in-Bad.offset
    c.requires.goes_on c.requires.text c.requires.begun c.in-Bad.ensures.within (sym c.in-Bad.ensures.prefix) c.in_ok-fail-in-Bad.ensures

pub returns-in-Begun-clause-shorter : goal.returns-in-Begun-clause-shorter
returns-in-Begun-clause-shorter c = absurd (some-begins c.args.text.now c.requires.bytes (sym c.in-Begun.ensures.prefix))

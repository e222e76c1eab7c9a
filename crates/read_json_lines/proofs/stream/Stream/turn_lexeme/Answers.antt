use Rattle.std.proofs.Common.{◌+◌, length, ap, arith, ◌∙◌}
use Rattle.std.proofs.lemmas.List.{length-drop}
use Rattle.mlr_spec.specs.JsonTokens.{found}
use Rattle.mlr_json.specs.Seen.{lexeme_seen}
use Rattle.read_json_lines.specs.declared.stream.Stream.{Stream}
use Rattle.read_json_lines.proofs.Turning.{turned-blank, turned-both, turned-mark}
use Rattle.read_json_lines.proofs.stream.Stream.turn_lexeme.Goals as goal

pub returns-then-self-clause-turned : goal.returns-then-self-clause-turned
returns-then-self-clause-turned c =
    turned-mark c.args.self.now c.args.out.now c.args.text.now c.following-left.result.now c.args.len c.requires.goes_on c.requires.text c.requires.begun (omega arith) c.requires.within
    c.take_mark.new.self c.take_mark.new.out c.in-Mark.mark c.in_ok-take_mark-in-Mark.ensures.same c.in_ok-take_mark-in-Mark.ensures.takes
    (c.requires.prefix ∙ ap (λ l. found (lexeme_seen l) c.args.len) c.in-Mark.is) c.following-left.ensures

pub returns-else-self-clause-turned : goal.returns-else-self-clause-turned
returns-else-self-clause-turned c =
    let old = c.args.self.now in
    let taken = c.take_mark.new in
    let mid : Stream = record taken.self { place = taken.self.place + c.args.len } in
    turned-both old mid c.pass_blanks.new.self c.args.text.now c.following-left.result.now c.pass_blanks.result.now c.args.out.now taken.out taken.out c.if-self.false
    (turned-mark old c.args.out.now c.args.text.now c.following-left.result.now c.args.len c.requires.goes_on c.requires.text c.requires.begun (omega arith) c.requires.within
    taken.self taken.out c.in-Mark.mark c.in_ok-take_mark-in-Mark.ensures.same c.in_ok-take_mark-in-Mark.ensures.takes
    (c.requires.prefix ∙ ap (λ l. found (lexeme_seen l) c.args.len) c.in-Mark.is) c.following-left.ensures)
    (c.pass_blanks.ensures.turned taken.out)

pub returns-else-self-clause-room : goal.returns-else-self-clause-room
returns-else-self-clause-room c =
    let taken = c.in_ok-take_mark-in-Mark.ensures in
    let passed = c.pass_blanks.ensures in
    omega (
      arith,
      taken.takes.counts.nr,
      taken.takes.counts.fnr,
      passed.room,
      passed.shorter,
      ap (λ (s : Stream). s.at.nr) passed.place,
      ap (λ (s : Stream). s.at.fnr) passed.place,
      ap (λ (s : Stream). length s.begun.items) passed.place,
      ap (λ (s : Stream). s.place) taken.same,
      ap (λ (s : Stream). length s.begun.items) taken.same,
      ap length c.following-left.ensures,
      length-drop c.args.len c.args.text.now,
    )

pub returns-else-self-clause-shorter : goal.returns-else-self-clause-shorter
returns-else-self-clause-shorter c =
    omega (arith, c.pass_blanks.ensures.shorter, ap length c.following-left.ensures, length-drop c.args.len c.args.text.now)

pub returns-in-Blank-clause-turned : goal.returns-in-Blank-clause-turned
returns-in-Blank-clause-turned c =
    turned-blank c.args.self.now c.args.out.now c.args.text.now c.following.result.now c.args.len c.requires.goes_on c.requires.text c.requires.begun (omega arith) c.requires.within
    (c.requires.prefix ∙ ap (λ l. found (lexeme_seen l) c.args.len) c.in-Blank.is) c.following.ensures

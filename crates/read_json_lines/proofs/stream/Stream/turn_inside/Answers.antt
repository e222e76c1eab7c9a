use Rattle.std.proofs.Common.{◌≡◌, ◌++◌, [], length, ap, ap₂, sym, subst, ◌∙◌, arith}
use Rattle.std.proofs.lemmas.List.{length-drop, append-nil, drop_all}
use Rattle.mlr_spec.specs.JsonTokens.{found, lexeme_inside}
use Rattle.mlr_json.specs.Seen.{lexeme_seen}
use Rattle.mlr_json.proofs.Left.{found-of_string}
use Rattle.read_json_lines.specs.declared.stream.Stream.{Stream}
use Rattle.read_json_lines.specs.Streams.{Pushes}
use Rattle.read_json_lines.proofs.Turning.{quote-of, piece-of, turned-bad-inside, turned-piece, turned-closed, turned-kept, fit-escape}
use Rattle.read_json_lines.proofs.stream.Stream.turn_inside.Goals as goal

pub returns-then-is_quote-clause-turned : goal.returns-then-is_quote-clause-turned
returns-then-is_quote-clause-turned c = λ fit.
    let made = c.in_ok-close_text-in-Found.ensures in
    let is = quote-of (lexeme_seen c.in-Found.lexeme) (sym c.is_quote.ensures ∙ c.if-is_quote.true) in
    turned-closed c.args.self.now c.close_text.new.self c.args.out.now c.close_text.new.out c.args.text.now c.following.result.now c.in-Found.len
    c.requires.goes_on c.requires.text c.requires.begun c.requires.bytes c.in-Found.ensures.within.1 (sym c.in-Found.ensures.prefix ∙ ap (λ l. found l c.in-Found.len) is) c.following.ensures
    made.same made.closed made.takes

pub returns-then-is_quote-clause-room : goal.returns-then-is_quote-clause-room
returns-then-is_quote-clause-room c =
    let counts = c.in_ok-close_text-in-Found.ensures.takes.counts in
    let same = c.in_ok-close_text-in-Found.ensures.same in
    omega (
      arith,
      counts.nr,
      counts.fnr,
      ap length c.following.ensures,
      length-drop c.in-Found.len c.args.text.now,
      c.in-Found.ensures.within,
      ap (λ (s : Stream). s.place) same,
      ap (λ (s : Stream). length s.begun.items) same,
    )

pub returns-in_ok-push_piece-in-Found-clause-turned : goal.returns-in_ok-push_piece-in-Found-clause-turned
returns-in_ok-push_piece-in-Found-clause-turned c = λ fit.
    let old = c.args.self.now in
    let l = lexeme_seen c.in-Found.lexeme in
    let p = piece-of l (found-of_string c.args.text.now l c.in-Found.len (sym c.in-Found.ensures.prefix)) (sym c.is_quote.ensures ∙ c.if-is_quote.false) in
    let made = c.in_ok-push_piece-in-Found.ensures in
    turned-piece old c.push_piece.new.self c.args.out.now c.args.text.now c.following-in-Found.result.now p.0 c.in-Found.len
    c.requires.goes_on c.requires.text c.requires.begun fit c.in-Found.ensures.within.1 (sym c.in-Found.ensures.prefix ∙ ap (λ x. found x c.in-Found.len) p.1) c.following-in-Found.ensures
    made.same made.open (subst (Pushes old.text c.push_piece.new.self.text) p.1 made.pushes)

pub returns-in_ok-fail-in-Bad-clause-turned : goal.returns-in_ok-fail-in-Bad-clause-turned
returns-in_ok-fail-in-Bad-clause-turned c = λ fit.
    turned-bad-inside c.args.self.now c.fail.new.self c.args.out.now c.fail.new.out c.args.text.now c.following-in-Bad.result.now c.in-Bad.offset
    c.requires.goes_on c.requires.text c.requires.begun fit c.in-Bad.ensures.within (sym c.in-Bad.ensures.prefix) c.in_ok-fail-in-Bad.ensures

pub returns-in_ok-extend_from_slice-in-Begun-clause-turned : goal.returns-in_ok-extend_from_slice-in-Begun-clause-turned
returns-in_ok-extend_from_slice-in-Begun-clause-turned c = λ fit.
    let old = c.args.self.now in
    let text = c.args.text.now in
    let new = record old { begun = c.extend_from_slice.new.self } in
    let items : new.begun.items ≡ text = c.in_ok-extend_from_slice-in-Begun.ensures.items ∙ ap (λ b. b ++ text) c.requires.begun in
    let nothing : c.following-in-Begun.result.now ≡ [] = c.following-in-Begun.ensures ∙ drop_all (length text) text (omega arith) in
    turned-kept old new c.args.out.now text c.following-in-Begun.result.now
    (ap (λ b. b ++ text) c.requires.begun ∙ sym (append-nil text) ∙ ap₂ (λ a b. a ++ b) (sym items) (sym nothing))
    (fit-escape old new c.requires.goes_on c.requires.text (ap lexeme_inside items ∙ sym c.in-Begun.ensures.prefix) fit) c.requires.goes_on

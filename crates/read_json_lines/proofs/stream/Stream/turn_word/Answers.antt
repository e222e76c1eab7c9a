use Rattle.std.proofs.Common.{◌≡◌, ◌+◌, ◌++◌, ◌<◌, length, drop, ap, sym, subst, ◌∙◌, arith}
use Rattle.std.proofs.lemmas.List.{length-append, length-drop, length-take}
use Rattle.mlr_spec.specs.JsonTokens.{token_of_word}
use Rattle.read_json_lines.specs.Streams.{or_stop, Turned, outside}
use Rattle.read_json_lines.proofs.Turning.{turned-outside, turned-word, turned-no-word, drop-prefix}
use Rattle.read_json_lines.proofs.Outside.{outside-word}
use Rattle.read_json_lines.proofs.WordPrefixes.{word-taken, word-stays}
use Rattle.read_json_lines.proofs.stream.Stream.turn_word.Goals as goal

pub returns-then-len-text-clause-turned : goal.returns-then-len-text-clause-turned
returns-then-len-text-clause-turned c =
    let old = c.args.self.now in
    let text = c.args.text.now in
    let len : c.args.len ≡ length text = omega arith in
    turned-word old (record old { begun = c.extend_from_slice.new.self }) c.args.out.now text c.args.word.now c.following-then-len-text.result.now c.args.len
    c.requires.goes_on c.requires.text c.requires.begun (sym c.takes_word.ensures ∙ c.if-not-takes_word.false) c.requires.prefix len c.in_ok-extend_from_slice.ensures.items c.following-then-len-text.ensures

pub returns-then-len-text-clause-room : goal.returns-then-len-text-clause-room
returns-then-len-text-clause-room c =
    let text = c.args.text.now in
    let word = word-taken text c.args.word.now c.args.len c.requires.prefix in
    omega (arith, ap length c.in_ok-extend_from_slice.ensures.items, length-append c.args.self.now.begun.items c.args.word.now, ap length word, length-take c.args.len text, ap length c.following-then-len-text.ensures, length-drop c.args.len text)

pub returns-then-not-takes_word-clause-turned : goal.returns-then-not-takes_word-clause-turned
returns-then-not-takes_word-clause-turned c =
    turned-no-word c.args.self.now c.fail.new.self c.args.out.now c.fail.new.out c.args.text.now c.args.word.now c.following.result.now c.args.len
    c.requires.goes_on c.requires.text c.requires.begun (sym c.takes_word.ensures ∙ c.if-not-takes_word.true) c.requires.prefix c.in_ok-fail.ensures

pub returns-clause-turned : goal.returns-clause-turned
returns-clause-turned c =
    let old = c.args.self.now in
    let mid = c.take_word.new.self in
    let text = c.args.text.now in
    let len = c.args.len in
    let w = c.args.word.now in
    subst (λ rest. Turned old (record mid { place = mid.place + len }) text rest c.args.out.now c.take_word.new.out) (sym c.following-2.ensures)
    (turned-outside old mid c.args.out.now c.take_word.new.out text len (λ rest. or_stop old.place (token_of_word old.infer w) rest)
    c.requires.goes_on c.requires.text c.requires.begun c.in_ok-take_word.ensures.same (omega arith) c.requires.within c.in_ok-take_word.ensures.takes
    (λ whole end bytes fits place.
    let more : len < length text = omega arith in
    let rest = drop-prefix len text bytes c.requires.within in
    outside-word whole old.infer end (text ++ bytes) fits w len (word-stays text bytes w len c.requires.prefix more)
    (omega (arith, ap length rest, length-append (drop len text) bytes, length-drop len text))
    ∙ ap (λ p. or_stop p (token_of_word old.infer w) (outside whole old.infer end (drop len (text ++ bytes)))) place
    ∙ ap (λ t. or_stop old.place (token_of_word old.infer w) (outside whole old.infer end t)) rest))

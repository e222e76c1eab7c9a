use Rattle.std.proofs.Common.{◌≡◌, ◌++◌, length, take, drop, ap, ap₂, sym, subst, ◌∙◌, arith, append_assoc}
use Rattle.std.specs.List.{prefix_len}
use Rattle.std.proofs.lemmas.List.{take-append-drop}
use Rattle.std.proofs.lemmas.List.Sums.{prefix_len-le-length}
use Rattle.mlr_spec.specs.JsonTokens.{is_word_byte, word, found, lexeme_outside}
use Rattle.read_json_lines.proofs.Begun.{word-grown}
use Rattle.read_json_lines.proofs.Turning.{turned-kept, turned-flush, fit-word, begun-word}
use Rattle.read_json_lines.proofs.stream.Stream.go_on.Goals as goal

pub prefix-requires : goal.prefix-requires
prefix-requires c = omega (arith, c.word_len-len.ensures, prefix_len-le-length is_word_byte c.args.text.now)

pub returns-then-len-gt0-clause-turned : goal.returns-then-len-gt0-clause-turned
returns-then-len-gt0-clause-turned c = λ fit.
    let old = c.args.self.now in
    let text = c.args.text.now in
    let len = c.word_len-len.result in
    let new = record old { begun = c.extend_from_slice.new.self } in
    let is_word = begun-word old c.requires.goes_on c.requires.text c.requires.begun fit in
    let w = take (prefix_len is_word_byte text) text in
    let items : new.begun.items ≡ old.begun.items ++ take len text = c.in_ok-extend_from_slice.ensures.items ∙ ap (λ t. old.begun.items ++ t) c.prefix.ensures in
    let grown : new.begun.items ≡ old.begun.items ++ w = items ∙ ap (λ n. old.begun.items ++ take n text) c.word_len-len.ensures in
    turned-kept old new c.args.out.now text c.following.result.now
    (sym (ap₂ (λ a b. a ++ b) items c.following.ensures ∙ append_assoc old.begun.items (take len text) (drop len text) ∙ ap (λ t. old.begun.items ++ t) (take-append-drop len text)))
    (fit-word old new c.requires.text is_word.1
    (subst (λ t. lexeme_outside t ≡ found (word t) (length t)) (sym grown) (word-grown old.begun.items text c.requires.begun is_word.0)))
    c.requires.goes_on

pub returns-clause-turned : goal.returns-clause-turned
returns-clause-turned c = λ fit.
    turned-flush c.args.self.now c.end_word.new.self c.args.out.now c.end_word.new.out c.args.text.now c.requires.goes_on c.requires.text c.requires.begun c.requires.bytes
    (omega (arith, c.word_len-len.ensures)) fit c.in_ok-end_word.ensures.same c.in_ok-end_word.ensures.begun c.in_ok-end_word.ensures.takes

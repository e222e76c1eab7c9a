use Rattle.std.proofs.Common.{◌≡◌, ◌++◌, [], length, take, drop, ap, ap₂, sym, subst, ◌∙◌, arith, append_assoc}
use Rattle.std.proofs.lemmas.List.{take-append-drop, drop_all}
use Rattle.mlr_spec.specs.JsonTokens.{found, lexeme_inside}
use Rattle.mlr_json.specs.Seen.{lexeme_seen}
use Rattle.mlr_json.proofs.Left.{found-of_string}
use Rattle.read_json_lines.specs.Streams.{Pushes}
use Rattle.read_json_lines.proofs.Lexing.{nothing-inside}
use Rattle.read_json_lines.proofs.Raws.{escape-ended}
use Rattle.read_json_lines.proofs.Turning.{turned-piece, turned-bad-inside, turned-kept, turned-over, fit-escape, escape-begun, piece-of}
use Rattle.read_json_lines.proofs.stream.Stream.end_escape.Goals as goal

pub returns-in-Found-clause-turned : goal.returns-in-Found-clause-turned
returns-in-Found-clause-turned c = λ fit.
    let old = c.args.self.now in
    let text = c.args.text.now in
    let mid = record old { begun = c.replace-escape.new.dest } in
    let escape = c.as_slice.result.now in
    let none : mid.begun.items ≡ [] = ap (λ (v : _). v.items) c.replace-escape.ensures.after ∙ c.new.ensures.items in
    let escape_is : escape ≡ old.begun.items ++ take 1 text = c.as_slice.ensures.value ∙ c.in_ok-extend_from_slice.ensures.items ∙ ap₂ (λ (v : _) t. v.items ++ t) c.replace-escape.ensures.value c.prefix.ensures in
    let before = escape-begun old c.requires.goes_on c.requires.text fit in
    let l = lexeme_seen c.in-Found.lexeme in
    let len = c.in-Found.len in
    let prefix = sym c.in-Found.ensures.prefix in
    let ends = escape-ended old.begun.items text l len c.requires.begun c.requires.bytes before (sym (ap lexeme_inside escape_is) ∙ prefix) in
    let p = piece-of l (found-of_string escape l len prefix) ends.1 in
    let made = c.in_ok-push_piece-in-Found.ensures in
    let fit_mid = fit-escape old mid c.requires.goes_on c.requires.text (ap lexeme_inside none ∙ nothing-inside) fit in
    let nothing : [] ≡ drop len escape = sym (drop_all len escape (omega (arith, ends.0, ap length escape_is))) in
    turned-over old mid _ text escape c.following.result.now c.args.out.now c.args.out.now none
    (sym (ap₂ (λ a b. a ++ b) escape_is c.following.ensures ∙ append_assoc old.begun.items (take 1 text) (drop 1 text) ∙ ap (λ t. old.begun.items ++ t) (take-append-drop 1 text)))
    (turned-piece mid c.push_piece.new.self c.args.out.now escape [] p.0 len c.requires.goes_on c.requires.text none fit_mid c.in-Found.ensures.within.1
    (prefix ∙ ap (λ x. found x len) p.1) nothing made.same made.open (subst (Pushes old.text c.push_piece.new.self.text) p.1 made.pushes))

pub returns-in-Begun-clause-turned : goal.returns-in-Begun-clause-turned
returns-in-Begun-clause-turned c = λ fit.
    let old = c.args.self.now in
    let text = c.args.text.now in
    let new = record old { begun = c.extend_from_slice-in-Begun.new.self } in
    let none : c.replace-escape.new.dest.items ≡ [] = ap (λ (v : _). v.items) c.replace-escape.ensures.after ∙ c.new.ensures.items in
    let escape_is : c.as_slice.result.now ≡ old.begun.items ++ take 1 text = c.as_slice.ensures.value ∙ c.in_ok-extend_from_slice.ensures.items ∙ ap₂ (λ (v : _) t. v.items ++ t) c.replace-escape.ensures.value c.prefix.ensures in
    let again : c.as_slice-in-Begun.result.now ≡ c.as_slice.result.now = c.as_slice-in-Begun.ensures.value ∙ sym c.as_slice.ensures.value in
    let items : new.begun.items ≡ c.as_slice.result.now = c.in_ok-extend_from_slice-in-Begun.ensures.items ∙ ap₂ (λ a b. a ++ b) none again in
    turned-kept old new c.args.out.now text c.following-in-Begun.result.now
    (sym (ap₂ (λ a b. a ++ b) (items ∙ escape_is) c.following-in-Begun.ensures ∙ append_assoc old.begun.items (take 1 text) (drop 1 text) ∙ ap (λ t. old.begun.items ++ t) (take-append-drop 1 text)))
    (fit-escape old new c.requires.goes_on c.requires.text (ap lexeme_inside items ∙ sym c.in-Begun.ensures.prefix) fit) c.requires.goes_on

pub returns-clause-turned : goal.returns-clause-turned
returns-clause-turned c = λ fit.
    let old = c.args.self.now in
    let text = c.args.text.now in
    let mid = record old { begun = c.replace-escape.new.dest } in
    let escape = c.as_slice.result.now in
    let none : mid.begun.items ≡ [] = ap (λ (v : _). v.items) c.replace-escape.ensures.after ∙ c.new.ensures.items in
    let escape_is : escape ≡ old.begun.items ++ take 1 text = c.as_slice.ensures.value ∙ c.in_ok-extend_from_slice.ensures.items ∙ ap₂ (λ (v : _) t. v.items ++ t) c.replace-escape.ensures.value c.prefix.ensures in
    let fit_mid = fit-escape old mid c.requires.goes_on c.requires.text (ap lexeme_inside none ∙ nothing-inside) fit in
    turned-over old mid c.fail.new.self text escape c.following-in-Bad.result.now c.args.out.now c.fail.new.out none
    (sym (ap₂ (λ a b. a ++ b) escape_is c.following-in-Bad.ensures ∙ append_assoc old.begun.items (take 1 text) (drop 1 text) ∙ ap (λ t. old.begun.items ++ t) (take-append-drop 1 text)))
    (turned-bad-inside mid c.fail.new.self c.args.out.now c.fail.new.out escape [] c.in-Bad.offset c.requires.goes_on c.requires.text none fit_mid c.in-Bad.ensures.within (sym c.in-Bad.ensures.prefix) c.in_ok-fail-in-Bad.ensures)

use Rattle.std.proofs.Common.{◌∷◌, Some, ap, sym, subst, ◌∙◌}
use Rattle.mlr_spec.specs.JsonTokens.{raw, unit, text_token}
use Rattle.mlr_json.specs.Seen.{lexeme_seen}
use Rattle.read_json_lines.specs.Streams.{and_token, Pushes, text_tokens}
use Rattle.read_json_lines.proofs.Builder.{piece-pushed}
use Rattle.read_json_lines.proofs.stream.Stream.push_piece.Goals as goal

pub returns-in_ok-push_raw-in-Raw-clause-pushes : goal.returns-in_ok-push_raw-in-Raw-clause-pushes
returns-in_ok-push_raw-in-Raw-clause-pushes c =
    let string = c.in-Some.open in
    let p = raw c.in-Raw.bytes.now in
    let new = c.push_raw.new.self in
    subst (λ l. Pushes c.args.self.now.text (Some (record { builder = new; place = string.place })) (lexeme_seen l)) (sym c.in-Raw.is)
    (λ more rest. ap (λ o. text_tokens o (p ∷ more) rest) c.in-Some.is
    ∙ ap (λ t. and_token string.place (text_token t) rest) (piece-pushed string.builder new p c.in_ok-push_raw-in-Raw.ensures more))

pub returns-in_ok-push_unit-in-Unit-clause-pushes : goal.returns-in_ok-push_unit-in-Unit-clause-pushes
returns-in_ok-push_unit-in-Unit-clause-pushes c =
    let string = c.in-Some.open in
    let p = unit c.in-Unit.code in
    let new = c.push_unit.new.self in
    subst (λ l. Pushes c.args.self.now.text (Some (record { builder = new; place = string.place })) (lexeme_seen l)) (sym c.in-Unit.is)
    (λ more rest. ap (λ o. text_tokens o (p ∷ more) rest) c.in-Some.is
    ∙ ap (λ t. and_token string.place (text_token t) rest) (piece-pushed string.builder new p c.in_ok-push_unit-in-Unit.ensures more))

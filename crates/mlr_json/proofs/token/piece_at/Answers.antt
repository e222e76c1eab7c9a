use Rattle.std.proofs.Common.{true, sym, subst}
use Rattle.mlr_json.specs.Seen.{lexeme_seen}
use Rattle.mlr_json.specs.Reading.{IsFirst}
use Rattle.mlr_json.proofs.Left.{left-found, inside-begun, inside-bad, found-of_string}
use Rattle.mlr_json.proofs.token.piece_at.Goals as goal

pub piece_of-requires : goal.piece_of-requires
piece_of-requires c = found-of_string c.args.text.now (lexeme_seen c.in-Found.lexeme) c.in-Found.len (sym c.in-Found.ensures.prefix)

pub returns-in-Found-clause-tokens : goal.returns-in-Found-clause-tokens
returns-in-Found-clause-tokens c = λ end fits.
    let text = c.args.text.now in
    let first = left-found true end text (lexeme_seen c.in-Found.lexeme) c.in-Found.len fits (sym c.in-Found.ensures.prefix) in
    c.piece_of.ensures.tokens end text (subst (IsFirst true end text (lexeme_seen c.in-Found.lexeme)) (sym c.following.ensures) first)

pub returns-in-Begun-clause-tokens : goal.returns-in-Begun-clause-tokens
returns-in-Begun-clause-tokens c = λ end fits. inside-begun end c.args.text.now fits (sym c.in-Begun.ensures.prefix)

pub returns-in-Bad-clause-tokens : goal.returns-in-Bad-clause-tokens
returns-in-Bad-clause-tokens c = λ end fits. inside-bad end c.args.text.now fits c.in-Bad.offset c.in-Bad.ensures.within (sym c.in-Bad.ensures.prefix)

use Rattle.std.proofs.Common.{◌≤◌, ap, sym, ◌∙◌, arith, length}
use Rattle.std.proofs.lemmas.List.{length-drop}
use Rattle.mlr_json.specs.Seen.{lexeme_seen}
use Rattle.mlr_json.specs.Reading.{tokens_left}
use Rattle.mlr_json.specs.Turns.{after_at}
use Rattle.mlr_json.proofs.Turned.{following-begun, following-bad, following-token, following-blank}
use Rattle.mlr_json.proofs.read.after_blanks.Goals as goal

pub returns-in-Begun-clause-outcome : goal.returns-in-Begun-clause-outcome
returns-in-Begun-clause-outcome c = λ end value fits.
    let small : length c.loop-offset.left.now ≤ end = omega arith in
    c.loop-offset.invariant.same end value fits ∙ following-begun end value c.loop-offset.left.now small (sym c.in-Begun.ensures.prefix)

pub returns-in-Bad-clause-outcome : goal.returns-in-Bad-clause-outcome
returns-in-Bad-clause-outcome c = λ end value fits.
    let small : length c.loop-offset.left.now ≤ end = omega arith in
    c.loop-offset.invariant.same end value fits
    ∙ following-bad end value c.loop-offset.left.now small c.in-Bad.offset c.in-Bad.ensures.within (sym c.in-Bad.ensures.prefix)

pub returns-then-is_token-clause-outcome : goal.returns-then-is_token-clause-outcome
returns-then-is_token-clause-outcome c = λ end value fits.
    let small : length c.loop-offset.left.now ≤ end = omega arith in
    c.loop-offset.invariant.same end value fits
    ∙ following-token end value c.loop-offset.left.now small (lexeme_seen c.in-Found.lexeme) c.in-Found.len (sym c.in-Found.ensures.prefix) (sym c.is_token.ensures ∙ c.if-is_token.true)

pub loop-offset-preserved : goal.loop-offset-preserved
loop-offset-preserved c = record {
  shorter = omega (arith, c.loop-offset.invariant.shorter, ap length c.following-left.ensures, length-drop c.in-Found.len c.loop-offset.left.now);
  same = λ end value fits.
      let small : length c.loop-offset.left.now ≤ end = omega arith in
      c.loop-offset.invariant.same end value fits
      ∙ following-blank end value c.loop-offset.left.now small (lexeme_seen c.in-Found.lexeme) c.in-Found.len (sym c.in-Found.ensures.prefix) (sym c.is_token.ensures ∙ c.if-is_token.false)
      ∙ ap (λ left. after_at value (tokens_left end left)) (sym c.following-left.ensures);
}

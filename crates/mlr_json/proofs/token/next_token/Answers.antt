use Rattle.std.proofs.Common.{false, ◌≤◌, ℕ, length, sym, subst}
use Rattle.std.proofs.lemmas.Result.{IfOk-weaker}
use Rattle.mlr_json.specs.Seen.{lexeme_seen}
use Rattle.mlr_json.specs.Reading.{IsFirst, Gives, tokens_left}
use Rattle.mlr_json.proofs.Left.{left-found, outside-begun, outside-bad}
use Rattle.mlr_json.proofs.token.next_token.Goals as goal

pub returns-in-Found-clause-tokens : goal.returns-in-Found-clause-tokens
returns-in-Found-clause-tokens c =
    let text = c.args.text.now in
    let l = lexeme_seen c.in-Found.lexeme in
    IfOk-weaker c.token_of.result
    (λ next. (end : ℕ) → length text ≤ end → IsFirst false end text l c.following.result.now → Gives end (length text) next (tokens_left end text))
    (λ next. (end : ℕ) → length text ≤ end → Gives end (length text) next (tokens_left end text))
    (λ next given end fits. given end fits (subst (IsFirst false end text l) (sym c.following.ensures) (left-found false end text l c.in-Found.len fits (sym c.in-Found.ensures.prefix))))
    c.token_of.ensures.tokens

pub returns-in-Begun-clause-tokens : goal.returns-in-Begun-clause-tokens
returns-in-Begun-clause-tokens c = λ end fits. outside-begun end c.args.text.now fits (sym c.in-Begun.ensures.prefix)

pub returns-in-Bad-clause-tokens : goal.returns-in-Bad-clause-tokens
returns-in-Bad-clause-tokens c = λ end fits. outside-bad end c.args.text.now fits c.in-Bad.offset c.in-Bad.ensures.within (sym c.in-Bad.ensures.prefix)

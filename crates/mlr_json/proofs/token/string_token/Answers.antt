use Rattle.std.proofs.Common.{subst, refl}
use Rattle.mlr_spec.specs.JsonTokens.{decoded}
use Rattle.mlr_json.specs.Reading.{IsStringEnd, pieces_left}
use Rattle.mlr_json.proofs.token.string_token.Goals as goal

pub returns-in-Closed-clause-tokens : goal.returns-in-Closed-clause-tokens
returns-in-Closed-clause-tokens c = λ end fits.
    let ended = subst (IsStringEnd end c.args.following.now) c.in-Closed.is (c.in_ok-text.ensures.tokens end fits) in
    rw (ended.0, ended.1) refl

pub returns-in-Cut-clause-tokens : goal.returns-in-Cut-clause-tokens
returns-in-Cut-clause-tokens c = λ end fits.
    let ended = subst (IsStringEnd end c.args.following.now) c.in-Cut.is (c.in_ok-text.ensures.tokens end fits) in
    (decoded (pieces_left end c.args.following.now), rw ended refl)

use Rattle.std.proofs.Common.{ℕ, ◌≤◌, length, ap, sym, subst, ◌∙◌}
use Rattle.std.proofs.lemmas.Result.{IfOk-weaker}
use Rattle.mlr_json.specs.Steps.{frames_of, takes_text}
use Rattle.mlr_json.specs.Reading.{Gives, IsWanted, tokens_left}
use Rattle.mlr_json.specs.Turns.{outcome_at, IsTurn}
use Rattle.mlr_json.proofs.Turned.{is-shallow, text-cut, text-refused}
use Rattle.mlr_json.proofs.read.next_turn.Goals as goal

pub returns-in-Token-clause-outcome : goal.returns-in-Token-clause-outcome
returns-in-Token-clause-outcome c =
    let text = c.args.text.now in
    let frames = frames_of c.args.machine.now in
    let at = c.args.machine.now.phase in
    let machine = c.token_turn.new.machine in
    IfOk-weaker c.token_turn.result _
    (λ turn. (end : ℕ) → length text ≤ end → IsTurn end (outcome_at end frames at (tokens_left end text)) machine turn)
    (λ turn given end fits.
    let tokens = subst (λ next. Gives end (length text) next (tokens_left end text)) c.in-Token.is (c.in_ok-following.ensures.tokens end fits) in
    subst (λ x. IsTurn end (outcome_at end frames at x) machine turn) (sym tokens) (given end))
    c.token_turn.ensures.outcome

pub returns-in-Refused-clause-outcome : goal.returns-in-Refused-clause-outcome
returns-in-Refused-clause-outcome c = λ end fits.
    let text = c.args.text.now in
    let frames = frames_of c.args.machine.now in
    let at = c.args.machine.now.phase in
    let given = subst (λ next. Gives end (length text) next (tokens_left end text)) c.in-Refused.is (c.in_ok-following.ensures.tokens end fits) in
    let refused = subst (IsWanted (takes_text frames at)) c.in-Refused.is c.in_ok-following.ensures.wanted in
    ap (outcome_at end frames at) given.2 ∙ text-refused end frames at _ given.0 given.1 refused

pub returns-in-Cut-clause-outcome : goal.returns-in-Cut-clause-outcome
returns-in-Cut-clause-outcome c = λ end fits.
    let text = c.args.text.now in
    let machine = c.args.machine.now in
    let given = subst (λ next. Gives end (length text) next (tokens_left end text)) c.in-Cut.is (c.in_ok-following.ensures.tokens end fits) in
    let wanted = subst (IsWanted (takes_text (frames_of machine) machine.phase)) c.in-Cut.is c.in_ok-following.ensures.wanted in
    ap (outcome_at end (frames_of machine) machine.phase) given.1
    ∙ text-cut end (frames_of machine) machine.phase _ _ given.0 wanted (is-shallow machine)

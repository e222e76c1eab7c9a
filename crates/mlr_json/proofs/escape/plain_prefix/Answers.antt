use Rattle.std.proofs.Common.{arith, sym}
use Rattle.std.proofs.lemmas.List.Sums.{position_or_len_is}
use Rattle.mlr_json.specs.Escapes.{is_escaped}
use Rattle.mlr_json.proofs.escape.plain_prefix.Goals as goal

pub returns-then-wants_escape-clause-place : goal.returns-then-wants_escape-clause-place
returns-then-wants_escape-clause-place c =
    sym (position_or_len_is is_escaped c.args.text.now c.loop-place.place 0 (omega arith) c.loop-place.invariant (λ _. sym c.if-wants_escape.ensures))

pub returns-clause-place : goal.returns-clause-place
returns-clause-place c =
    sym (position_or_len_is is_escaped c.args.text.now _ 0 (omega arith) (λ k h. c.loop-place.invariant k (omega arith)) (λ h. absurd (omega arith)))

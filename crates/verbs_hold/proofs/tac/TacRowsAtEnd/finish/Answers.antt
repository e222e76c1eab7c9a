use Rattle.std.proofs.Common.{◌≡◌, List, ◌++◌, reverse, Result, Ok, Err, OnOk, is_ok, if◌then◌else◌, ap, ◌∙◌}
use Rattle.std.proofs.lemmas.Result.{on_ok_weaker}
use Rattle.verbs_hold.proofs.Rows.{backwards-rows}
use Rattle.verbs_hold.proofs.tac.TacRowsAtEnd.finish.Goals as goal

appended : {X T E : Type 0} (result : Result T E) (old given after : List X) → after ≡ (if is_ok result then old ++ given else old) → OnOk result (after ≡ old ++ given)
appended (Ok done) old given after is = is
appended (Err lack) old given after is = tt

pub returns-clause-given : goal.returns-clause-given
returns-clause-given c =
    on_ok_weaker c.append.result
    (λ is. record { gives = λ rows holds. is ∙ ap (λ events. c.args.out.now ++ events) (c.reverse.ensures ∙ ap reverse holds ∙ backwards-rows rows) })
    (appended c.append.result c.args.out.now c.reverse.new.rows c.append.new.self c.append.ensures.events)

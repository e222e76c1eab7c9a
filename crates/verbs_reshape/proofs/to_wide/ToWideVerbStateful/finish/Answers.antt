use Rattle.std.proofs.Common.{◌++◌, ap, ◌∙◌}
use Rattle.std.proofs.lemmas.Result.{on_ok_weaker}
use Rattle.verbs_base.specs.Records.{events_of, rows_in}
use Rattle.verbs_reshape.specs.ToWide.{filled_rows, keys_in}
use Rattle.verbs_reshape.proofs.Wide.{filled-given}
use Rattle.verbs_reshape.proofs.to_wide.ToWideVerbStateful.finish.Goals as goal

pub returns-clause-gives : goal.returns-clause-gives
returns-clause-gives c =
    let out = c.args.out.now in
    on_ok_weaker c.push_filled.result
    (λ pushed. record {
      gives = λ rows holds.
          pushed
          ∙ ap (λ keys. out ++ events_of (filled_rows keys (rows_in c.finish.new.out))) holds.0
          ∙ filled-given (keys_in c.args.self.now.options rows) out c.new-made.result c.finish.new.out _ c.new-made.ensures (c.in_ok-finish.ensures.gives.gives rows holds.1);
    })
    c.push_filled.ensures

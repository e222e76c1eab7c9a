use Rattle.std.proofs.Common.{◌++◌, length, map, ap, ◌∙◌}
use Rattle.std.proofs.lemmas.List.{length-map}
use Rattle.std.proofs.lemmas.Result.{on_ok_weaker}
use Rattle.mlr_event.specs.declared.event.Event.TheVariants as event
use Rattle.verbs_base.specs.Records.{Row}
use Rattle.verbs_hold.specs.CountSimilar.{with_count}
use Rattle.verbs_hold.specs.WithFields.{with_fields}
use Rattle.verbs_hold.proofs.Rows.{changed-rows}
use Rattle.verbs_hold.proofs.count_similar.SimilarRowsAtEnd.finish.Goals as goal

pub returns-clause-given : goal.returns-clause-given
returns-clause-given c =
    on_ok_weaker c.push_counted.result
    (λ pushed. record {
      gives = λ rows holds.
          (let out = c.args.out.now in
          let output = c.as_slice.result.now in
          let held = c.replace-rows.ensures.value ∙ holds in
          pushed
          ∙ ap (λ events. out ++ map (with_fields (with_count output (length events))) events) held
          ∙ ap (λ n. out ++ map (with_fields (with_count output n)) (map (λ (row : Row). event.Rec row.0 row.1) rows)) (length-map rows (λ (row : Row). event.Rec row.0 row.1))
          ∙ ap (λ events. out ++ events) (changed-rows (with_count output (length rows)) rows)
          ∙ ap (λ name. out ++ map (λ (row : Row). event.Rec row.0 row.1) (map (λ (row : Row). (with_count name (length rows) row.0, row.1)) rows)) c.as_slice.ensures);
    })
    c.push_counted.ensures

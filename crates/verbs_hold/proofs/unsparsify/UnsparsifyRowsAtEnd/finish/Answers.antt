use Rattle.std.proofs.Common.{◌++◌, map, ap, ap₂, sym, ◌∙◌}
use Rattle.std.specs.List.{flat_map, list_all}
use Rattle.std.proofs.lemmas.Result.{on_ok_weaker}
use Rattle.mlr_spec.specs.Pairs.{are_distinct, keys_of}
use Rattle.verbs_base.specs.Records.{events_of}
use Rattle.verbs_base.proofs.Picking.{are_distinct-once}
use Rattle.verbs_hold.specs.ByPlace.{has_all_in}
use Rattle.verbs_hold.specs.Unsparsify.{all_names, filled}
use Rattle.verbs_hold.specs.WithFields.{with_fields}
use Rattle.verbs_hold.proofs.Known.{known-rows}
use Rattle.verbs_hold.proofs.Rows.{changed-rows}
use Rattle.verbs_hold.proofs.unsparsify.UnsparsifyRowsAtEnd.finish.Goals as goal

pub push_filled-requires : goal.push_filled-requires
push_filled-requires c =
    let rows = c.requires.0 in
    let names = c.as_slice-2.ensures ∙ c.requires.1.2 in record {
      table = c.requires.1.1 ∙ sym names;
      distinct = ap are_distinct names ∙ are_distinct-once (flat_map (λ row. keys_of row.0) rows);
      known = ap₂ (λ names events. list_all (has_all_in names) events) names (c.replace-rows.ensures.value ∙ c.requires.1.0) ∙ known-rows rows;
    }

pub returns-clause-given : goal.returns-clause-given
returns-clause-given c =
    on_ok_weaker c.push_filled.result
    (λ pushed. record {
      gives = λ rows holds. (
          let out = c.args.out.now in
          let rows_are = c.replace-rows.ensures.value ∙ holds.0 in
          pushed
          ∙ ap (λ events. out ++ map (with_fields (filled c.as_slice.result.now c.as_slice-2.result.now)) events) rows_are
          ∙ ap (λ names. out ++ map (with_fields (filled c.as_slice.result.now names)) (events_of rows)) (c.as_slice-2.ensures ∙ holds.2)
          ∙ ap (λ fill. out ++ map (with_fields (filled fill (all_names rows))) (events_of rows)) c.as_slice.ensures
          ∙ ap (λ events. out ++ events) (changed-rows (filled c.args.self.now.fill (all_names rows)) rows)
          );
    })
    c.push_filled.ensures

use Rattle.std.proofs.Common.{◌≡◌, ◌+◌, ◌∷◌, drop, ap, sym, ◌∙◌}
use Rattle.std.specs.List.{fold}
use Rattle.mlr_groups.specs.Keys.{entered}
use Rattle.mlr_record.specs.Fields.{pairs_of}
use Rattle.mlr_spec.specs.Pairs.{keys_of}
use Rattle.verbs_hold.proofs.Names.{keys-next}
use Rattle.verbs_hold.proofs.unsparsify.add_names.Goals as goal

pub loop-field-preserved : goal.loop-field-preserved
loop-field-preserved c =
    let items = c.fields-field-items.result.now in
    let i = c.loop-field.field-index in
    let keys = keys_of c.args.fields.now in
    let seen = c.loop-field.seen in
    let same : keys_of (pairs_of items) ≡ keys = ap keys_of c.fields-field-items.ensures in
    let here : drop i keys ≡ c.field-item.result.name ∷ drop (i + 1) keys =
    ap (drop i) (sym same) ∙ keys-next items i c.field-item.result c.loop-field-test.true c.field-item.is ∙ ap (λ names. c.field-item.result.name ∷ drop (i + 1) names) same in
    record {
      seen =
          ap (λ now. fold entered now (drop (i + 1) keys)) (c.in_ok-add_name.ensures.seen ∙ ap (entered seen) c.as_slice.ensures)
          ∙ ap (fold entered seen) (sym here)
          ∙ c.loop-field.invariant.seen;
      names = c.in_ok-add_name.ensures.names;
    }

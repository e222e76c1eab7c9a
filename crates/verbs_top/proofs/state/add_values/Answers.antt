use Rattle.std.proofs.Common.{◌++◌, ◌∷◌, [], None, ap, get_or, length, subst, ◌∙◌, arith}
use Rattle.std.proofs.Math.ListN.{length-set}
use Rattle.mlr_spec.specs.Pairs.{value_at}
use Rattle.verbs_base.specs.Records.{Row}
use Rattle.verbs_top.specs.Best.{HoldsBest, offered}
use Rattle.verbs_top.specs.State.{column_of}
use Rattle.verbs_top.proofs.Columns.{all-next, columns-next}
use Rattle.verbs_top.proofs.state.add_values.Goals as goal

pub loop-place-preserved : goal.loop-place-preserved
loop-place-preserved c = record {
  many = length-set c.loop-place.columns.items c.loop-place.place c.offer.new.self ∙ c.loop-place.invariant.many;
  held = λ rows ctx held. (
      let options = c.args.options.now in
      let place = c.loop-place.place in
      let name = c.name-item.result in
      let row : Row = (c.args.fields.now, ctx) in
      let value = c.get.ensures ∙ ap (λ n. value_at n c.args.fields.now) c.as_slice.ensures in
      columns-next options options.names place name rows row c.loop-place.columns.items c.index_mut.result.now c.offer.new.self
      (omega (arith, ap length c.as_slice-name-items.ensures)) (c.name-item.is ∙ ap (λ names. get_or names place name) c.as_slice-name-items.ensures) c.index_mut.ensures.value
      (λ given holds. subst (λ v. HoldsBest options (given ++ offered v None) c.offer.new.self) value (c.in_ok-offer.ensures given holds))
      (c.loop-place.invariant.held rows ctx held)
      );
}

pub returns : goal.returns
returns c = λ rows ctx held.
    all-next c.args.options.now c.args.options.now.names c.loop-place.place (λ name. column_of name (rows ++ (c.args.fields.now, ctx) ∷ [])) (λ name. column_of name rows) c.loop-place.columns.items
    (omega (arith, c.loop-place-test.false, ap length c.as_slice-name-items.ensures))
    (c.loop-place.invariant.held rows ctx held)

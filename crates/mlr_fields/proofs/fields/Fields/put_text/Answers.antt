use Rattle.std.proofs.Common.{◌≡◌, false, subst}
use Rattle.mlr_spec.specs.Infer.{tree_of_data}
use Rattle.mlr_spec.specs.Pairs.{keys_of}
use Rattle.mlr_value.specs.Value.{tree_of}
use Rattle.mlr_event.specs.Reading.{is_among}
use Rattle.mlr_event.proofs.Putting.{value_at-free}
use Rattle.mlr_fields.proofs.Building.{put-lacked}
use Rattle.mlr_fields.proofs.fields.Fields.put_text.Goals as goal

pub push_marked-requires-clause-new : goal.push_marked-requires-clause-new
push_marked-requires-clause-new c =
    value_at-free c.args.name.now c.args.self.now (
    subst (λ pairs. is_among (keys_of pairs) c.args.name.now ≡ false) c.self.view_is (c.lack.ensures c.if-not-lack.false (keys_of c.self.inside.record) c.args.name.now c.self.invariant.0 c.mark_of-mark.ensures.mark)
    )

pub returns : goal.returns
returns c =
    let name = c.args.name.now in
    let lacked : is_among (keys_of c.args.self.now) name ≡ false =
    subst (λ pairs. is_among (keys_of pairs) name ≡ false) c.self.view_is (c.lack.ensures c.if-not-lack.false (keys_of c.self.inside.record) c.args.name.now c.self.invariant.0 c.mark_of-mark.ensures.mark) in
    put-lacked c.push_marked.result c.args.self.now c.push_marked.new.self c.args.opts.now.dedupe name (tree_of c.in_ok-value.value) (tree_of_data c.args.opts.now.infer c.args.text.now) lacked c.in_ok-value.ensures c.push_marked.ensures

use Rattle.std.proofs.Common.{◌≡◌, false, refl, subst}
use Rattle.mlr_spec.specs.Pairs.{keys_of}
use Rattle.mlr_value.specs.Value.{tree_of}
use Rattle.mlr_event.specs.Reading.{is_among}
use Rattle.mlr_event.proofs.Putting.{value_at-free}
use Rattle.mlr_fields.proofs.Building.{put-lacked}
use Rattle.mlr_fields.proofs.fields.Fields.put.Goals as goal
use Rattle.mlr_fields.proofs.fields.Fields.put.Goals.{Then-lack}

lacked : (c : Then-lack) → is_among (keys_of c.args.self.now) c.args.name.now ≡ false
lacked c =
    subst (λ pairs. is_among (keys_of pairs) c.args.name.now ≡ false) c.self.view_is (c.lack.ensures c.if-lack.true (keys_of c.self.inside.record) c.args.name.now c.self.invariant.0 c.mark_of-mark.ensures.mark)

pub push_marked-requires-clause-new : goal.push_marked-requires-clause-new
push_marked-requires-clause-new c = value_at-free c.args.name.now c.args.self.now (lacked (goal.at.push_marked-requires-clause-new c).Then-lack)

pub returns-then-lack : goal.returns-then-lack
returns-then-lack c =
    let value = tree_of c.args.value in
    put-lacked c.push_marked.result c.args.self.now c.push_marked.new.self c.args.dedupe c.args.name.now value value (lacked (goal.at.returns-then-lack c).Then-lack) refl c.push_marked.ensures

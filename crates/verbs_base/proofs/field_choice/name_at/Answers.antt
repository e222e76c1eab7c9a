use Rattle.std.proofs.Common.{◌≡◌, ◌<◌, length, slice_get, slice_index_or, Some, subst, sym}
use Rattle.mlr_value.specs.Value.{tree_of}
use Rattle.verbs_base.proofs.Places.{pair-at}
use Rattle.verbs_base.proofs.field_choice.name_at.Goals as goal

pub returns : goal.returns
returns c =
    let fields = c.fields.result.now in
    let place = c.args.place in
    let field = slice_index_or fields place c.index-fields-place.result in (
      tree_of field.value,
      subst (λ pairs. slice_get pairs place ≡ Some (field.name, tree_of field.value)) c.fields.ensures (pair-at fields place c.index-fields-place.result (subst (λ pairs. place < length pairs) (sym c.fields.ensures) c.requires)),
    )

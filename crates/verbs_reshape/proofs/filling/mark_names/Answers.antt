use Rattle.std.proofs.Common.{◌++◌, ◌∷◌, [], ◌+◌, map, take, sym, ap, ◌∙◌}
use Rattle.mlr_event.specs.Reading.{is_among}
use Rattle.mlr_spec.specs.Pairs.{keys_of}
use Rattle.verbs_reshape.proofs.Marks.{names-next, none-marked}
use Rattle.verbs_reshape.proofs.filling.mark_names.Goals as goal

pub loop-field-init : goal.loop-field-init
loop-field-init c = c.requires.none ∙ none-marked c.args.keys.now

pub loop-field-preserved : goal.loop-field-preserved
loop-field-preserved c =
    let items = c.fields-field-items.result.now in
    let i = c.loop-field.field-index in
    let keys = c.args.keys.now in
    let so_far = take i (keys_of c.args.fields.now) in
    let same = ap keys_of c.fields-field-items.ensures in
    c.mark_name.ensures so_far c.loop-field.invariant
    ∙ ap (λ name. map (is_among (so_far ++ name ∷ [])) keys) c.as_slice.ensures
    ∙ ap (λ names. map (is_among names) keys) (
    ap (λ names. take i names ++ c.field-item.result.name ∷ []) (sym same)
    ∙ names-next items i c.field-item.result c.loop-field-test.true c.field-item.is
    ∙ ap (take (i + 1)) same)

use Rattle.std.proofs.Common.{◌≡◌, ◌++◌, ◌∷◌, [], ap, ap₂, ◌∙◌}
use Rattle.std.proofs.lemmas.Result.{on_ok_weaker}
use Rattle.mlr_spec.specs.Flatten.{flat}
use Rattle.mlr_spec.specs.Pairs.{put_each}
use Rattle.mlr_value.specs.Value.{tree_of}
use Rattle.verbs_values.proofs.Flattening.{put-leaves}
use Rattle.verbs_values.proofs.flatten.put_leaves.Goals as goal

pub returns : goal.returns
returns c =
    let separator = c.args.separator.now in
    let value = tree_of c.args.field.value in
    let pushed : c.push.new.self ≡ (c.args.field.name, value) ∷ [] = c.in_ok-push.ensures ∙ ap₂ (λ l n. l ++ (n, value) ∷ []) c.in_ok-leaves.ensures c.as_slice.ensures in
    let alone : c.flatten.new.self ≡ flat separator ((c.args.field.name, value) ∷ []) = c.in_ok-flatten.ensures.flat ∙ ap (flat separator) pushed in
    on_ok_weaker c.put_all.result
    (λ put. put ∙ ap (put_each c.args.into.now) c.into_fields.ensures.fields ∙ put-leaves separator c.args.field.name value c.args.into.now c.flatten.new.self alone)
    c.put_all.ensures

use Rattle.std.proofs.Common.{◌≡◌, ◌++◌, ◌∷◌, [], false, Some, slice_get, sym, ap, ◌∙◌}
use Rattle.std.proofs.lemmas.List.{length-map}
use Rattle.mlr_keys.specs.Keys.{texts_in}
use Rattle.mlr_event.specs.Reading.{is_among}
use Rattle.mlr_groups.proofs.Tables.{texts-push, slice_get-last}
use Rattle.mlr_groups.proofs.keys.KeyTable.push.Goals as goal

pub returns-clause-pushed : goal.returns-clause-pushed
returns-clause-pushed c =
    let keys = c.self.inside.keys.keys in
    let items = c.in_ok-key.ensures.items in
    let seen = c.self.view_is in
    let new : is_among (texts_in keys) c.in_ok-key.key.items ≡ false =
    ap (is_among (texts_in keys)) items ∙ ap (λ texts. is_among texts c.args.key.now) seen ∙ c.requires in
    ap texts_in c.in_ok-insert.ensures.keys ∙ texts-push keys c.in_ok-key.key new ∙ ap (λ text. texts_in keys ++ text ∷ []) items
    ∙ ap (λ texts. texts ++ c.args.key.now ∷ []) seen

pub returns-clause-place : goal.returns-clause-place
returns-clause-place c =
    let keys = c.self.inside.keys.keys in
    let items = c.in_ok-key.ensures.items in
    let seen = c.self.view_is in
    let new : is_among (texts_in keys) c.in_ok-key.key.items ≡ false =
    ap (is_among (texts_in keys)) items ∙ ap (λ texts. is_among texts c.args.key.now) seen ∙ c.requires in
    let place = c.len-place.ensures.len ∙ sym (length-map keys (λ key. key.items)) in
    ap (λ texts. slice_get texts c.len-place.result) (ap texts_in c.in_ok-insert.ensures.keys ∙ texts-push keys c.in_ok-key.key new)
    ∙ ap (slice_get (texts_in keys ++ c.in_ok-key.key.items ∷ [])) place
    ∙ slice_get-last (texts_in keys) c.in_ok-key.key.items ∙ ap Some items

use Rattle.std.proofs.Common.{◌≡◌, ◌++◌, ◌∷◌, [], false, ap, ◌∙◌}
use Rattle.std.specs.List.{list_any}
use Rattle.std.specs.Str.{bytes_eq}
use Rattle.mlr_keys.specs.Keys.{texts_in}
use Rattle.mlr_keys.proofs.Sets.{texts-push}
use Rattle.mlr_keys.proofs.key_index.KeyIndex.push.Goals as goal

pub returns : goal.returns
returns c =
    let keys = c.self.inside.keys.keys in
    let items = c.in_ok-key.ensures.items in
    let seen = c.self.view_is in
    let new : list_any (bytes_eq c.in_ok-key.key.items) (texts_in keys) ≡ false =
    ap (λ text. list_any (bytes_eq text) (texts_in keys)) items ∙ ap (list_any (bytes_eq c.args.key.now)) seen ∙ c.requires in
    ap texts_in c.in_ok-insert.ensures.keys ∙ texts-push keys c.in_ok-key.key new ∙ ap (λ text. texts_in keys ++ text ∷ []) items
    ∙ ap (λ texts. texts ++ c.args.key.now ∷ []) seen

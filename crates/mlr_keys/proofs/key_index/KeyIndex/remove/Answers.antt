use Rattle.std.proofs.Common.{ap, remove, ◌∙◌}
use Rattle.indexmap.proofs.SetLemmas.{map-remove}
use Rattle.mlr_keys.specs.Keys.{texts_in}
use Rattle.mlr_keys.proofs.key_index.KeyIndex.remove.Goals as goal

pub returns : goal.returns
returns c =
    ap texts_in c.shift_remove_index.ensures.keys ∙ map-remove (λ key. key.items) c.self.inside.keys.keys c.args.place
    ∙ ap (λ keys. remove keys c.args.place) c.self.view_is

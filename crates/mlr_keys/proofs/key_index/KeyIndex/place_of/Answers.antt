use Rattle.std.proofs.Common.{subst}
use Rattle.mlr_keys.specs.Keys.{IsPlaceAmong}
use Rattle.mlr_keys.proofs.Sets.{place-among}
use Rattle.mlr_keys.proofs.key_index.KeyIndex.place_of.Goals as goal

pub returns : goal.returns
returns c =
    subst (λ texts. IsPlaceAmong c.args.key.now texts c.get_index_of.result) c.self.view_is
    (place-among c.args.key.now c.self.inside.keys.keys c.get_index_of.result c.get_index_of.ensures.index c.get_index_of.ensures.found)

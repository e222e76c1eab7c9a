use Rattle.std.proofs.Common.{map, sym, subst}
use Rattle.mlr_keys.specs.Keys.{IsPlaceAmong, Knows}
use Rattle.mlr_value.proofs.Places.{keys-are, place-of-pair}
use Rattle.mlr_value.proofs.map_value.place_of.Goals as goal

pub place_of-requires : goal.place_of-requires
place_of-requires c =
    subst (λ pairs. Knows c.args.columns.now.index (map (λ pair. pair.key) pairs)) (sym c.deref.ensures.value)
    (subst (Knows c.args.columns.now.index) (sym (keys-are c.args.columns.now.pairs.items)) c.requires)

pub returns : goal.returns
returns c =
    let key = c.args.key.now in
    let pairs = c.args.columns.now.pairs.items in
    place-of-pair key pairs c.place_of.result
    (subst (λ keys. IsPlaceAmong key keys c.place_of.result) (keys-are pairs)
    (subst (λ items. IsPlaceAmong key (map (λ pair. pair.key) items) c.place_of.result) c.deref.ensures.value c.place_of.ensures))

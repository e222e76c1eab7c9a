use Rattle.std.proofs.Common.{sym, subst}
use Rattle.mlr_keys.specs.Keys.{IsPlaceAmong, Knows}
use Rattle.mlr_record.proofs.Children.{names-are, place-of-child}
use Rattle.mlr_record.proofs.node.place_of.Goals as goal

pub place_of-requires : goal.place_of-requires
place_of-requires c = subst (Knows c.args.places.now) (sym (names-are c.args.children.now)) c.requires

pub returns : goal.returns
returns c =
    let key = c.args.name.now in
    let children = c.args.children.now in
    place-of-child key children c.place_of.result (subst (λ names. IsPlaceAmong key names c.place_of.result) (names-are children) c.place_of.ensures)

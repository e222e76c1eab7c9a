use Rattle.std.proofs.Common.{◌≡◌, ◌<◌, ◌++◌, ◌∷◌, [], false, length, map, take, ap, sym, subst, ◌∙◌, arith}
use Rattle.std.specs.List.{list_any}
use Rattle.std.specs.Str.{bytes_eq}
use Rattle.mlr_keys.proofs.Keyed.{mapped-at, none-before, take-more}
use Rattle.mlr_keys.proofs.key_places.index_of.Goals as goal

pub push-requires : goal.push-requires
push-requires g c =
    let items = c.args.items.now in
    let keys = map g.T.HasKey.key items in
    let place = c.loop-place.place in
    let below : place < length items = omega arith in
    let at = mapped-at g.T.HasKey.key items place c.index-items-place.result below c.index-items-place.is in
    subst (λ texts. list_any (bytes_eq c.key.result.now) texts ≡ false) (sym c.loop-place.invariant)
    (subst (λ text. list_any (bytes_eq text) (take place keys) ≡ false) (sym c.key.ensures)
    (none-before keys place (g.T.HasKey.key c.index-items-place.result) at c.requires))

pub loop-place-preserved : goal.loop-place-preserved
loop-place-preserved g c =
    let items = c.args.items.now in
    let keys = map g.T.HasKey.key items in
    let place = c.loop-place.place in
    let below : place < length items = omega arith in
    let at = mapped-at g.T.HasKey.key items place c.index-items-place.result below c.index-items-place.is in
    c.in_ok-push.ensures
    ∙ ap (λ texts. texts ++ c.key.result.now ∷ []) c.loop-place.invariant
    ∙ ap (λ text. take place keys ++ text ∷ []) c.key.ensures
    ∙ sym (take-more keys place (g.T.HasKey.key c.index-items-place.result) at)

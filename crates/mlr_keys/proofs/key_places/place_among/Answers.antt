use Rattle.std.proofs.Common.{◌≡◌, ◌<◌, false, true, length, take, get_or, rules, ap, sym, subst, ◌∙◌, arith}
use Rattle.std.specs.List.{list_any}
use Rattle.std.specs.Str.{bytes_eq}
use Rattle.std.proofs.Math.Seq.{take-length}
use Rattle.mlr_keys.proofs.Keyed.{first-here, first-mapped, none-mapped}
use Rattle.mlr_keys.proofs.key_places.place_among.Goals as goal

pub returns-then-eq : goal.returns-then-eq
returns-then-eq g c =
    let key = c.args.key.now in
    let items = c.args.items.now in
    let place = c.loop-place.place in
    let below : place < length items = omega arith in
    let here : bytes_eq (g.T.HasKey.key (get_or items place c.index-items-place.result)) key ≡ true =
    ap (λ item. bytes_eq (g.T.HasKey.key item) key) (sym c.index-items-place.is) ∙ ap (λ text. bytes_eq text key) (sym c.key.ensures) ∙ (search rules) in
    first-mapped g.T.HasKey.key key items place
    (first-here (λ item. bytes_eq (g.T.HasKey.key item) key) items place c.index-items-place.result below c.loop-place.invariant here)

pub returns : goal.returns
returns g c =
    let items = c.args.items.now in
    let all : take c.loop-place.place items ≡ items = ap (λ n. take n items) (omega arith) ∙ take-length items in
    none-mapped g.T.HasKey.key c.args.key.now items
    (subst (λ t. list_any (λ item. bytes_eq (g.T.HasKey.key item) c.args.key.now) t ≡ false) all c.loop-place.invariant)

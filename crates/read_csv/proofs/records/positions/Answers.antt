use Rattle.std.proofs.Common.{◌≡◌, ◌+◌, ◌++◌, ◌∷◌, [], ap, ap₂, sym, ◌∙◌, arith}
use Rattle.std.specs.Fmt.{decimal}
use Rattle.read_csv.proofs.Recording.{positions-more}
use Rattle.read_csv.proofs.records.positions.Goals as goal

pub loop-place-preserved : goal.loop-place-preserved
loop-place-preserved c =
    let place = c.loop-place.place in
    let text = c.in_ok-copy_of.ensures.copied ∙ c.as_bytes.ensures.value ∙ c.format.ensures.text in
    let number : place + 1 ≡ 1 + place = omega arith in
    c.in_ok-push.ensures.items ∙ ap₂ (λ made t. made ++ t ∷ []) c.loop-place.invariant (text ∙ ap decimal number) ∙ sym (positions-more 1 place)

use Rattle.std.proofs.Common.{◌≡◌, ◌+◌, length, take, ap, sym, ◌∙◌, arith}
use Rattle.std.proofs.lemmas.List.{length-take-le, take-take}
use Rattle.mlr_value.proofs.short.Short.copy_of_first.Goals as goal

pub returns : goal.returns
returns c =
    let text = c.args.text.now in
    let cells = c.put_part.new.cells in
    let count : 16 ≡ 0 + length (take 16 text) = omega (arith, length-take-le 16 text c.requires.long) in
    sym (take-take c.args.len 16 cells c.requires.short)
    ∙ ap (take c.args.len) (ap (λ n. take n cells) count ∙ c.put_part.ensures.prefix)
    ∙ take-take c.args.len 16 text c.requires.short

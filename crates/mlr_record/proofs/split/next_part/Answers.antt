use Rattle.std.proofs.Common.{◌+◌, length, take, sym, ap, ◌∙◌, ◌∷◌}
use Rattle.mlr_spec.specs.Split.{split_by}
use Rattle.mlr_spec.proofs.Splitting.{split_by-some}
use Rattle.mlr_record.proofs.Finding.{whole-rest}
use Rattle.mlr_record.proofs.split.next_part.Goals as goal

pub returns-in-Some-clause-parts : goal.returns-in-Some-clause-parts
returns-in-Some-clause-parts c =
    let separator = c.args.separator.now in
    let text = c.args.text.now in
    let place = c.in-Some.place in
    split_by-some separator text place c.requires (sym c.in-Some.ensures.place)
    ∙ ap (λ rest. take place text ∷ split_by separator rest) (sym (whole-rest text (place + length separator)))

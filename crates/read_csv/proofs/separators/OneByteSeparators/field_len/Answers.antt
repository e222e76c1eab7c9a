use Rattle.std.proofs.Common.{◌∷◌, [], ap, ◌∙◌}
use Rattle.mlr_spec.specs.Split.{place_in}
use Rattle.read_csv.proofs.Separating.{last-lanes}
use Rattle.read_csv.proofs.separators.OneByteSeparators.field_len.Goals as goal

pub returns-then-line-ge-LANES : goal.returns-then-line-ge-LANES
returns-then-line-ge-LANES c =
    c.place_among.ensures ∙ ap (place_in (c.args.self.now.byte ∷ [])) (last-lanes c.args.line.now c.args.from c.if-line-ge-LANES.true c.requires c.if-rest-ge-LANES.false)

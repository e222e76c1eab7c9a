use Rattle.mlr_record.proofs.Finding.{FindsNeedle-place_in, IsFirstByte-place_in, place_in-inside}
use Rattle.mlr_record.proofs.split.separator_place.Goals as goal

pub returns-then-separator-eq1-clause-place : goal.returns-then-separator-eq1-clause-place
returns-then-separator-eq1-clause-place c =
    IsFirstByte-place_in c.args.separator.now c.args.text.now c.byte_place.result c.if-separator-eq1.true c.byte_place.ensures

pub returns-then-separator-eq1-clause-inside : goal.returns-then-separator-eq1-clause-inside
returns-then-separator-eq1-clause-inside c =
    place_in-inside c.args.separator.now c.args.text.now c.byte_place.result (returns-then-separator-eq1-clause-place c)

pub returns-else-separator-eq1-clause-place : goal.returns-else-separator-eq1-clause-place
returns-else-separator-eq1-clause-place c = FindsNeedle-place_in c.args.separator.now c.args.text.now c.find.result c.requires c.find.ensures

pub returns-else-separator-eq1-clause-inside : goal.returns-else-separator-eq1-clause-inside
returns-else-separator-eq1-clause-inside c =
    place_in-inside c.args.separator.now c.args.text.now c.find.result (returns-else-separator-eq1-clause-place c)

use Rattle.verbs_hold.proofs.ByPlace.{trees-set}
use Rattle.verbs_hold.proofs.by_place.put_value.Goals as goal

pub returns-clause-values : goal.returns-clause-values
returns-clause-values c = trees-set c.args.values.now c.in_ok-place.place c.args.field.value

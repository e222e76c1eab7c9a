use Rattle.std.proofs.Common.{sym}
use Rattle.mlr_event.specs.Reading.{is_among}
use Rattle.verbs_values.proofs.Flattening.{flattened-plain}
use Rattle.verbs_values.proofs.flatten.flatten_named.Goals as goal

pub returns-then-not-has_flattened : goal.returns-then-not-has_flattened
returns-then-not-has_flattened c =
    flattened-plain c.args.separator.now (is_among c.args.names.now) c.args.from c.has_flattened.ensures.distinct (sym c.if-not-has_flattened.ensures.found)

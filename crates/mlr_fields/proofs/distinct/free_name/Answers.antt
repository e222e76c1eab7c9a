use Rattle.std.proofs.Common.{sym, ◌∙◌}
use Rattle.mlr_fields.proofs.Suffixing.{free_name-chosen}
use Rattle.mlr_fields.proofs.distinct.free_name.Goals as goal

pub returns-in_ok-first_free : goal.returns-in_ok-first_free
returns-in_ok-first_free c =
    let found = c.in_ok-first_free in
    free_name-chosen c.args.names.now.items c.args.name.now c.requires (sym c.has.ensures ∙ c.if-has.true) found.field-0.0 found.field-0.1 found.ensures.name found.ensures.least found.ensures.free

use Rattle.std.proofs.Common.{sym, ◌∙◌}
use Rattle.mlr_spec.proofs.Flattening.{any-here, any-later}
use Rattle.mlr_value.specs.Value.{tree_of}
use Rattle.verbs_fields.specs.Unspace.{is_spaced}
use Rattle.verbs_fields.proofs.unspace.has_spaced.Goals as goal

pub returns-then-is_spaced-clause-found : goal.returns-then-is_spaced-clause-found
returns-then-is_spaced-clause-found c =
    let field = c.entry.result in
    sym (any-here (is_spaced c.args.part) c.args.from.now c.loop-place.place (field.0.now, tree_of field.1.now) c.entry.ensures (sym c.is_spaced.ensures ∙ c.if-is_spaced.true)) ∙ c.loop-place.invariant

pub loop-place-preserved : goal.loop-place-preserved
loop-place-preserved c =
    let field = c.entry.result in
    any-later (is_spaced c.args.part) c.args.from.now c.loop-place.place (field.0.now, tree_of field.1.now) c.entry.ensures (sym c.is_spaced.ensures ∙ c.if-is_spaced.false) ∙ c.loop-place.invariant

use Rattle.std.proofs.Common.{ℕ, List, sym, ◌∙◌}
use Rattle.mlr_spec.specs.Tree.{Tree}
use Rattle.mlr_value.specs.Value.{tree_of}
use Rattle.mlr_event.specs.Reading.{is_among}
use Rattle.verbs_fields.proofs.Entries.{all-here, all-later}
use Rattle.verbs_fields.proofs.having.has_no_others.Goals as goal

pub returns-then-not-has : goal.returns-then-not-has
returns-then-not-has c =
    let field = c.entry.result in
    let test = λ (pair : List ℕ × Tree). is_among c.args.names.now pair.0 in
    sym (all-here test c.args.from.now c.loop-place.place (field.0.now, tree_of field.1.now) c.entry.ensures (sym c.has.ensures ∙ c.if-not-has.true)) ∙ c.loop-place.invariant

pub loop-place-preserved : goal.loop-place-preserved
loop-place-preserved c =
    let field = c.entry.result in
    let test = λ (pair : List ℕ × Tree). is_among c.args.names.now pair.0 in
    all-later test c.args.from.now c.loop-place.place (field.0.now, tree_of field.1.now) c.entry.ensures (sym c.has.ensures ∙ c.if-not-has.false) ∙ c.loop-place.invariant

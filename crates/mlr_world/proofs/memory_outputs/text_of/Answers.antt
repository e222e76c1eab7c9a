use Rattle.std.proofs.Common.{Some, sym, ap, ◌∙◌}
use Rattle.mlr_world.proofs.MemoryOutputs.{held-absent, held-place}
use Rattle.mlr_world.proofs.memory_outputs.text_of.Goals as goal

pub returns-in-Some : goal.returns-in-Some
returns-in-Some c =
    ap Some c.as_slice.ensures.value
    ∙ ap (λ entry. Some entry.text.items) (sym c.index-entries-place.is)
    ∙ sym (held-place c.args.entries.now c.args.target.now c.in-Some.place c.index-entries-place.result c.in-Some.ensures c.index-entries-place.is)

pub returns-in-None : goal.returns-in-None
returns-in-None c = sym (held-absent c.args.entries.now c.args.target.now c.in-None.ensures)

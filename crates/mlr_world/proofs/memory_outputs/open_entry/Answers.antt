use Rattle.std.proofs.Common.{Some, None, refl, subst}
use Rattle.mlr_world.specs.MemoryTexts.{IsFirstPlace}
use Rattle.mlr_world.specs.Outputs.{OpenLeaves}
use Rattle.mlr_world.specs.MemoryOutputs.{is_of}
use Rattle.mlr_world.specs.declared.outputs.Done.TheVariants as done
use Rattle.mlr_world.proofs.MemoryOutputs.{changes-set, changes-push, held-absent}
use Rattle.mlr_world.proofs.memory_outputs.open_entry.Goals as goal

pub returns-in-Some-clause-bytes : goal.returns-in-Some-clause-bytes
returns-in-Some-clause-bytes c =
    let target = c.args.target.now in
    let entries = c.args.entries.now.items in
    let found = subst (λ entries. IsFirstPlace (is_of target) entries (Some c.in-Some.place)) c.deref.ensures.value c.in-Some.ensures in
    changes-set entries target c.in-Some.place c.index_mut.result.now found c.index_mut.ensures.value (OpenLeaves c.args.mode done.Ok)
    (record { target = c.index_mut.result.now.target; text = c.start_text.new.text }) refl c.start_text.ensures.bytes

pub returns-in-Ok-clause-bytes : goal.returns-in-Ok-clause-bytes
returns-in-Ok-clause-bytes c =
    let target = c.args.target.now in
    let entries = c.args.entries.now.items in
    let absent = subst (λ entries. IsFirstPlace (is_of target) entries None) c.deref.ensures.value c.in-None.ensures in
    changes-push entries c.add_copy.new.entries.items target c.args.mode absent c.in-Ok.ensures.pairs

pub returns-in-Err-clause-enough : goal.returns-in-Err-clause-enough
returns-in-Err-clause-enough c = λ _.
    held-absent c.args.entries.now.items c.args.target.now (subst (λ entries. IsFirstPlace (is_of c.args.target.now) entries None) c.deref.ensures.value c.in-None.ensures)

use Rattle.std.proofs.Common.{Some, None, refl, subst, sym}
use Rattle.std.proofs.lemmas.List.Elements.{All-set}
use Rattle.mlr_world.specs.MemoryTexts.{IsFirstPlace}
use Rattle.mlr_world.specs.Outputs.{WriteLeaves}
use Rattle.mlr_world.specs.MemoryOutputs.{is_of, HasRoom, Writes}
use Rattle.mlr_world.specs.declared.outputs.Done.TheVariants as done
use Rattle.mlr_world.proofs.MemoryOutputs.{all-fine-less, changes-set, held-absent, writes-none}
use Rattle.mlr_world.proofs.memory_outputs.write_text.Goals as goal

pub returns-in-Some-clause-bytes : goal.returns-in-Some-clause-bytes
returns-in-Some-clause-bytes c =
    let target = c.args.target.now in
    let entries = c.args.entries.now.items in
    let found = subst (λ entries. IsFirstPlace (is_of target) entries (Some c.in-Some.place)) c.deref.ensures.value c.in-Some.ensures in
    changes-set entries target c.in-Some.place c.index_mut.result.now found c.index_mut.ensures.value (WriteLeaves c.args.bytes.now c.append_prefix.result)
    (record { target = c.index_mut.result.now.target; text = c.append_prefix.new.text }) refl c.append_prefix.ensures.bytes

pub returns-in-Some-clause-writes : goal.returns-in-Some-clause-writes
returns-in-Some-clause-writes c =
    let target = c.args.target.now in
    let entries = c.args.entries.now.items in
    let found = subst (λ entries. IsFirstPlace (is_of target) entries (Some c.in-Some.place)) c.deref.ensures.value c.in-Some.ensures in
    let changes = changes-set entries target c.in-Some.place c.index_mut.result.now found c.index_mut.ensures.value (Writes c.args.fails c.args.room.now c.append_prefix.new.room c.args.bytes.now c.append_prefix.result)
    (record { target = c.index_mut.result.now.target; text = c.append_prefix.new.text }) refl c.append_prefix.ensures.writes in
    changes.here

pub returns-in-Some-clause-fine : goal.returns-in-Some-clause-fine
returns-in-Some-clause-fine c =
    let room = c.append_prefix.new.room in
    All-set (HasRoom room) c.args.entries.now.items c.in-Some.place (record { target = c.index_mut.result.now.target; text = c.append_prefix.new.text }) c.append_prefix.ensures.room
    (all-fine-less c.args.room.now room c.args.entries.now.items c.append_prefix.ensures.less c.requires.fine)

pub returns-in-None-clause-writes : goal.returns-in-None-clause-writes
returns-in-None-clause-writes c =
    let absent = subst (λ entries. IsFirstPlace (is_of c.args.target.now) entries None) c.deref.ensures.value c.in-None.ensures in
    subst (λ held. Writes c.args.fails c.args.room.now c.args.room.now c.args.bytes.now done.Failed held held) (sym (held-absent c.args.entries.now.items c.args.target.now absent))
    (writes-none c.args.fails c.args.room.now c.args.bytes.now)

use Rattle.std.proofs.Common.{◌++◌, [], ◌∷◌, length, Some, ap, subst, sym, ◌∙◌}
use Rattle.mlr_world.specs.MemoryInputs.{takes_of}
use Rattle.mlr_world.specs.SureContents.{SureState}
use Rattle.mlr_world.specs.Taken.{entry_of, begun}
use Rattle.mlr_world.proofs.MemoryInputs.{takes-begun, entry-begun}
use Rattle.mlr_world.proofs.SureContents.{state-kept, taken-kept, state-begun}
use Rattle.mlr_world.proofs.sure_inputs.SureInputsInputs.open.Goals as goal

pub invariant_of-self : goal.invariant_of-self
invariant_of-self c =
    let s = c.self.inside in
    state-kept s.given s.entries.items c.place_or_add.new.entries.items s.readings.items c.self.invariant c.in-Err.ensures.added

pub returns-in-Err-clause-taken : goal.returns-in-Err-clause-taken
returns-in-Err-clause-taken c =
    let s = c.self.inside in
    ap Some
    (taken-kept s.given s.entries.items c.place_or_add.new.entries.items s.readings.items c.self.invariant c.in-Err.ensures.added
    ∙ ap (λ source. source.taken) c.self.view_is)

pub invariant_of-self-in-Ok-push : goal.invariant_of-self-in-Ok-push
invariant_of-self-in-Ok-push c =
    let s = c.self.inside in
    let entries = c.place_or_add.new.entries.items in
    state-begun s.given entries s.readings.items c.push.new.self.items c.args.name.now c.in-Ok.place
    (state-kept s.given s.entries.items entries s.readings.items c.self.invariant c.in-Ok.ensures.added) c.in-Ok.ensures.found c.in-Ok-push.ensures.items

pub invariant_of-self-in-Err-push : goal.invariant_of-self-in-Err-push
invariant_of-self-in-Err-push c =
    let s = c.self.inside in
    let entries = c.place_or_add.new.entries.items in
    subst (SureState s.given entries) (sym c.in-Err-push.ensures.items)
    (state-kept s.given s.entries.items entries s.readings.items c.self.invariant c.in-Ok.ensures.added)

pub returns-in-Ok-push-clause-open : goal.returns-in-Ok-push-clause-open
returns-in-Ok-push-clause-open c =
    let s = c.self.inside in
    let entries = c.place_or_add.new.entries.items in
    let name = c.args.name.now in
    entry-begun entries s.readings.items c.push.new.self.items name c.in-Ok.place c.in-Ok.ensures.found c.in-Ok-push.ensures.items
    ∙ ap (λ takes. Some (entry_of name (length takes))) (taken-kept s.given s.entries.items entries s.readings.items c.self.invariant c.in-Ok.ensures.added ∙ ap (λ source. source.taken) c.self.view_is)

pub returns-in-Ok-push-clause-taken : goal.returns-in-Ok-push-clause-taken
returns-in-Ok-push-clause-taken c =
    let s = c.self.inside in
    let entries = c.place_or_add.new.entries.items in
    let name = c.args.name.now in
    ap Some
    (takes-begun entries s.readings.items c.push.new.self.items name c.in-Ok.place c.in-Ok.ensures.found c.in-Ok-push.ensures.items
    ∙ ap (λ takes. takes ++ begun name ∷ []) (taken-kept s.given s.entries.items entries s.readings.items c.self.invariant c.in-Ok.ensures.added)
    ∙ ap (λ source. source.taken ++ begun name ∷ []) c.self.view_is)

pub returns-in-Err-push-clause-taken : goal.returns-in-Err-push-clause-taken
returns-in-Err-push-clause-taken c =
    let s = c.self.inside in
    let entries = c.place_or_add.new.entries.items in
    ap Some
    (ap (takes_of entries) c.in-Err-push.ensures.items
    ∙ taken-kept s.given s.entries.items entries s.readings.items c.self.invariant c.in-Ok.ensures.added
    ∙ ap (λ source. source.taken) c.self.view_is)

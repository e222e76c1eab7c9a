use Rattle.std.proofs.Common.{◌≡◌, ◌||◌, true, false, ◌++◌, [], ◌∷◌, Some, None, IsSome, length, ap, ◌∙◌, subst, sym}
use Rattle.std.specs.Option.{is_none}
use Rattle.mlr_world.specs.Calls.{next_fails}
use Rattle.mlr_world.specs.MemoryTexts.{same_input, IsFirstPlace}
use Rattle.mlr_world.specs.MemorySource.{contents_at}
use Rattle.mlr_world.specs.Taken.{entry_of, begun}
use Rattle.mlr_world.proofs.MemoryInputs.{finds, fails-absent, no-fault, all_fine-begun, takes-begun, entry-begun}
use Rattle.mlr_world.proofs.memory_inputs.MemInputsInputs.open.Goals as goal

pub invariant_of-self-in-Ok : goal.invariant_of-self-in-Ok
invariant_of-self-in-Ok c =
    let name = c.args.name.now in
    let s = c.self.inside in
    let found = subst (λ contents. IsFirstPlace (λ entry. same_input entry.0 name) contents (Some c.in-Some.place)) c.deref.ensures.value c.in-Some.ensures in
    all_fine-begun s.contents.items s.readings.items c.push.new.self.items name c.in-Some.place found c.in-Ok.ensures.items c.self.invariant

pub returns-in-Ok-clause-open : goal.returns-in-Ok-clause-open
returns-in-Ok-clause-open c =
    let name = c.args.name.now in
    let s = c.self.inside in
    let found = subst (λ contents. IsFirstPlace (λ entry. same_input entry.0 name) contents (Some c.in-Some.place)) c.deref.ensures.value c.in-Some.ensures in
    entry-begun s.contents.items s.readings.items c.push.new.self.items name c.in-Some.place found c.in-Ok.ensures.items
    ∙ ap (λ source. Some (entry_of name (length source.taken))) c.self.view_is

pub returns-in-Ok-clause-taken : goal.returns-in-Ok-clause-taken
returns-in-Ok-clause-taken c =
    let name = c.args.name.now in
    let s = c.self.inside in
    let found = subst (λ contents. IsFirstPlace (λ entry. same_input entry.0 name) contents (Some c.in-Some.place)) c.deref.ensures.value c.in-Some.ensures in
    ap Some
    (takes-begun s.contents.items s.readings.items c.push.new.self.items name c.in-Some.place found c.in-Ok.ensures.items
    ∙ ap (λ source. source.taken ++ begun name ∷ []) c.self.view_is)

pub returns-in-Ok-clause-finds : goal.returns-in-Ok-clause-finds
returns-in-Ok-clause-finds c =
    let name = c.args.name.now in
    let s = c.self.inside in
    let found = subst (λ contents. IsFirstPlace (λ entry. same_input entry.0 name) contents (Some c.in-Some.place)) c.deref.ensures.value c.in-Some.ensures in
    subst (λ source. IsSome (contents_at source.contents name)) c.self.view_is
    (finds s.contents.items name c.in-Some.place found)

pub returns-in_default-clause-fails : goal.returns-in_default-clause-fails
returns-in_default-clause-fails c =
    let name = c.args.name.now in
    let s = c.self.inside in
    let absent = subst (λ contents. IsFirstPlace (λ entry. same_input entry.0 name) contents None) c.deref.ensures.value c.in_default.ensures in
    subst (λ source. true ≡ (next_fails source.calls || is_none (contents_at source.contents name))) c.self.view_is
    (fails-absent (next_fails s.failing) s.contents.items name absent)

pub returns-in-Ok-clause-fails : goal.returns-in-Ok-clause-fails
returns-in-Ok-clause-fails c =
    let name = c.args.name.now in
    let s = c.self.inside in
    let found = subst (λ contents. IsFirstPlace (λ entry. same_input entry.0 name) contents (Some c.in-Some.place)) c.deref.ensures.value c.in-Some.ensures in
    subst (λ source. false ≡ (next_fails source.calls || is_none (contents_at source.contents name))) c.self.view_is
    (no-fault s.contents.items name c.in-Some.place found (next_fails s.failing) (sym c.next.ensures.fails ∙ c.if-next.false))

pub returns-in-Err-clause-fails : goal.returns-in-Err-clause-fails
returns-in-Err-clause-fails c =
    let name = c.args.name.now in
    let s = c.self.inside in
    let found = subst (λ contents. IsFirstPlace (λ entry. same_input entry.0 name) contents (Some c.in-Some.place)) c.deref.ensures.value c.in-Some.ensures in
    subst (λ source. false ≡ (next_fails source.calls || is_none (contents_at source.contents name))) c.self.view_is
    (no-fault s.contents.items name c.in-Some.place found (next_fails s.failing) (sym c.next.ensures.fails ∙ c.if-next.false))

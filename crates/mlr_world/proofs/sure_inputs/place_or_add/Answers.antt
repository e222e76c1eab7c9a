use Rattle.std.proofs.Common.{◌≡◌, ◌++◌, ◌∷◌, [], false, Some, refl, length, subst, sym, arith}
use Rattle.std.specs.List.{list_any}
use Rattle.mlr_world.specs.MemoryTexts.{same_input, IsFirstPlace}
use Rattle.mlr_world.specs.SureContents.{empty_entry}
use Rattle.mlr_world.proofs.MemoryTexts.{is_first_place-pushed, same_input-from}
use Rattle.mlr_world.proofs.sure_inputs.place_or_add.Goals as goal

pub returns-in_ok-add_empty-in-None-clause-found : goal.returns-in_ok-add_empty-in-None-clause-found
returns-in_ok-add_empty-in-None-clause-found c =
    let name = c.args.name.now in
    let entries = c.args.entries.now.items in
    let absent = subst (λ entries. list_any (λ entry. same_input entry.0 name) entries ≡ false) c.deref.ensures.value c.in-None.ensures in
    let at_end : c.len-place.result ≡ length entries = omega arith in
    subst (λ entries. IsFirstPlace (λ entry. same_input entry.0 name) entries (Some c.len-place.result)) (sym c.in_ok-add_empty-in-None.ensures)
    (subst (λ place. IsFirstPlace (λ entry. same_input entry.0 name) (entries ++ empty_entry name ∷ []) (Some place)) (sym at_end)
    (is_first_place-pushed (λ entry. same_input entry.0 name) entries (empty_entry name) absent (same_input-from name name refl)))

pub returns-in_ok-add_empty-in-None-clause-added : goal.returns-in_ok-add_empty-in-None-clause-added
returns-in_ok-add_empty-in-None-clause-added c = (c.args.name.now ∷ [], c.in_ok-add_empty-in-None.ensures)

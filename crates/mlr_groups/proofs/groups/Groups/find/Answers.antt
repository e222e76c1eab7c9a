use Rattle.std.proofs.Common.{◌≡◌, IfSome, Some, map, slice_get, sym, ap, subst, ◌∙◌}
use Rattle.mlr_event.specs.Reading.{is_among}
use Rattle.mlr_groups.specs.Finding.{IsFoundAt}
use Rattle.mlr_groups.specs.Grouping.{group_of, groups_in}
use Rattle.mlr_groups.specs.Keys.{key_of}
use Rattle.mlr_groups.proofs.Finding.{found-told}
use Rattle.mlr_groups.proofs.Grouping.{group-told}
use Rattle.mlr_groups.proofs.groups.Groups.find.Goals as goal

pub returns-then-branch-clause-place : goal.returns-then-branch-clause-place
returns-then-branch-clause-place c = λ by before represents. (
    let group = group_of c.args.names.now c.args.fields.now in
    let groups = groups_in by before in
    let place = c.place_of.result in
    let told = group-told c.clear.new.self c.append_group.new.key group c.in_ok-append_group.field-0 c.clear.ensures c.in_ok-append_group.ensures c.if-branch.true in
    let key = c.as_slice.ensures ∙ told.2 in
    subst (λ texts. IsFoundAt groups texts place) (sym told.1)
    (found-told groups told.0 place
    (c.place_of.ensures.found ∙ ap (λ keys. is_among keys c.as_slice.result.now) represents.1 ∙ ap (is_among (map key_of groups)) key)
    (subst (λ key. IfSome place (λ p. slice_get (map key_of groups) p ≡ Some key)) key
    (subst (λ keys. IfSome place (λ p. slice_get keys p ≡ Some c.as_slice.result.now)) represents.1 c.place_of.ensures.place)))
    )

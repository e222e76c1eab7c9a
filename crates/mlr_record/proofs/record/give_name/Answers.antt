use Rattle.std.proofs.Common.{ap, sym, ◌∙◌, subst, set, remove, Some, None}
use Rattle.mlr_record.specs.Fields.{IsPlaceOf, pairs_of}
use Rattle.mlr_record.proofs.Edits.{renamed-alone, renamed-both}
use Rattle.mlr_record.proofs.record.give_name.Goals as goal

pub returns-in-Some : goal.returns-in-Some
returns-in-Some c old is apart =
    let fields = c.args.fields.now.items in
    let place = c.args.place in
    let new = c.args.name in
    let other = subst (λ x. IsPlaceOf x fields (Some c.in-Some.other)) c.as_slice.ensures (subst (λ x. IsPlaceOf c.as_slice.result.now x (Some c.in-Some.other)) c.deref.ensures.value c.in-Some.ensures) in
    ap pairs_of c.remove.ensures.items
    ∙ ap (λ f. pairs_of (remove (set fields place (record { name = new; value = f.value })) c.in-Some.other)) c.index_mut.ensures.value
    ∙ sym (renamed-both old new fields place c.in-Some.other c.index_mut.result.now apart is other)

pub returns-in_default : goal.returns-in_default
returns-in_default c old is apart =
    let fields = c.args.fields.now.items in
    let place = c.args.place in
    let new = c.args.name in
    let absent = subst (λ x. IsPlaceOf x fields None) c.as_slice.ensures (subst (λ x. IsPlaceOf c.as_slice.result.now x None) c.deref.ensures.value c.in_default.ensures) in
    ap (λ f. pairs_of (set fields place (record { name = new; value = f.value }))) c.index_mut.ensures.value
    ∙ sym (renamed-alone old new fields place c.index_mut.result.now is absent)

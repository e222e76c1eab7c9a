use Rattle.std.proofs.Common.{◌<◌, ◌∙◌, ◌++◌, ◌∷◌, [], Vec, Global, ap, ap₂, get_or, sym, length, map, take, arith}
use Rattle.std.proofs.lemmas.List.{map-append, take_more}
use Rattle.verbs_step.specs.Kept.{kept, kept_of}
use Rattle.verbs_step.specs.Represents.{kept_for, kept_in}
use Rattle.verbs_step.specs.declared.track.Track.{Track}
use Rattle.verbs_step.proofs.groups.new_tracks.Goals as goal

pub loop-preserved : goal.loop-preserved
loop-preserved c =
    let options = c.args.options.now in
    let steppers = options.steppers in
    let names = options.names in
    let any = c.loop-item.result in
    let below : c.loop.index < length names = omega (arith, c.loop-test.true, ap length c.as_slice-items.ensures) in
    ap kept_in c.in_ok-push.ensures.items
    ∙ map-append (λ (field : Vec Track Global). map kept field.items) c.loop.tracks.items (c.in_ok-field_tracks.field-0 ∷ [])
    ∙ ap₂ (λ xs x. xs ++ x ∷ []) c.loop.invariant (c.in_ok-field_tracks.ensures ∙ ap (map (λ stepper. kept_of stepper [])) c.as_slice.ensures)
    ∙ sym (map-append (λ name. map (λ stepper. kept_of stepper []) steppers) (take c.loop.index names) (get_or names c.loop.index any ∷ []))
    ∙ ap (λ names. kept_for steppers names []) (sym (take_more names c.loop.index any below))

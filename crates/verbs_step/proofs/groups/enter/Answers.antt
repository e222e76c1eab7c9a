use Rattle.std.proofs.Common.{◌<◌, ◌≤◌, ◌∙◌, ◌++◌, ◌∷◌, [], ap, length, subst, sym, arith}
use Rattle.std.proofs.lemmas.List.{length-map, map-append}
use Rattle.mlr_groups.specs.Grouping.{IsGroupPlace}
use Rattle.verbs_step.specs.Represents.{kept_in, kept_in_groups}
use Rattle.verbs_step.specs.Step.{step_groups}
use Rattle.verbs_step.proofs.Entering.{Has, kept-known, kept-new, kept-none}
use Rattle.verbs_step.proofs.groups.enter.Goals as goal

pub returns-in_default-clause-tracks : goal.returns-in_default-clause-tracks
returns-in_default-clause-tracks c = λ before groups same.
    let options = c.args.options.now in
    let fields = c.args.fields.now in
    let none = subst (λ place. IsGroupPlace (step_groups options) (before ++ fields ∷ []) fields place) c.in_default.is (c.in_ok-place.ensures.place (step_groups options) before groups) in
    (none, kept-none options before fields (kept_in_groups c.args.tracks.now.items) same none)

pub returns-in_ok-push-clause-tracks : goal.returns-in_ok-push-clause-tracks
returns-in_ok-push-clause-tracks c = λ before groups same.
    let options = c.args.options.now in
    let fields = c.args.fields.now in
    let p = c.in-Some.place in
    let old = c.args.tracks.now.items in
    let at = subst (λ place. IsGroupPlace (step_groups options) (before ++ fields ∷ []) fields place) c.in-Some.is (c.in_ok-place.ensures.place (step_groups options) before groups) in
    let following : length (kept_in_groups old) ≤ p = omega (arith, c.len.ensures, c.if-place-len.true, length-map old (λ tracks. kept_in tracks.items)) in
    let new = ap kept_in_groups c.in_ok-push.ensures.items ∙ map-append (λ tracks. kept_in tracks.items) old (c.in_ok-new_tracks.field-0 ∷ []) ∙ ap (λ keeps. kept_in_groups old ++ keeps ∷ []) c.in_ok-new_tracks.ensures in
    let has = subst (Has options before fields (kept_in_groups old) same p at) (sym new) (kept-new options before fields (kept_in_groups old) same p at following) in
    (at.0, at.1, has.0, has.1)

pub returns-else-place-len-clause-tracks : goal.returns-else-place-len-clause-tracks
returns-else-place-len-clause-tracks c = λ before groups same.
    let options = c.args.options.now in
    let fields = c.args.fields.now in
    let p = c.in-Some.place in
    let old = c.args.tracks.now.items in
    let at = subst (λ place. IsGroupPlace (step_groups options) (before ++ fields ∷ []) fields place) c.in-Some.is (c.in_ok-place.ensures.place (step_groups options) before groups) in
    let below : p < length (kept_in_groups old) = omega (arith, c.len.ensures, c.if-place-len.false, length-map old (λ tracks. kept_in tracks.items)) in
    let has = kept-known options before fields (kept_in_groups old) same p at below in
    (at.0, at.1, has.0, has.1)

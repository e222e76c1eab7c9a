use Rattle.std.proofs.Common.{◌≡◌, ◌+◌, ◌∙◌, Some, None, min, length, drop, ap, subst, sym, arith}
use Rattle.std.proofs.lemmas.List.{length-map, take_rest}
use Rattle.mlr_record.specs.Fields.{IsPlaceOf, pairs_of, pair_of}
use Rattle.mlr_event.proofs.Naming.{at-place}
use Rattle.verbs_fields.proofs.Labels.{IsDropping, dropping-begun, dropping-absent, dropping-found, dropping-ended}
use Rattle.verbs_fields.proofs.label.drop_others.Goals as goal
use Rattle.verbs_fields.proofs.label.drop_others.Goals.{in-Some, in_default}

pub loop-name-init : goal.loop-name-init
loop-name-init c = dropping-begun c.args.names.now c.min-first.result c.args.fields.now.items (omega arith) c.requires

pub loop-name-preserved : goal.loop-name-preserved
loop-name-preserved c =
    let names = c.args.names.now in
    let i = c.loop-name.name-index in
    let name = c.name-item.result in
    let left = drop (i + 1) names in
    let first = c.min-first.result in
    let all = pairs_of c.args.fields.now.items in
    let fields = c.loop-name.fields.items in
    let was = subst (λ left. IsDropping names left first all fields) (at-place names i name c.loop-name-test.true c.name-item.is) c.loop-name.invariant in
    let rest = take_rest c.deref.result.now first ∙ ap (drop first) c.deref.ensures.value in
    elim c.match-place_of.branch [
      | in-Some w ↦
          let place = subst (λ fields. IsPlaceOf name fields (Some w.in-Some.place)) rest w.in-Some.ensures in
          subst (λ after. IsDropping names left first all after) (sym (ap (λ v. v.items) w.fields-is ∙ w.drop_at.ensures.left))
          (dropping-found names left name first w.in-Some.place all fields place was)
      | in_default w ↦
          let absent = subst (λ fields. IsPlaceOf name fields None) rest w.in_default.ensures in
          subst (λ after. IsDropping names left first all after) (sym (ap (λ v. v.items) w.fields-is)) (dropping-absent names left name first all fields absent was)
    ]

pub returns : goal.returns
returns c =
    let names = c.args.names.now in
    let all = pairs_of c.args.fields.now.items in
    let long = length-map c.args.fields.now.items pair_of in
    let first : c.min-first.result ≡ min (length names) (length all) = c.min-first.ensures ∙ ap (min (length names)) (omega (arith, long)) in
    dropping-ended names c.loop-name.name-index all c.loop-name.fields.items c.loop-name-test.false
    (subst (λ first. IsDropping names (drop c.loop-name.name-index names) first all c.loop-name.fields.items) first c.loop-name.invariant)

use Rattle.std.proofs.Common.{◌+◌, [], ◌∷◌, ◌++◌, map, drop, get_or, ap, sym, ◌∙◌, append_assoc}
use Rattle.std.proofs.lemmas.List.{append-nil}
use Rattle.std.proofs.lemmas.Option.{same_Some, slice_get_within}
use Rattle.mlr_event.specs.declared.event.Event.TheVariants as event
use Rattle.verbs_base.specs.Records.{with_context}
use Rattle.verbs_join.specs.Join.{pair_of}
use Rattle.verbs_join.proofs.Pushing.{found-all, found-at}
use Rattle.verbs_join.proofs.pairing.push_copied.Goals as goal

pub record_at-requires : goal.record_at-requires
record_at-requires c =
    let lefts = c.args.lefts.now in
    let places = c.args.places.now in
    let i = c.loop-place.place-index in
    let next = found-at lefts places c.requires.0 i 0 c.requires.1 c.loop-place-test.true in
    slice_get_within lefts (get_or places i 0) next.0 next.1

pub loop-place-preserved : goal.loop-place-preserved
loop-place-preserved c = λ found are.
    let lefts = c.args.lefts.now in
    let places = c.args.places.now in
    let ctx = c.args.ctx in
    let out = c.loop-place.out in
    let i = c.loop-place.place-index in
    let pairs = map (λ left. pair_of c.args.options.now left c.args.right.now) in
    let next = found-at lefts places found i 0 are c.loop-place-test.true in
    let left = same_Some c.record_at.result.now next.0 (sym c.record_at.ensures ∙ next.1) in
    ap (λ out. out ++ with_context ctx (pairs (drop (i + 1) found))) c.in_ok-push.ensures
    ∙ ap (λ made. out ++ event.Rec made ctx ∷ [] ++ with_context ctx (pairs (drop (i + 1) found))) (c.in_ok-made.ensures ∙ ap (λ left. pair_of c.args.options.now left c.args.right.now) left)
    ∙ append_assoc out (event.Rec (pair_of c.args.options.now next.0 c.args.right.now) ctx ∷ []) (with_context ctx (pairs (drop (i + 1) found)))
    ∙ ap (λ rest. out ++ with_context ctx (pairs rest)) (sym next.2)
    ∙ c.loop-place.invariant found are

pub returns : goal.returns
returns c = λ found are.
    let ctx = c.args.ctx in
    let out = c.loop-place.out in
    let pairs = map (λ left. pair_of c.args.options.now left c.args.right.now) in
    sym (append-nil out)
    ∙ ap (λ rest. out ++ with_context ctx (pairs rest)) (sym (found-all c.args.lefts.now c.args.places.now found c.loop-place.place-index are c.loop-place-test.false))
    ∙ c.loop-place.invariant found are

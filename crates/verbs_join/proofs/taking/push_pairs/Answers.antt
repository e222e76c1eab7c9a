use Rattle.std.proofs.Common.{[], ◌∷◌, ◌++◌, map, ap, sym, ◌∙◌, append_assoc}
use Rattle.std.proofs.lemmas.List.{map-append}
use Rattle.std.proofs.lemmas.Option.{same_Some, slice_get_within}
use Rattle.mlr_event.specs.declared.event.Event.TheVariants as event
use Rattle.verbs_base.specs.Records.{Fields, with_context}
use Rattle.verbs_join.specs.Join.{pair_of}
use Rattle.verbs_join.specs.Places.{at_places}
use Rattle.verbs_join.proofs.Moving.{found-last}
use Rattle.verbs_join.proofs.taking.push_pairs.Goals as goal

pub push_copied-requires : goal.push_copied-requires
push_copied-requires c =
    let last = found-last c.args.lefts.now c.in-Some.others.now c.in-Some.last.now c.requires.0 (ap (at_places c.args.lefts.now) (sym c.in-Some.ensures.cases.0) ∙ c.requires.1) in
    (last.0, last.3)

pub record_at-requires : goal.record_at-requires
record_at-requires c =
    let last = found-last c.args.lefts.now c.in-Some.others.now c.in-Some.last.now c.requires.0 (ap (at_places c.args.lefts.now) (sym c.in-Some.ensures.cases.0) ∙ c.requires.1) in
    slice_get_within c.args.lefts.now c.in-Some.last.now last.1 last.4

pub returns : goal.returns
returns c = λ found are.
    let lefts = c.args.lefts.now in
    let ctx = c.args.ctx in
    let out = c.args.out.now in
    let pair = λ (left : Fields). pair_of c.args.options.now left c.args.right in
    let last = found-last lefts c.in-Some.others.now c.in-Some.last.now found (ap (at_places lefts) (sym c.in-Some.ensures.cases.0) ∙ are) in
    let left = same_Some c.record_at.result.now last.1 (sym c.record_at.ensures ∙ last.4) in
    c.in_ok-push.ensures
    ∙ ap (λ all. all ++ event.Rec c.in_ok-made.made ctx ∷ []) (c.in_ok-push_copied.ensures last.0 last.3)
    ∙ append_assoc out (with_context ctx (map pair last.0)) (event.Rec c.in_ok-made.made ctx ∷ [])
    ∙ ap (λ made. out ++ (with_context ctx (map pair last.0) ++ event.Rec made ctx ∷ [])) (c.in_ok-made.ensures ∙ ap pair left)
    ∙ ap (λ events. out ++ events) (sym (map-append (λ (fields : Fields). event.Rec fields ctx) (map pair last.0) (pair last.1 ∷ [])))
    ∙ ap (λ pairs. out ++ with_context ctx pairs) (sym (map-append pair last.0 (last.1 ∷ [])))
    ∙ ap (λ lefts. out ++ with_context ctx (map pair lefts)) (sym last.2)

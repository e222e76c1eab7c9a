use Rattle.std.proofs.Common.{◌≡◌, ◌+◌, ◌<◌, [], ◌∷◌, ◌++◌, drop, length, get_or, Some, slice_get, ap, sym, ◌∙◌, append_assoc, arith}
use Rattle.std.proofs.lemmas.List.{drop_more}
use Rattle.std.proofs.lemmas.Option.{slice_get-get_or}
use Rattle.verbs_base.specs.Records.{with_context}
use Rattle.verbs_join.specs.Join.{unpaired}
use Rattle.verbs_join.proofs.Unpairing.{unpaired-next}
use Rattle.verbs_join.proofs.lefts.Lefts.push_unpaired.Goals as goal

pub loop-place-preserved : goal.loop-place-preserved
loop-place-preserved c =
    let options = c.args.options.now in
    let ctx = c.args.ctx in
    let loop = c.loop-place in
    let p = loop.place in
    let lefts = c.args.self.now.records.items in
    let same : loop.self.records.items ≡ lefts = ap (λ records. records.items) loop.invariant.records in
    let below : p < length lefts = omega (arith, c.loop-place-test.true, c.len-place-end.ensures) in
    let left = get_or lefts p [] in
    let at : slice_get loop.self.records.items p ≡ Some left = ap (λ lefts. slice_get lefts p) same ∙ slice_get-get_or lefts p [] below in
    let rest = drop (p + 1) lefts in
    record {
      records = c.push_unless_paired.ensures.records ∙ loop.invariant.records;
      lefts = λ rights held. c.push_unless_paired.ensures.lefts rights (loop.invariant.lefts rights held);
      gives = λ rights held. (
          ap (λ out. out ++ with_context ctx (unpaired options rest rights)) (c.in_ok-push_unless_paired.ensures.gives rights left (loop.invariant.lefts rights held) at)
          ∙ append_assoc loop.out (with_context ctx (unpaired options (left ∷ []) rights)) (with_context ctx (unpaired options rest rights))
          ∙ ap (λ more. loop.out ++ more) (sym (unpaired-next options ctx rights left rest))
          ∙ ap (λ lefts. loop.out ++ with_context ctx (unpaired options lefts rights)) (sym (drop_more lefts p [] below))
          ∙ loop.invariant.gives rights held
          );
    }

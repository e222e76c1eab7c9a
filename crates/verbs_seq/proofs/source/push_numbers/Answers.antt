use Rattle.std.proofs.Common.{◌+◌, ◌++◌, ◌∷◌, [], ap, append_assoc, refl, sym, ◌∙◌}
use Rattle.std.proofs.lemmas.List.FromFn.{map-range_with_len_more}
use Rattle.verbs_seq.specs.Seq.{seq_event, seq_events}
use Rattle.verbs_seq.proofs.source.push_numbers.Goals as goal

pub loop-place-preserved : goal.loop-place-preserved
loop-place-preserved c =
    let seq = c.args.seq.now in
    let from = c.args.from in
    let n = c.loop-place.place in
    c.in_ok-push_number.ensures
    ∙ ap (λ out. out ++ seq_event seq (from + n) ∷ []) c.loop-place.invariant
    ∙ append_assoc c.args.out.now (seq_events seq from n) (seq_event seq (from + n) ∷ [])
    ∙ ap (λ events. c.args.out.now ++ events) (sym (map-range_with_len_more (seq_event seq) from n (from + n) refl))

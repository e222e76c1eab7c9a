use Rattle.std.proofs.Common.{◌≡◌, ◌+◌, ◌-◌, ◌<◌, [], ◌∷◌, ◌++◌, refl, ap, sym, ◌∙◌, inl, inr, arith, append_assoc}
use Rattle.std.specs.Prelude.{min}
use Rattle.mlr_event.specs.declared.event.Event.TheVariants as event
use Rattle.verbs_seq.specs.Seq.{seq_context, seq_count, seq_events}
use Rattle.std.proofs.lemmas.Bool.{ltb-true}
use Rattle.serial_core.proofs.Numbers.{all-counted, events-append, few-events, few-with-end, some-put}
use Rattle.serial_core.proofs.reader.next_numbers.Goals as goal

pub returns-in-Ok-true : goal.returns-in-Ok-true
returns-in-Ok-true c seq given sound at = record {
  some = min 500 (seq_count seq - given);
  put = seq_events seq given (min 500 (seq_count seq - given));
  few = few-events seq given (seq_count seq - given);
  appends = λ memory. c.in-Ok-true.ensures.adds seq given at;
  next = λ went.
      let less : given + min 500 (seq_count seq - given) < seq_count seq = ltb-true (given + min 500 (seq_count seq - given)) (seq_count seq) (sym (c.in-Ok-true.ensures.more seq given at) ∙ c.in-Ok-true.field-0-test) in
      (refl, some-put seq given (min 500 (seq_count seq - given)) (omega (arith, less)), c.in-Ok-true.ensures.represents seq given at);
  last = λ e. absurd (let f = e in cc);
  outcome = inl refl;
}

pub returns-in-Ok : goal.returns-in-Ok
returns-in-Ok c seq given sound at =
    let some = min 500 (seq_count seq - given) in
    let represents = c.in-Ok-false.ensures.represents seq given at in
    let all : given + some ≡ seq_count seq = all-counted (given + some) (seq_count seq) (sym (c.in-Ok-false.ensures.more seq given at) ∙ c.in-Ok-false.field-0-test) represents.within in
    record {
      some = some;
      put = seq_events seq given some ++ event.End (seq_context (seq_count seq)) ∷ [];
      few = few-with-end seq given (seq_count seq - given) (seq_context (seq_count seq));
      appends = λ memory.
          c.in-Ok.ensures
          ∙ ap (λ t. t ++ event.End c.ctx.result ∷ []) (c.in-Ok-false.ensures.adds seq given at)
          ∙ append_assoc c.args.out.now (seq_events seq given some) (event.End c.ctx.result ∷ [])
          ∙ ap (λ ctx. c.args.out.now ++ (seq_events seq given some ++ event.End ctx ∷ [])) (c.ctx.ensures seq (given + some) represents ∙ ap seq_context all);
      next = λ e. absurd (let f = e in cc);
      last = λ ended.
          sym (append_assoc (seq_events seq 0 given) (seq_events seq given some) (event.End (seq_context (seq_count seq)) ∷ []))
          ∙ ap (λ t. t ++ event.End (seq_context (seq_count seq)) ∷ []) (events-append seq given some ∙ ap (seq_events seq 0) all);
      outcome = inr (inl refl);
    }

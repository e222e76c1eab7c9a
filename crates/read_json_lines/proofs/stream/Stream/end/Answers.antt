use Rattle.std.proofs.Common.{rules, ◌≡◌, ◌+◌, true, [], ◌∷◌, sym, subst, ◌∙◌, arith, length}
use Rattle.std.specs.Vec.{vec_len}
use Rattle.std.proofs.lemmas.Result.{on_ok_weaker}
use Rattle.mlr_event.specs.Reading as reading
use Rattle.mlr_event.specs.declared.events.Events.{Events}
use Rattle.read_json_lines.specs.declared.stream.Stream.{Stream}
use Rattle.read_json_lines.specs.declared.listing.Trouble.TheVariants.{Syntax}
use Rattle.read_json_lines.specs.Records.{fault_of}
use Rattle.read_json_lines.specs.Streams.{HasPut, Appends, future}
use Rattle.read_json_lines.proofs.Ending.{some-there, ended-open, ended-word, ended-following}
use Rattle.read_json_lines.proofs.stream.Stream.end.Goals as goal
use Rattle.read_json_lines.proofs.stream.Stream.end.Goals.{then-not-is_empty+in_ok-end_word+else-self, else-not-is_empty}

pub returns-then-is_some-clause-ended : goal.returns-then-is_some-clause-ended
returns-then-is_some-clause-ended c =
    let s = c.args.self.now in
    let size : vec_len s.begun ≡ length s.begun.items = search rules in
    on_ok_weaker c.fail.result
    (λ put fit. ended-open s c.fail.new.self c.args.out.now c.fail.new.out (sym c.is_some.ensures ∙ c.if-is_some.true) c.requires.goes_on fit
    (subst (λ n. HasPut s c.fail.new.self c.args.out.now c.fail.new.out (reading.fault (fault_of s.file Syntax (s.place + n)) ∷ [])) (c.len.ensures ∙ size) put))
    c.fail.ensures

pub returns-then-self-clause-ended : goal.returns-then-self-clause-ended
returns-then-self-clause-ended c = λ fit.
    let size : vec_len c.args.self.now.begun ≡ length c.args.self.now.begun.items = search rules in
    ended-word c.args.self.now c.end_word.new.self c.args.out.now c.end_word.new.out c.requires.goes_on (sym c.is_some.ensures ∙ c.if-is_some.false)
    (omega (arith, size, some-there (vec_len c.args.self.now.begun) (sym c.is_empty.ensures ∙ c.if-not-is_empty.true))) fit c.in_ok-end_word.ensures.same c.in_ok-end_word.ensures.begun c.in_ok-end_word.ensures.takes c.if-self.true

pub returns-clause-ended : goal.returns-clause-ended
returns-clause-ended c =
    let size : vec_len c.args.self.now.begun ≡ length c.args.self.now.begun.items = search rules in
    on_ok_weaker c.end_between.result
    (λ put fit. elim c.if-not-is_empty.branch [
      | then-not-is_empty+in_ok-end_word+else-self w ↦
          ended-following c.args.self.now w.end_word.new.self c.args.out.now w.end_word.new.out c.requires.goes_on (sym c.is_some.ensures ∙ c.if-is_some.false)
          (omega (arith, size, some-there (vec_len c.args.self.now.begun) (sym c.is_empty.ensures ∙ w.if-not-is_empty.true))) fit w.in_ok-end_word.ensures.same w.in_ok-end_word.ensures.begun w.in_ok-end_word.ensures.takes
          c.end_between.new.self c.end_between.new.out w.if-self.false
          (subst (λ (m : Stream). Appends m c.end_between.new.self w.end_word.new.out c.end_between.new.out (future m true [])) w.self-is
          (subst (λ (o : Events). Appends c.if-not-is_empty.self c.end_between.new.self o c.end_between.new.out (future c.if-not-is_empty.self true [])) w.out-is put))
      | else-not-is_empty w ↦
          subst (λ (m : Stream). Appends m c.end_between.new.self c.args.out.now c.end_between.new.out (future m true [])) w.self-is
          (subst (λ (o : Events). Appends c.if-not-is_empty.self c.end_between.new.self o c.end_between.new.out (future c.if-not-is_empty.self true [])) w.out-is put)
    ])
    c.end_between.ensures.ended

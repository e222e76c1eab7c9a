use Rattle.std.proofs.Common.{◌≡◌, ◌<◌, ◌∷◌, ◌++◌, length, ap, ap₂, sym, subst, ◌∙◌, arith}
use Rattle.std.specs.List.{filter}
use Rattle.mlr_spec.specs.Split.{split_by}
use Rattle.read_dkvp_nidx.specs.Nidx.{by_position}
use Rattle.read_dkvp_nidx.specs.Pieces.{with_word}
use Rattle.read_dkvp_nidx.proofs.Piecewise.{AreFree, AreFree-more, AreFree-now, is_word, parts-more, position-small, rest-shorter, with_word-more}
use Rattle.read_dkvp_nidx.proofs.nidx.put_words.Goals as goal

pub put_word-requires-clause-free : goal.put_word-requires-clause-free
put_word-requires-clause-free c =
    AreFree-now c.loop-position.position c.loop-position.record (omega (arith, c.loop-position.invariant.small)) c.loop-position.invariant.free

pub loop-position-preserved : goal.loop-position-preserved
loop-position-preserved c =
    let opts = c.args.opts.now in
    let record_now = c.loop-position.record in
    let position = c.loop-position.position in
    let left = c.loop-position.left.now in
    let word = c.next_part.result.0.now in
    let rest = c.in-Some.rest in
    let parts : split_by opts.ifs left ≡ word ∷ split_by opts.ifs rest.now =
    ap (λ s. split_by s left) (sym c.as_slice.ensures) ∙ parts-more c.as_slice.result.now left word c.next_part.result.1 rest c.in-Some.is c.next_part.ensures.parts
    ∙ ap (λ s. word ∷ split_by s rest.now) c.as_slice.ensures in
    let shorter : length rest.now < length left = rest-shorter left c.next_part.result.1 rest c.in-Some.is c.next_part.ensures.shorter in
    let put = c.in_ok-position.ensures.record in
    let next = c.in_ok-position.ensures.position in
    record {
      fields = ap₂ (λ pairs k. pairs ++ by_position opts k (filter is_word (split_by opts.ifs rest.now))) put next
          ∙ with_word-more opts position word (split_by opts.ifs rest.now) record_now
          ∙ ap (λ parts. record_now ++ by_position opts position (filter is_word parts)) (sym parts)
          ∙ c.loop-position.invariant.fields;
      free = subst (λ pairs. AreFree c.in_ok-position.position pairs) (sym put) (subst (λ k. AreFree k (with_word opts position word record_now)) (sym next) (AreFree-more opts position word record_now c.loop-position.invariant.free));
      small = omega (arith, next, position-small position word, c.loop-position.invariant.small);
    }

use Rattle.std.proofs.Common.{◌≡◌, ◌<◌, ◌∷◌, ◌+◌, length, ap, sym, ◌∙◌, arith}
use Rattle.mlr_spec.specs.Split.{split_by}
use Rattle.mlr_event.specs.Rows.{with_fields}
use Rattle.read_dkvp_nidx.specs.Dkvp.{keys_from, values_from}
use Rattle.read_dkvp_nidx.proofs.Piecewise.{parts-more, rest-shorter, with_piece-more, length-with_piece}
use Rattle.read_dkvp_nidx.proofs.dkvp.put_pieces.Goals as goal

pub loop-rest-preserved : goal.loop-rest-preserved
loop-rest-preserved c =
    let opts = c.args.opts.now in
    let record_now = c.loop-rest.record in
    let position = c.loop-rest.position in
    let left = c.loop-rest.left.now in
    let piece = c.next_part.result.0.now in
    let rest = c.in-Some.rest in
    let parts : split_by opts.ifs left ≡ piece ∷ split_by opts.ifs rest.now =
    ap (λ s. split_by s left) (sym c.as_slice-ifs.ensures) ∙ parts-more c.as_slice-ifs.result.now left piece c.next_part.result.1 rest c.in-Some.is c.next_part.ensures.parts
    ∙ ap (λ s. piece ∷ split_by s rest.now) c.as_slice-ifs.ensures in
    let shorter : length rest.now < length left = rest-shorter left c.next_part.result.1 rest c.in-Some.is c.next_part.ensures.shorter in
    record {
      fields = ap (λ pairs. with_fields opts.dedupe pairs (keys_from opts.ips (position + 1) (split_by opts.ifs rest.now)) (values_from opts (split_by opts.ifs rest.now))) c.in_ok-put_piece.ensures
          ∙ with_piece-more opts position piece (split_by opts.ifs rest.now) record_now
          ∙ ap (λ pieces. with_fields opts.dedupe record_now (keys_from opts.ips position pieces) (values_from opts pieces)) (sym parts)
          ∙ c.loop-rest.invariant.fields;
      few = omega (arith, ap length c.in_ok-put_piece.ensures, length-with_piece opts position piece record_now, c.loop-rest.invariant.few);
      small = omega (arith, c.loop-rest.invariant.small);
    }

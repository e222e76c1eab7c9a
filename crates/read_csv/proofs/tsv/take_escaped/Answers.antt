use Rattle.std.proofs.Common.{◌≡◌, ◌∷◌, [], ap, sym, ◌∙◌}
use Rattle.mlr_spec.specs.Split.{split_by}
use Rattle.read_csv.specs.OpenRow.{row_with, tsv_reading}
use Rattle.read_csv.proofs.Escaping.{escaped-more, escaped-last, parts-more, parts-last}
use Rattle.read_csv.proofs.tsv.take_escaped.Goals as goal

pub loop-rest-preserved : goal.loop-rest-preserved
loop-rest-preserved c =
    let opts = c.args.opts.now in
    let row = c.loop-rest.row in
    let left = c.loop-rest.left.now in
    let part = c.next_part.result.0.now in
    let rest = c.in-Some.rest in
    let parts : split_by opts.ifs left ≡ part ∷ split_by opts.ifs rest.now =
    ap (λ s. split_by s left) (sym c.as_slice.ensures) ∙ parts-more c.as_slice.result.now left part c.next_part.result.1 rest c.in-Some.is c.next_part.ensures.parts
    ∙ ap (λ s. part ∷ split_by s rest.now) c.as_slice.ensures in
    record {
      row = ap (λ r. row_with opts.infer r (tsv_reading opts.ifs rest.now)) c.in_ok-push_escaped.ensures ∙ escaped-more opts row left part rest.now parts ∙ c.loop-rest.invariant.row;
      closed = ap (λ r. r.quotes) c.in_ok-push_escaped.ensures;
    }

pub returns-in-None : goal.returns-in-None
returns-in-None c =
    let opts = c.args.opts.now in
    let row = c.loop-rest.row in
    let left = c.loop-rest.left.now in
    let part = c.next_part.result.0.now in
    let parts : split_by opts.ifs left ≡ part ∷ [] =
    ap (λ s. split_by s left) (sym c.as_slice.ensures) ∙ parts-last c.as_slice.result.now left part c.next_part.result.1 c.in-None.is c.next_part.ensures.parts in
    c.in_ok-push_escaped.ensures ∙ escaped-last opts row left part parts ∙ c.loop-rest.invariant.row

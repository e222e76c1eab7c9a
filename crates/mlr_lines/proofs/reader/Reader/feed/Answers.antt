use Rattle.std.proofs.Common.{◌++◌, ap, sym, ◌∙◌}
use Rattle.std.proofs.lemmas.Result.{on_ok_weaker}
use Rattle.mlr_lines.proofs.reader.Reader.feed.Goals as goal

pub returns-clause-represents : goal.returns-clause-represents
returns-clause-represents g c =
    on_ok_weaker c.feed.result (λ more opts file start bytes represents. (represents.0, represents.1, more represents.0 bytes represents.2)) c.feed.ensures.represents

pub returns-clause-adds : goal.returns-clause-adds
returns-clause-adds g c =
    on_ok_weaker c.feed.result
    (λ more opts file start bytes represents. (
    let adds = more represents.0 bytes represents.2 in
    let is = c.laws.ensures.fed represents.0 opts file start represents.1 in
    (adds.0, sym (is (bytes ++ c.args.piece.now)) ∙ adds.1 ∙ ap (λ events. events ++ adds.0) (is bytes), adds.2)
    ))
    c.feed.ensures.adds

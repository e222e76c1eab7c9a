use Rattle.std.proofs.Common.{sym}
use Rattle.std.proofs.lemmas.Result.{on_ok_weaker}
use Rattle.mlr_lines.specs.Lines.{begun_line, ended_lines}
use Rattle.mlr_lines.specs.Represents.{format_after}
use Rattle.mlr_lines.proofs.reader.Reader.end.Goals as goal

pub returns-clause-represents : goal.returns-clause-represents
returns-clause-represents g c =
    on_ok_weaker c.end.result (λ whole opts file start bytes represents. (represents.0, represents.1, whole represents.0 bytes represents.2)) c.end.ensures.represents

pub returns-clause-adds : goal.returns-clause-adds
returns-clause-adds g c =
    let f = g.F.LineFormat in
    on_ok_weaker c.end.result
    (λ put opts file start bytes represents. (
      f.gives_last (format_after f.after represents.0 (ended_lines bytes)) (begun_line bytes),
      sym (c.laws.ensures.whole represents.0 opts file start represents.1 bytes),
      put represents.0 bytes represents.2,
    ))
    c.end.ensures.adds

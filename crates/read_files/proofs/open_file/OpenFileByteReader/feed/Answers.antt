use Rattle.std.proofs.Common.{false, ◌++◌, sym, subst}
use Rattle.std.specs.Result.{OnOk}
use Rattle.std.proofs.lemmas.Result.{on_ok_weaker}
use Rattle.mlr_event.specs.Adding.{Adds}
use Rattle.read_files.specs.Readers.{FileRepresents}
use Rattle.read_files.proofs.open_file.OpenFileByteReader.feed.Goals as goal

pub returns-in-Csv-clause-represents : goal.returns-in-Csv-clause-represents
returns-in-Csv-clause-represents c = λ source bytes represents.
    let file = subst (λ f. FileRepresents f source bytes) c.in-Csv.is represents in
    on_ok_weaker c.feed.result (λ now. (now, file.1)) (c.feed.ensures.represents source bytes file.0)

pub returns-in-Csv-clause-adds : goal.returns-in-Csv-clause-adds
returns-in-Csv-clause-adds c = λ source bytes represents.
    let file = subst (λ f. FileRepresents f source bytes) c.in-Csv.is represents in
    subst (λ gives. OnOk c.feed.result (Adds c.args.out.now c.feed.new.out (gives false bytes) (gives false (bytes ++ c.args.piece.now)))) (sym file.1) (c.feed.ensures.adds source bytes file.0)

pub returns-in-Line-clause-represents : goal.returns-in-Line-clause-represents
returns-in-Line-clause-represents c = λ source bytes represents.
    let file = subst (λ f. FileRepresents f source bytes) c.in-Line.is represents in
    on_ok_weaker c.feed-in-Line.result (λ now. (now, file.1)) (c.feed-in-Line.ensures.represents source bytes file.0)

pub returns-in-Line-clause-adds : goal.returns-in-Line-clause-adds
returns-in-Line-clause-adds c = λ source bytes represents.
    let file = subst (λ f. FileRepresents f source bytes) c.in-Line.is represents in
    subst (λ gives. OnOk c.feed-in-Line.result (Adds c.args.out.now c.feed-in-Line.new.out (gives false bytes) (gives false (bytes ++ c.args.piece.now)))) (sym file.1) (c.feed-in-Line.ensures.adds source bytes file.0)

pub returns-in-Block-clause-represents : goal.returns-in-Block-clause-represents
returns-in-Block-clause-represents c = λ source bytes represents.
    let file = subst (λ f. FileRepresents f source bytes) c.in-Block.is represents in
    on_ok_weaker c.feed-in-Block.result (λ now. (now, file.1)) (c.feed-in-Block.ensures.represents source bytes file.0)

pub returns-in-Block-clause-adds : goal.returns-in-Block-clause-adds
returns-in-Block-clause-adds c = λ source bytes represents.
    let file = subst (λ f. FileRepresents f source bytes) c.in-Block.is represents in
    subst (λ gives. OnOk c.feed-in-Block.result (Adds c.args.out.now c.feed-in-Block.new.out (gives false bytes) (gives false (bytes ++ c.args.piece.now)))) (sym file.1) (c.feed-in-Block.ensures.adds source bytes file.0)

use Rattle.std.proofs.Common.{◌≡◌, true, false, sym, subst}
use Rattle.std.specs.Result.{IfOk, OnOk}
use Rattle.mlr_event.specs.Adding.{Adds}
use Rattle.read_files.specs.Readers.{FileRepresents}
use Rattle.read_files.specs.Sources.{ctx_after_events}
use Rattle.read_files.proofs.open_file.OpenFileByteReader.end.Goals as goal

pub returns-in-Csv-clause-adds : goal.returns-in-Csv-clause-adds
returns-in-Csv-clause-adds c = λ source bytes represents.
    let file = subst (λ f. FileRepresents f source bytes) c.in-Csv.is represents in
    subst (λ gives. OnOk c.end.result (Adds c.args.out.now c.end.new.out (gives false bytes) (gives true bytes))) (sym file.1) (c.end.ensures.adds source bytes file.0)

pub returns-in-Csv-clause-ctx : goal.returns-in-Csv-clause-ctx
returns-in-Csv-clause-ctx c = λ source bytes represents.
    let file = subst (λ f. FileRepresents f source bytes) c.in-Csv.is represents in
    subst (λ gives. IfOk c.end.result (λ ctx. ctx ≡ ctx_after_events source.ctx (gives true bytes))) (sym file.1) (c.end.ensures.ctx source bytes file.0)

pub returns-in-Line-clause-adds : goal.returns-in-Line-clause-adds
returns-in-Line-clause-adds c = λ source bytes represents.
    let file = subst (λ f. FileRepresents f source bytes) c.in-Line.is represents in
    subst (λ gives. OnOk c.end-in-Line.result (Adds c.args.out.now c.end-in-Line.new.out (gives false bytes) (gives true bytes))) (sym file.1) (c.end-in-Line.ensures.adds source bytes file.0)

pub returns-in-Line-clause-ctx : goal.returns-in-Line-clause-ctx
returns-in-Line-clause-ctx c = λ source bytes represents.
    let file = subst (λ f. FileRepresents f source bytes) c.in-Line.is represents in
    subst (λ gives. IfOk c.end-in-Line.result (λ ctx. ctx ≡ ctx_after_events source.ctx (gives true bytes))) (sym file.1) (c.end-in-Line.ensures.ctx source bytes file.0)

pub returns-in-Block-clause-adds : goal.returns-in-Block-clause-adds
returns-in-Block-clause-adds c = λ source bytes represents.
    let file = subst (λ f. FileRepresents f source bytes) c.in-Block.is represents in
    subst (λ gives. OnOk c.end-in-Block.result (Adds c.args.out.now c.end-in-Block.new.out (gives false bytes) (gives true bytes))) (sym file.1) (c.end-in-Block.ensures.adds source bytes file.0)

pub returns-in-Block-clause-ctx : goal.returns-in-Block-clause-ctx
returns-in-Block-clause-ctx c = λ source bytes represents.
    let file = subst (λ f. FileRepresents f source bytes) c.in-Block.is represents in
    subst (λ gives. IfOk c.end-in-Block.result (λ ctx. ctx ≡ ctx_after_events source.ctx (gives true bytes))) (sym file.1) (c.end-in-Block.ensures.ctx source bytes file.0)

use Rattle.std.proofs.Common.{◌≡◌, true, Some, ap, sym, subst, ◌∙◌}
use Rattle.std.proofs.lemmas.Result.{IfOk-weaker}
use Rattle.mlr_event.specs.Reading.{distinct_names}
use Rattle.read_csv.proofs.Naming.{given-taken}
use Rattle.read_csv.proofs.fields.take_line.Goals as goal

pub returns-in-Csv-Some-clause-made : goal.returns-in-Csv-Some-clause-made
returns-in-Csv-Some-clause-made c =
    let names = c.header.result.now in
    let distinct = subst (λ n. c.is_distinct.result ≡ true → distinct_names n ≡ n) (sym c.header.ensures) c.is_distinct.ensures in
    IfOk-weaker c.take_named.result _ _
    (λ made is. given-taken c.args.opts.now c.args.header.now names c.args.row.now c.take_named.new.self c.args.text.now c.is_distinct.result c.in-Csv-Some.is-0 (c.in-Csv-Some.is-1 ∙ ap Some (sym c.header.ensures)) (c.is_new.ensures c.if-is_new.true) c.if-opts-is_distinct.true distinct made is)
    c.take_named.ensures.made

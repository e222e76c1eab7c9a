use Rattle.std.proofs.Common.{ap, ap₂, ◌∙◌, ◌++◌}
use Rattle.std.proofs.lemmas.Result.{on_ok_weaker}
use Rattle.mlr_lines.specs.Steps.{unmarked_line}
use Rattle.mlr_lines.proofs.Feeding.{left-is}
use Rattle.mlr_lines.proofs.lines.Lines.end.Goals as goal

pub returns-clause-represents : goal.returns-clause-represents
returns-clause-represents g c =
    let f = g.F.LineFormat in
    let old = c.args.self.now in
    on_ok_weaker c.last-ended.result
    (λ is format bytes represents. record {
      state = is ∙ ap₂ f.after_last represents.state (c.unmarked.ensures.text ∙ ap (unmarked_line old.first) c.as_slice.ensures.value ∙ left-is f.after old format bytes represents);
    })
    c.last-ended.ensures.state

pub returns-clause-adds : goal.returns-clause-adds
returns-clause-adds g c =
    let f = g.F.LineFormat in
    let old = c.args.self.now in
    on_ok_weaker c.last-ended.result
    (λ is format bytes represents. is
    ∙ ap₂ (λ state line. c.args.out.now ++ f.gives_last state line) represents.state (c.unmarked.ensures.text ∙ ap (unmarked_line old.first) c.as_slice.ensures.value ∙ left-is f.after old format bytes represents))
    c.last-ended.ensures.events

pub returns-clause-step : goal.returns-clause-step
returns-clause-step g c = on_ok_weaker c.last-ended.result (λ is. (c.unmarked.result.now, is)) c.last-ended.ensures.state

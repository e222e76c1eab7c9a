use Rattle.std.proofs.Common.{◌++◌, ◌∷◌, [], Some, ap, ap₂, sym, subst, ◌∙◌}
use Rattle.std.proofs.lemmas.Result.{on_ok_weaker}
use Rattle.verbs_base.specs.Records.{Row}
use Rattle.verbs_nest.proofs.Joining.{Kept, first-kept, more-kept, text_in}
use Rattle.verbs_nest.proofs.implode.ImplodedRowsAtEnd.add.Goals as goal

pub returns-in_ok-append-clause-holds : goal.returns-in_ok-append-clause-holds
returns-in_ok-append-clause-holds c =
    let row : Row = (c.args.fields, c.args.ctx) in
    let kept = c.args.self.now in
    on_ok_weaker c.append_text_at.result (λ put. record {
      follows = λ before held. (
          let text = put ∙ ap₂ (λ text name. text ++ text_in name row) (c.in_ok-append.ensures.appended ∙ ap (λ separator. kept.text ++ separator) c.as_slice.ensures) c.as_slice-then-is_some.ensures in
          subst (λ text. Kept kept.field kept.separator kept.first text (before ++ row ∷ [])) (sym text)
          (more-kept kept.field kept.separator kept.first kept.text row before (sym c.is_some.ensures ∙ c.if-is_some.true) held)
          );
    })
    c.append_text_at.ensures

pub returns-in_ok-append_text_at-clause-holds : goal.returns-in_ok-append_text_at-clause-holds
returns-in_ok-append_text_at-clause-holds c =
    let row : Row = (c.args.fields, c.args.ctx) in
    let kept = c.args.self.now in
    record {
      follows = λ before held. (
          let text = c.in_ok-append_text_at.ensures ∙ ap (λ name. kept.text ++ text_in name row) c.as_slice-else-is_some.ensures in
          subst (λ text. Kept kept.field kept.separator (Some row) text (before ++ row ∷ [])) (sym text)
          (first-kept kept.field kept.separator kept.first kept.text row before (sym c.is_some.ensures ∙ c.if-is_some.false) held)
          );
    }

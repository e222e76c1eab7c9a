use Rattle.std.proofs.Common.{◌≡◌, Bool, true, ◌+◌, ◌++◌, ◌∷◌, [], length, drop, cond, ap, ap₂, sym, ◌∙◌}
use Rattle.mlr_lines.specs.Lines.{without_return}
use Rattle.read_csv.specs.declared.rules.RowRules.{RowRules}
use Rattle.std.proofs.Props.{props}
use Rattle.read_csv.specs.OpenRow.{RowState}
use Rattle.read_csv.specs.Usable.{is_usable}
use Rattle.read_csv.specs.Rules.{after_text, line_end, with_end}
use Rattle.read_csv.proofs.line_step.RowRulesLineFormat.line.Goals as goal

pub returns-clause-state : goal.returns-clause-state
returns-clause-state c =
    let old = c.args.self.now in
    let next = c.take.new.self in
    let line = c.args.line.now in
    let row : c.end_line.new.row ≡ with_end next.row (line_end line) = c.in_ok-end_line.ensures ∙ ap (λ t. with_end next.row (drop (length t) line ++ 10 ∷ [])) c.without_return-text.ensures.text in
    let numbered : RowState → (is_usable next.opts ≡ true) → RowRules = λ r u. record next { number = next.number + 1; row = r; usable = u } in
    let one : IsProp (is_usable next.opts ≡ true) = hlevel props in
    let ended : RowRules → RowRules = λ n. record n { number = n.number + 1; row = with_end n.row (line_end line) } in
    let unless : Bool → RowRules = λ s. cond s old (ended (after_text old (without_return line))) in
    ap₂ numbered row (one _ next.usable)
    ∙ ap ended (c.in_ok-take.ensures.state ∙ ap (after_text old) c.without_return-text.ensures.text)
    ∙ sym (ap unless c.if-self.false)

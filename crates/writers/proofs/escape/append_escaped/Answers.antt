use Rattle.std.proofs.Common.{◌≡◌, ◌++◌, if◌then◌else◌, not, false, ap, sym, ◌∙◌}
use Rattle.std.specs.Option.{option_to_list}
use Rattle.mlr_value.specs.Stops.{has_stop}
use Rattle.writers.proofs.Escapes.{none-from-not, plain-text}
use Rattle.writers.proofs.escape.append_escaped.Goals as goal

pub returns-then-branch : goal.returns-then-branch
returns-then-branch g c =
    let text = c.args.text.now in
    let into = c.args.out.now in
    let next = option_to_list c.args.next in
    let stops = c.stops.result in
    let none : has_stop stops text ≡ false = none-from-not (has_stop stops text) (sym c.in_ok-append_plain_then.ensures.plain ∙ c.if-branch.true) in
    c.in_ok-append_plain_then.ensures.appended
    ∙ ap (λ stop. if stop then into else into ++ text ++ next) none
    ∙ ap (λ t. into ++ t ++ next) (sym (plain-text g.E.Escape.escaped stops c.stops.ensures text none))

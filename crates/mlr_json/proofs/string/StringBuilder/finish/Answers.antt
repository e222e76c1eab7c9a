use Rattle.std.proofs.Common.{[], ◌++◌, ap, sym, ◌∙◌}
use Rattle.std.proofs.lemmas.List.{append-nil}
use Rattle.mlr_spec.specs.JsonTokens.{decoded}
use Rattle.mlr_json.specs.Decoding.{pending}
use Rattle.mlr_json.proofs.string.StringBuilder.finish.Goals as goal

pub returns : goal.returns
returns c = λ pieces held.
    let b = c.args.self in
    ap (λ x. x.text) c.in_ok-end_unit.ensures
    ∙ ap (λ x. b.text ++ decoded x) (sym (append-nil (pending b.high)))
    ∙ sym (held.decodes [])
    ∙ ap decoded (append-nil pieces)

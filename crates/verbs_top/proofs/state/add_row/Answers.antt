use Rattle.std.proofs.Common.{◌++◌, Some, ap, subst, sym, ◌∙◌}
use Rattle.std.specs.Option.{option_map}
use Rattle.std.proofs.lemmas.Result.{on_ok_weaker}
use Rattle.mlr_spec.specs.Pairs.{value_at}
use Rattle.mlr_value.specs.Value.{tree_of}
use Rattle.verbs_base.specs.Records.{Row}
use Rattle.verbs_top.specs.Best.{HoldsBest, held_row, wanted_of}
use Rattle.verbs_top.proofs.Keeping.{holds-passed, one, wanted-offered}
use Rattle.verbs_top.proofs.state.add_row.Goals as goal

pub returns-in_default : goal.returns-in_default
returns-in_default c = λ given holds. (
    let value = c.get.ensures ∙ ap (λ name. value_at name c.args.fields) c.first_name-name.ensures in
    let is = ap (wanted_of c.args.options.now.order c.args.rows.now.last) (sym value) ∙ sym c.in_ok-value.ensures ∙ ap (option_map tree_of) c.in_default.is in
    holds-passed c.args.options.now given c.args.rows.now holds _ (Some (c.args.fields, c.args.ctx)) is
    )

pub returns : goal.returns
returns c =
    let row : Row = (c.args.fields, c.args.ctx) in
    let value = c.get.ensures ∙ ap (λ name. value_at name c.args.fields) c.first_name-name.ensures in
    let is = ap (wanted_of c.args.options.now.order c.args.rows.now.last) (sym value) ∙ sym c.in_ok-value.ensures ∙ ap (option_map tree_of) c.in-Some.is in
    let same = wanted-offered c.args.options.now.order c.args.rows.now.last _ (tree_of c.in-Some.value) (Some row) is in
    let boxed = ap (λ held. one (tree_of c.in-Some.value) (Some (held_row held))) c.in_ok-row.ensures.ok in
    on_ok_weaker c.push.result
    (λ pushed given holds. subst (λ pairs. HoldsBest c.args.options.now (given ++ pairs) c.push.new.self) (boxed ∙ sym same) (pushed given holds))
    c.push.ensures

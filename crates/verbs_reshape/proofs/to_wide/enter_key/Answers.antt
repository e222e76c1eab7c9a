use Rattle.std.proofs.Common.{◌≡◌, false, true, not, is_some, sym, ap, ◌∙◌}
use Rattle.std.proofs.lemmas.Result.{on_ok_weaker}
use Rattle.mlr_groups.specs.Keys.{entered}
use Rattle.mlr_spec.specs.Pairs.{value_at}
use Rattle.mlr_value.specs.Value.{tree_of}
use Rattle.text_forms.specs.Shown.{shown}
use Rattle.verbs_reshape.proofs.Wide.{keys-none, keys-one, some-mapped, pair-keyless, pair-there, pair-valueless}
use Rattle.verbs_reshape.proofs.to_wide.enter_key.Goals as goal

pub returns-in_default : goal.returns-in_default
returns-in_default c =
    let options = c.args.options.now in
    let fields = c.args.fields.now in
    λ rows ctx is. is ∙ keys-none options rows (fields, ctx) (pair-keyless options fields (c.in_default.ensures ∙ ap (λ name. value_at name fields) c.as_slice.ensures))

pub returns-then-is_none : goal.returns-then-is_none
returns-then-is_none c =
    let options = c.args.options.now in
    let fields = c.args.fields.now in
    let valued = c.get-2.ensures ∙ ap (λ name. value_at name fields) c.as_slice-2.ensures in
    let none : is_some (value_at options.value fields) ≡ false = ap is_some (sym valued) ∙ some-mapped (λ value. tree_of value.now) c.get-2.result ∙ c.is_none.ensures ∙ ap not c.if-is_none.true in
    λ rows ctx is. is ∙ keys-none options rows (fields, ctx) (pair-valueless options fields none)

pub returns : goal.returns
returns c =
    let options = c.args.options.now in
    let fields = c.args.fields.now in
    let valued = c.get-2.ensures ∙ ap (λ name. value_at name fields) c.as_slice-2.ensures in
    let there : is_some (value_at options.value fields) ≡ true = ap is_some (sym valued) ∙ some-mapped (λ value. tree_of value.now) c.get-2.result ∙ c.is_none.ensures ∙ ap not c.if-is_none.false in
    let pair = pair-there options fields (tree_of c.in-Some.key.now) (c.in-Some.ensures ∙ ap (λ name. value_at name fields) c.as_slice.ensures) there in
    on_ok_weaker c.enter_shown.result (λ added. λ rows ctx is. added ∙ ap (λ keys. entered keys (shown (tree_of c.in-Some.key.now))) is ∙ keys-one options rows (fields, ctx) (shown (tree_of c.in-Some.key.now), pair.0) pair.1) c.enter_shown.ensures

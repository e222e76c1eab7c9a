use Rattle.std.proofs.Common.{◌≡◌, ℕ, Bor, List, Some, ap, sym, subst, ◌∙◌}
use Rattle.std.specs.Option.{option_map}
use Rattle.std.proofs.lemmas.Result.{on_ok_weaker}
use Rattle.mlr_spec.specs.Pairs.{value_at}
use Rattle.mlr_value.specs.Value.{tree_of}
use Rattle.mlr_value.specs.declared.value.Value.{Value}
use Rattle.mlr_stats.specs.Kept.{Summarizes}
use Rattle.stat_base.specs.Values.{values_of}
use Rattle.verbs_summary.proofs.Meeting.{values-has, values-lacks}
use Rattle.verbs_summary.proofs.stats1.add_value.Goals as goal

-- the name at the place
same : (name other : List ℕ) → Some other ≡ Some name → other ≡ name
same name other is = cc

pub returns-in_default-get-clause-summary : goal.returns-in_default-get-clause-summary
returns-in_default-get-clause-summary c = λ before name at keeps.
    let named = same name c.in-Some.name.now (sym (ap (option_map (λ (n : Bor (List ℕ)). n.now)) c.in-Some.is) ∙ c.at.ensures ∙ at) in
    let lacks = ap (λ n. value_at n c.args.fields.now) (sym named ∙ sym c.as_slice.ensures) ∙ sym c.get.ensures ∙ ap (option_map (λ (v : Bor Value). tree_of v.now)) c.in_default-get.is in
    subst (λ values. Summarizes c.args.options.now.statistics values c.args.summary.now) (sym (values-lacks name before c.args.fields.now lacks)) keeps

pub returns-clause-summary : goal.returns-clause-summary
returns-clause-summary c =
    on_ok_weaker c.add.result
    (λ adds before name at keeps.
    let named = same name c.in-Some.name.now (sym (ap (option_map (λ (n : Bor (List ℕ)). n.now)) c.in-Some.is) ∙ c.at.ensures ∙ at) in
    let has = ap (λ n. value_at n c.args.fields.now) (sym named ∙ sym c.as_slice.ensures) ∙ sym c.get.ensures ∙ ap (option_map (λ (v : Bor Value). tree_of v.now)) c.in-Some-get.is in
    subst (λ values. Summarizes c.args.options.now.statistics values c.add.new.self) (sym (values-has name before c.args.fields.now (tree_of c.in-Some-get.value.now) has))
    (adds (values_of name before) keeps))
    c.add.ensures

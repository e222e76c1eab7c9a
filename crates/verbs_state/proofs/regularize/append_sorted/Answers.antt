use Rattle.std.proofs.Common.{Bor, true, ◌≡◌, ◌++◌, [], List, ℕ, drop, map, rules, ap, sym, ◌∙◌}
use Rattle.std.proofs.lemmas.List.{append-nil, drop_all}
use Rattle.std.proofs.lemmas.List.Sorted.{answers_always}
use Rattle.mlr_spec.specs.Pairs.{are_distinct, keys_of}
use Rattle.mlr_groups.specs.Keys.{key_of}
use Rattle.verbs_fields.specs.Sorting.{by_name}
use Rattle.verbs_fields.proofs.Ascending.{precedes, precedes-order, sorted-by_name}
use Rattle.verbs_state.specs.Regularize.{sorted_names}
use Rattle.verbs_state.proofs.Names.{bare, bare-names, keys-bare-names, sorted_names-keys}
use Rattle.verbs_state.proofs.regularize.append_sorted.Goals as goal

pub returns : goal.returns
returns c =
    let sort = c.sort_unstable_by.ensures in
    let old = c.in_ok-names.names.items in
    let new = c.sort_unstable_by.new.self.items in
    let items = c.deref-name-items.result.now in
    let texts : List (Bor (List ℕ)) → List (List ℕ) = map (λ name. name.now) in
    let distinct : are_distinct (texts old) ≡ true = ap are_distinct c.in_ok-names.ensures.names ∙ c.borrowed_names.ensures.distinct in
    let sorted : texts new ≡ sorted_names (texts old) =
    sym (keys-bare-names new)
    ∙ ap keys_of (sorted-by_name bare old new sort.permutation (ap are_distinct (keys-bare-names old) ∙ distinct) (sort.sorted (precedes bare) (precedes-order bare) (answers_always _ _ _ (λ f a r g h. search rules))))
    ∙ ap (λ pairs. keys_of (by_name pairs)) (bare-names old) in
    let names : texts items ≡ keys_of (by_name c.args.fields.now) =
    ap texts c.deref-name-items.ensures.value ∙ sorted ∙ ap sorted_names c.in_ok-names.ensures.names ∙ sorted_names-keys c.args.fields.now in
    let none : drop c.loop-name.name-index items ≡ [] = drop_all c.loop-name.name-index items c.loop-name-test.false in
    sym (append-nil c.loop-name.key)
    ∙ ap (λ left. c.loop-name.key ++ key_of (texts left)) (sym none)
    ∙ c.loop-name.invariant
    ∙ ap (λ all. c.args.key.now ++ key_of all) names

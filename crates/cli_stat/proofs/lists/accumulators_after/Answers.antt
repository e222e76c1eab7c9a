use Rattle.std.proofs.Common.{◌≡◌, ◌++◌, ℕ, ◌+◌, ◌<◌, length, List, ◌∷◌, Option, Some, None, refl, ap, sym, ◌∙◌, append_assoc, drop, get_or}
use Rattle.std.specs.List.{filter_map, cons_option}
use Rattle.std.specs.Option.{option_to_list}
use Rattle.std.proofs.lemmas.List.{drop_more}
use Rattle.stat_base.specs.Accumulators.{accumulator_named}
use Rattle.cli_stat.proofs.lists.accumulators_after.Goals as goal

onto-list : {Y : Type 0} (made : Option Y) (ys : List Y) → option_to_list made ++ ys ≡ cons_option made ys
onto-list (Some y) ys = refl
onto-list None ys = refl

-- what the item at a place gives follows what those before it gave
one-more : {X Y : Type 0} (f : X → Option Y) (before : List Y) (xs : List X) (i : ℕ) (x : X) → i < length xs → x ≡ get_or xs i x
    → before ++ option_to_list (f x) ++ filter_map f (drop (i + 1) xs) ≡ before ++ filter_map f (drop i xs)
one-more f before xs i x within at =
    append_assoc before (option_to_list (f x)) (filter_map f (drop (i + 1) xs))
    ∙ ap (λ ys. before ++ ys) (onto-list (f x) (filter_map f (drop (i + 1) xs))
    ∙ sym (ap (filter_map f) (drop_more xs i x within ∙ ap (λ item. item ∷ drop (i + 1) xs) (sym at))))

pub loop-name-preserved : goal.loop-name-preserved
loop-name-preserved c =
    let names = c.as_slice-name-items.result.now in
    let i = c.loop-name.name-index in
    ap (λ made. made ++ filter_map accumulator_named (drop (i + 1) names))
    (c.in_ok-push_accumulator.ensures ∙ ap (λ name. c.loop-name.accumulators ++ option_to_list (accumulator_named name)) c.as_slice.ensures)
    ∙ one-more accumulator_named c.loop-name.accumulators names i c.name-item.result c.loop-name-test.true c.name-item.is
    ∙ c.loop-name.invariant

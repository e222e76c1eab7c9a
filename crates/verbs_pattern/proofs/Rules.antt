-- Renaming by one rule after another.
use Rattle.std.proofs.Common.{◌≡◌, ℕ, ◌+◌, ◌<◌, List, ◌∷◌, length, drop, map, get_or, sym, ap, ◌∙◌}
use Rattle.std.proofs.lemmas.List.{drop_more, get_or-map}
use Rattle.mlr_pattern.specs.declared.which.Which.{Which}
use Rattle.mlr_spec.specs.Tree.{Tree}
use Rattle.regex.specs.Patterns.{Re}
use Rattle.verbs_pattern.specs.Renaming.{renamed_by, renamed_by_each}

-- one more rule, with its pattern among the patterns of all rules
pub rule-more : {A : Type 0} (f : A → Re) (g : A → List ℕ) (which : Which) (rules : List A) (patterns : List Re) (place : ℕ) (rule : A) (before after : List (List ℕ × Tree))
    → place < length rules → rule ≡ get_or rules place rule → patterns ≡ map f rules → after ≡ renamed_by which (get_or patterns place (f rule)) (g rule) before
    → renamed_by_each which (map (λ r. (f r, g r)) (drop (place + 1) rules)) after ≡ renamed_by_each which (map (λ r. (f r, g r)) (drop place rules)) before
rule-more f g which rules patterns place rule before after below here same after_is =
    ap (renamed_by_each which (map (λ r. (f r, g r)) (drop (place + 1) rules)))
    (after_is ∙ ap (λ re. renamed_by which re (g rule) before) (ap (λ ps. get_or ps place (f rule)) same ∙ get_or-map f rules place rule (f rule) below ∙ ap f (sym here)))
    ∙ sym (ap (λ l. renamed_by_each which (map (λ r. (f r, g r)) l) before) (drop_more rules place rule below ∙ ap (λ r. r ∷ drop (place + 1) rules) (sym here)))

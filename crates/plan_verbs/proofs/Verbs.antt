-- Verbs of lists, one by one.
use Rattle.std.proofs.Common.{◌≡◌, ℕ, ◌+◌, ◌<◌, List, [], ◌∷◌, ◌++◌, length, get_or, take, ap, sym, ◌∙◌, subst}
use Rattle.std.proofs.lemmas.List.{take_more}
use Rattle.verb_specs.specs.declared.verb_spec.VerbSpec.{VerbSpec}
use Rattle.verb_specs.specs.Verbs.{AreSame, AreSameVerbs}

-- one more verb is copied
pub same-verbs-following : (spec copy : VerbSpec) (specs copies : List VerbSpec) → AreSameVerbs specs copies → AreSame spec copy → AreSameVerbs (specs ++ spec ∷ []) (copies ++ copy ∷ [])
same-verbs-following spec copy [] [] are same = (same, tt)
same-verbs-following spec copy [] (c ∷ copies) are same = absurd are
same-verbs-following spec copy (s ∷ specs) [] are same = absurd are
same-verbs-following spec copy (s ∷ specs) (c ∷ copies) are same = (are.0, same-verbs-following spec copy specs copies are.1 same)

pub same-verbs-next : (specs : List VerbSpec) (i : ℕ) (spec copy : VerbSpec) (copies longer : List VerbSpec) → i < length specs → spec ≡ get_or specs i spec → AreSameVerbs (take i specs) copies → AreSame spec copy
    → longer ≡ copies ++ copy ∷ [] → AreSameVerbs (take (i + 1) specs) longer
same-verbs-next specs i spec copy copies longer within at are same is =
    let next : take (i + 1) specs ≡ take i specs ++ spec ∷ [] = take_more specs i spec within ∙ ap (λ x. take i specs ++ x ∷ []) (sym at) in
    subst (λ xs. AreSameVerbs xs longer) (sym next) (subst (λ ys. AreSameVerbs (take i specs ++ spec ∷ []) ys) (sym is) (same-verbs-following spec copy (take i specs) copies are same))

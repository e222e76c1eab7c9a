-- Options that contradict earlier ones.
use Rattle.std.proofs.Common.{◌≡◌, ℕ, ◌+◌, ◌<◌, Bool, if◌then◌else◌, List, [], ◌∷◌, ◌++◌, Some, ap, sym, ◌∙◌, drop, take, length, get_or}
use Rattle.std.proofs.lemmas.List.{drop_more, take_more}
use Rattle.std.specs.List.{list_any}
use Rattle.cli_grammar.specs.declared.given.Given.{Given}
use Rattle.cli_verbs.specs.Clash.{are_rivals, clash_after}

-- a test of the option at a place against those before it
pub clash_step : (groups : List (List (List ℕ) × Bool)) (options : List Given) (i : ℕ) (given : Given) (test : Bool) → i < length options → given ≡ get_or options i given →
    test ≡ list_any (λ other. are_rivals groups given.name other.name) (take i options) →
    clash_after groups (take i options) (drop i options) ≡ (if test then Some given.number else clash_after groups (take (i + 1) options) (drop (i + 1) options))
clash_step groups options i given test within at is =
    ap (clash_after groups (take i options)) (drop_more options i given within ∙ ap (λ x. x ∷ drop (i + 1) options) (sym at))
    ∙ ap (λ t. if t then Some given.number else clash_after groups (take i options ++ given ∷ []) (drop (i + 1) options)) (sym is)
    ∙ ap (λ before. if test then Some given.number else clash_after groups before (drop (i + 1) options))
    (ap (λ x. take i options ++ x ∷ []) at ∙ sym (take_more options i given within))

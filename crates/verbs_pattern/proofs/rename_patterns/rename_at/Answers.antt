use Rattle.std.proofs.Common.{◌≡◌, ℕ, true, false, List, [], get_or, MatchOption, sym, ap, ◌∙◌, subst}
use Rattle.std.specs.Str.{bytes_eq}
use Rattle.std.proofs.lemmas.Option.{get_or_from_slice_get}
use Rattle.regex.specs.Bytes.{matcher_pattern}
use Rattle.regex.proofs.ReplaceLemmas.{IfOk-weaker}
use Rattle.mlr_spec.specs.Tree.{Tree, absent}
use Rattle.mlr_value.specs.Value.{tree_of}
use Rattle.verbs_pattern.specs.RenamingSteps.{new_name}
use Rattle.verbs_pattern.proofs.Renaming.{step-keeps, step-renames}
use Rattle.verbs_pattern.proofs.rename_patterns.rename_at.Goals as goal

pub returns-in-None-clause-goes_on : goal.returns-in-None-clause-goes_on
returns-in-None-clause-goes_on c =
    let before = c.args.fields.now in
    let place = c.args.place in
    let rename : List ℕ → List ℕ = new_name c.args.which (matcher_pattern c.args.matcher.now) c.args.by.now in
    let name = c.entry.result.0.now in
    let pair : List ℕ × Tree = ([], absent) in
    let field : List ℕ × Tree = (name, tree_of c.entry.result.1.now) in
    let here : (get_or before place pair).0 ≡ name = ap (λ (p : List ℕ × Tree). p.0) (get_or_from_slice_get before place field pair c.entry.ensures) in
    let kept : bytes_eq (rename name) name ≡ true
    = subst (λ made. MatchOption made (bytes_eq (rename name) name ≡ true) (λ new. (new ≡ rename name) × (bytes_eq new name ≡ false))) c.in-None.is c.in_ok-new.ensures.made in
    step-keeps rename place before pair c.requires.within (subst (λ n. bytes_eq (rename n) n ≡ true) (sym here) kept)

pub returns-in-Some-clause-goes_on : goal.returns-in-Some-clause-goes_on
returns-in-Some-clause-goes_on c =
    let before = c.args.fields.now in
    let place = c.args.place in
    let rename : List ℕ → List ℕ = new_name c.args.which (matcher_pattern c.args.matcher.now) c.args.by.now in
    let name = c.entry.result.0.now in
    let pair : List ℕ × Tree = ([], absent) in
    let field : List ℕ × Tree = (name, tree_of c.entry.result.1.now) in
    let here : (get_or before place pair).0 ≡ name = ap (λ (p : List ℕ × Tree). p.0) (get_or_from_slice_get before place field pair c.entry.ensures) in
    let made : (c.in-Some.new ≡ rename name) × (bytes_eq c.in-Some.new name ≡ false)
    = subst (λ o. MatchOption o (bytes_eq (rename name) name ≡ true) (λ new. (new ≡ rename name) × (bytes_eq new name ≡ false))) c.in-Some.is c.in_ok-new.ensures.made in
    let new = c.as_slice.result.now in
    let is : new ≡ c.in-Some.new = c.as_slice.ensures in
    IfOk-weaker _ _
    (λ next renamed. step-renames rename place next new before c.rename_to.new.fields pair c.requires.within c.requires.distinct
    (is ∙ made.0 ∙ ap rename (sym here))
    (subst (λ n. bytes_eq new n ≡ false) (sym here) (ap (λ n. bytes_eq n name) is ∙ made.1))
    (renamed pair).0 (renamed pair).1)
    c.rename_to.result c.rename_to.ensures

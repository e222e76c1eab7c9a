use Rattle.std.proofs.Common.{ℕ, List, sym, ap, ◌∙◌}
use Rattle.std.proofs.lemmas.Option.{get_or_from_slice_get}
use Rattle.mlr_spec.specs.Tree.{Tree}
use Rattle.mlr_value.specs.Value.{tree_of}
use Rattle.verbs_pattern.proofs.Renaming.{renamed-at}
use Rattle.verbs_pattern.proofs.rename_patterns.rename_to.Goals as goal

pub returns : goal.returns
returns c = λ pair. (
    let before = c.args.fields.now in
    let place = c.args.place in
    let field : List ℕ × Tree = (c.entry.result.0.now, tree_of c.entry.result.1.now) in
    let name = ap (λ (p : List ℕ × Tree). p.0) (get_or_from_slice_get before place field pair c.entry.ensures) in
    renamed-at place c.place_after-next.result c.as_slice.result.now c.args.new.now before c.rename.new.self pair c.requires.within c.requires.distinct
    (c.as_slice.ensures ∙ c.in_ok-old.ensures.copied ∙ sym name) (c.requires.other pair) c.in_ok-rename.ensures.renamed c.place_after-next.ensures
    )

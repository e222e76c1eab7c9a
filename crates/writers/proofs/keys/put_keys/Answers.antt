use Rattle.mlr_spec.specs.Tree.{Tree}
use Rattle.std.proofs.Common.{ℕ, List, ap₂, ◌∙◌, sym, ◌++◌, ◌∷◌, []}
use Rattle.mlr_value.specs.Value.{tree_of}
use Rattle.writers.specs.declared.form.Part.TheVariants.{Keys}
use Rattle.writers.specs.Cells.{part_text}
use Rattle.writers.proofs.Texts.{map-next}
use Rattle.writers.proofs.keys.put_keys.Goals as goal

pub loop-place-preserved : goal.loop-place-preserved
loop-place-preserved c =
    let field : List ℕ × Tree = (c.entry.result.0.now, tree_of c.entry.result.1.now) in
    c.in_ok-push.ensures.items ∙ ap₂ (λ keys key. keys ++ key ∷ []) c.loop-place.invariant c.in_ok-copy_of.ensures.copied
    ∙ sym (map-next (part_text Keys) c.args.fields.now c.loop-place.place field c.entry.ensures)

use Rattle.std.proofs.Common.{◌≡◌, ◌++◌, ◌∙◌, ap₂, []}
use Rattle.mlr_spec.specs.Pairs.{keys_of}
use Rattle.text_columns.specs.Chunks.{line_code, rows_in}
use Rattle.text_columns.proofs.Blocks.{block-none, first-pushed}
use Rattle.text_columns.proofs.block.Block.push_keys.Goals as goal

pub returns : goal.returns
returns c =
    let inside = c.self.inside in
    let rows = rows_in inside.rows.full.items inside.rows.last in
    let empty : inside.keys ≡ [] = block-none inside.keys rows (c.self.view_is ∙ c.requires) in
    first-pushed c.put_keys.result inside.keys c.append_keys.new.line c.put_keys.new.keys rows [] (keys_of c.args.fields.now) empty (c.self.invariant.0 empty)
    (c.self.view_is ∙ c.requires) c.put_keys.ensures.keys c.put_keys.ensures.size
    (c.in_ok-append_keys.ensures ∙ ap₂ (λ old r. old ++ line_code (keys_of r)) c.clear.ensures c.fields.ensures)

use Rattle.std.proofs.Common.{◌≡◌, ◌<◌, ◌^◌, ◌++◌, ◌∷◌, ◌∙◌, ap, ap₂, arith, drop, false, length, rules, take, []}
use Rattle.std.specs.Bool.{IsTrue}
use Rattle.text_columns.specs.Chunks.{first_line, line_code, rows_in}
use Rattle.text_columns.specs.Columns.{widened}
use Rattle.text_columns.specs.Pprint.{values_of}
use Rattle.text_columns.proofs.Blocks.{first-pushed, more-pushed, more-widths}
use Rattle.text_columns.proofs.Coded.{written-line, written-one}
use Rattle.text_columns.proofs.Widening.{all-written, widened-length}
use Rattle.text_columns.proofs.block.Block.push_values.Goals as goal

pub push-requires : goal.push-requires
push-requires c =
    let line = c.as_slice-line.result.now in
    let fits : length line < 2 ^ 64 = omega arith in
    written-one line (values_of c.args.fields.now)
    (c.as_slice-line.ensures ∙ c.in_ok-append_values.ensures ∙ ap₂ (λ old r. old ++ line_code (values_of r)) c.clear.ensures c.fields.ensures) fits

pub returns-then-is_empty : goal.returns-then-is_empty
returns-then-is_empty c =
    let inside = c.self.inside in
    let empty : inside.keys ≡ [] = c.is_empty.ensures.0 (search rules) in
    first-pushed c.put_keys.result inside.keys c.append_values.new.line c.put_keys.new.keys (rows_in inside.rows.full.items inside.rows.last) c.args.self.now (values_of c.args.fields.now)
    empty (c.self.invariant.0 empty) c.self.view_is c.put_keys.ensures.keys c.put_keys.ensures.size
    (c.in_ok-append_values.ensures ∙ ap₂ (λ old r. old ++ line_code (values_of r)) c.clear.ensures c.fields.ensures)

pub invariant_of-self-2 : goal.invariant_of-self-2
invariant_of-self-2 c =
    let inside = c.self.inside in
    let rows = rows_in inside.rows.full.items inside.rows.last in
    let line = c.as_slice-line.result.now in
    let widths = inside.widths in
    let some : inside.keys ≡ [] → ⊥ = λ empty. let h : IsTrue false = c.if-is_empty.ensures.1 empty in cc in
    let same : c.widen.new.widths ≡ widened (first_line line) widths.items = c.widen.ensures ∙ ap (widened (first_line line)) c.deref_mut.ensures.value in
    let long : length c.widen.new.widths ≡ length widths.items = ap length same ∙ widened-length (first_line line) widths.items in
    let written = all-written widths.items c.widen.new.widths widths.len long (omega (arith, widths.ok)) in (
      λ empty. absurd (some empty),
      more-widths inside.keys rows (rows_in c.push.new.self.full.items c.push.new.self.last) (first_line line) some c.in_ok-push.ensures widths.items
          (take widths.len (c.widen.new.widths ++ drop (length c.widen.new.widths) widths.items)) c.self.invariant.1 (written ∙ same),
    )

pub returns : goal.returns
returns c =
    let inside = c.self.inside in
    let rows = rows_in inside.rows.full.items inside.rows.last in
    let line = c.as_slice-line.result.now in
    let fits : length line < 2 ^ 64 = omega arith in
    let some : inside.keys ≡ [] → ⊥ = λ empty. let h : IsTrue false = c.if-is_empty.ensures.1 empty in cc in
    let is =
    written-line line (values_of c.args.fields.now)
    (c.as_slice-line.ensures ∙ c.in_ok-append_values.ensures ∙ ap₂ (λ old r. old ++ line_code (values_of r)) c.clear.ensures c.fields.ensures) fits
    in
    more-pushed inside.keys rows (rows_in c.push.new.self.full.items c.push.new.self.last) (first_line line) some c.in_ok-push.ensures
    ∙ ap₂ (λ before cells. before ++ cells ∷ []) c.self.view_is is

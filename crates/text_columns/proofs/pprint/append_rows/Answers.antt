use Rattle.std.proofs.Common.{◌≡◌, ◌++◌, ◌∙◌, ap, ap₂, arith, length, subst, OnOk}
use Rattle.std.specs.List.{flat_map}
use Rattle.text_columns.specs.Pprint.{pprint_line}
use Rattle.text_columns.proofs.Written.{chunks-done, rows-written}
use Rattle.text_columns.proofs.pprint.append_rows.Goals as goal

pub returns : goal.returns
returns c =
    let f = pprint_line c.args.barred c.args.widths.now in
    let rows = c.args.rows.now in
    let done : c.loop-chunk.out ≡ c.args.out.now ++ flat_map (λ chunk. flat_map f chunk) rows.full.items =
    chunks-done f rows.full.items c.loop-chunk.chunk-index c.loop-chunk.out (c.args.out.now ++ flat_map (λ chunk. flat_map f chunk) rows.full.items) (omega (arith, c.loop-chunk-test.false, ap length c.deref-chunk-items.ensures.value)) c.loop-chunk.invariant in
    subst (λ t. OnOk c.append_lines-2.result (c.append_lines-2.new.out ≡ t))
    (ap₂ (λ out lines. out ++ flat_map f lines) done c.bytes-2.ensures ∙ rows-written f rows.full.items rows.last c.args.out.now)
    c.append_lines-2.ensures

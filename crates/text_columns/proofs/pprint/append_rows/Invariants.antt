use Rattle.std.proofs.Common.{◌≡◌, ◌++◌, drop}
use Rattle.std.specs.List.{flat_map}
use Rattle.text_columns.specs.Pprint.{pprint_line}
use Rattle.text_columns.proofs.pprint.append_rows.Given as goal

abbrev pub invariant-loop-chunk : goal.invariant-loop-chunk
invariant-loop-chunk l =
    l.out ++ flat_map (λ chunk. flat_map (pprint_line l.barred l.widths) chunk) (drop l.chunk-index l.rows.full.items)
    ≡ l.initial.out ++ flat_map (λ chunk. flat_map (pprint_line l.barred l.widths) chunk) l.rows.full.items

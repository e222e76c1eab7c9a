use Rattle.std.proofs.Common.{◌≡◌, None, length}
use Rattle.read_csv.specs.OpenRow.{tsv_reading, row_with}
use Rattle.read_csv.proofs.tsv.take_escaped.Given as goal

-- reading the remaining text gives the same row as reading the whole text
abbrev pub invariant-loop-rest : goal.invariant-loop-rest
invariant-loop-rest l = record {
  row : row_with l.opts.infer l.row (tsv_reading l.opts.ifs l.left) ≡ row_with l.opts.infer l.fn.row (tsv_reading l.opts.ifs l.fn.text);
  closed : l.row.quotes ≡ None;
}

abbrev pub decreases-loop-rest : goal.decreases-loop-rest
decreases-loop-rest l = length l.left

use Rattle.std.proofs.Common.{◌≡◌, drop}
use Rattle.std.specs.Prelude.{map}
use Rattle.cli_grammar.specs.Flags.{row, row_named}
use Rattle.cli_grammar.proofs.flag_table.row_named.Given as goal

-- the flag isn't among the rows so far
abbrev pub invariant-loop-row : goal.invariant-loop-row
invariant-loop-row l =
    row_named (map (λ entry. row entry.0.now entry.1 entry.2) (drop l.row-index l.rows)) l.word
    ≡ row_named (map (λ entry. row entry.0.now entry.1 entry.2) l.rows) l.word

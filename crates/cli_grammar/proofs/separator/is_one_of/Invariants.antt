use Rattle.std.proofs.Common.{◌≡◌, drop}
use Rattle.std.specs.Prelude.{map}
use Rattle.std.specs.List.{list_any}
use Rattle.std.specs.Str.{bytes_eq}
use Rattle.cli_grammar.proofs.separator.is_one_of.Given as goal

-- the word is none of the names so far
abbrev pub invariant-loop-name : goal.invariant-loop-name
invariant-loop-name l =
    list_any (λ name. bytes_eq l.word name) (map (λ name. name.now) (drop l.name-index l.names))
    ≡ list_any (λ name. bytes_eq l.word name) (map (λ name. name.now) l.names)

use Rattle.std.proofs.Common.{◌≡◌, ◌++◌, drop}
use Rattle.mlr_groups.specs.Grouping.{texts_of}
use Rattle.mlr_groups.specs.Keys.{key_of}
use Rattle.mlr_groups.proofs.keys.append_texts.Given as goal

-- the key so far with the texts of the remaining names is the key of all of them
abbrev pub invariant-loop-name : goal.invariant-loop-name
invariant-loop-name l = l.key ++ key_of (texts_of (drop l.name-index l.names) l.fields) ≡ l.fn.key ++ key_of (texts_of l.names l.fields)

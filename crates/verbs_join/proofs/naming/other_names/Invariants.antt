use Rattle.std.proofs.Common.{◌≡◌, ℕ, List, [], drop}
use Rattle.mlr_record.specs.Fields.{pairs_of}
use Rattle.verbs_join.proofs.Among.{among_all}
use Rattle.verbs_join.proofs.naming.other_names.Given as goal

-- the names of the table, with those of the remaining fields, are those of all
abbrev pub invariant-loop-field : goal.invariant-loop-field
invariant-loop-field l = (name : List ℕ) → among_all l.table l.join (pairs_of (drop l.field-index l.field-items)) name ≡ among_all [] l.join (pairs_of l.field-items) name

use Rattle.std.proofs.Common.{◌≡◌, drop}
use Rattle.verbs_hold.specs.UnsparsifyFields.{unsparsify_fields}
use Rattle.verbs_hold.proofs.unsparsify_fields.fill_each.Given as goal

-- the remaining names give what all give
abbrev pub invariant-loop-name : goal.invariant-loop-name
invariant-loop-name l =
    unsparsify_fields l.fn.fill (drop l.name-index l.names) l.fields ≡ unsparsify_fields l.fn.fill l.names l.fn.fields

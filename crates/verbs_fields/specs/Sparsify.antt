-- The verb `sparsify`.
use Rattle.std.specs.Prelude.{ℕ, Bool, not, ◌&&◌, List, Option}
use Rattle.std.specs.List.{filter}
use Rattle.mlr_spec.specs.Tree.{Tree}
use Rattle.verbs_base.specs.Changing.{is_taken}
use Rattle.verbs_base.specs.Choosing.{is_empty}
use Rattle.verbs_base.specs.Records.{Fields}
use Rattle.verbs_fields.specs.declared.sparsify.Sparsify.{Sparsify}

-- whether a field is dropped: it is empty, and it is one of the named fields or there are no names
abbrev pub is_sparse : Option (List (List ℕ)) → List ℕ × Tree → Bool
is_sparse names pair = is_empty pair.1 && is_taken names pair.0

-- the fields that aren't dropped
abbrev pub sparsify : Sparsify → Fields → Fields
sparsify verb fields = filter (λ pair. not (is_sparse verb.names pair)) fields

-- A record with the values of some fields changed.
use Rattle.std.specs.Prelude.{ℕ, List, Option, Some, None}
use Rattle.mlr_spec.specs.Tree.{Tree}
use Rattle.verbs_base.specs.Changing.{changed, is_taken}
use Rattle.verbs_pattern.specs.declared.sub_fields.SubFields.{SubFields}
use Rattle.verbs_pattern.specs.declared.sub_fields.SubFields.TheVariants.{All, Named}

-- the names of the fields that are changed, or None for all fields
abbrev pub names_of : SubFields → Option (List (List ℕ))
names_of All = None
names_of (Named names) = Some names

-- the record with the values of these fields changed
abbrev pub changed_fields : SubFields → (Tree → Tree) → List (List ℕ × Tree) → List (List ℕ × Tree)
changed_fields fields change pairs = changed (is_taken (names_of fields)) change pairs

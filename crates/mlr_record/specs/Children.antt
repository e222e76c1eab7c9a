-- The place of a name among the nodes of a map that paths made.
use Rattle.std.specs.Prelude.{◌≡◌, ◌<◌, ℕ, Bool, true, false, List, length, take, Option, MatchOption, slice_index_or, slice_set}
use Rattle.std.specs.List.{list_any}
use Rattle.std.specs.Str.{bytes_eq}
use Rattle.mlr_record.specs.declared.node.Node.{Node}
use Rattle.mlr_record.specs.declared.node.Child.{Child}

-- whether a child has this name
abbrev pub is_child : List ℕ → Child → Bool
is_child name child = bytes_eq child.name.now name

-- the place of the one child with this name, or none where no child has it
abbrev pub IsChildOf : List ℕ → List Child → Option ℕ → Type 0
IsChildOf name children place =
    MatchOption place (list_any (is_child name) children ≡ false)
    (λ i. (i < length children) × (list_any (is_child name) (take i children) ≡ false) × ((d : Child) → is_child name (slice_index_or children i d) ≡ true))

-- the child at this place has the node
abbrev pub IsGiven : ℕ → Node → List Child → List Child → Type 0
IsGiven place node before after =
    (d : Child) → after ≡ slice_set before place (record { name = (slice_index_or before place d).name; node = node })

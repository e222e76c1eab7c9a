-- The verb `sort-within-records`.
use Rattle.std.specs.Prelude.{ℕ, if◌then◌else◌, List, [], ◌∷◌}
use Rattle.mlr_spec.specs.Tree.{Tree, mapping, array, Trees, no_trees, tree_and, Fields as Pairs, no_fields, field_and, fields_of, map_of, array_of}
use Rattle.verbs_base.specs.Records.{Fields}
use Rattle.verbs_fields.specs.declared.sort_within_records.SortWithinRecords.{SortWithinRecords}
use Rattle.verbs_fields.specs.Sorting.{by_name}

-- a value with its maps sorted by their keys, and so the maps at any depth in maps and arrays
abbrev mutual
  pub deep_sorted : Tree → Tree
  deep_sorted (mapping pairs) = map_of (by_name (deep_pairs pairs))
  deep_sorted (array items) = array_of (deep_items items)
  deep_sorted value = value

  pub deep_pairs : Pairs → List (List ℕ × Tree)
  deep_pairs no_fields = []
  deep_pairs (field_and key value more) = (key, deep_sorted value) ∷ deep_pairs more

  pub deep_items : Trees → List Tree
  deep_items no_trees = []
  deep_items (tree_and item more) = deep_sorted item ∷ deep_items more

-- the fields sorted by their names; with `deep` also the maps in their values
abbrev pub sort_within_records : SortWithinRecords → Fields → Fields
sort_within_records verb fields = by_name (if verb.deep then deep_pairs (fields_of fields) else fields)

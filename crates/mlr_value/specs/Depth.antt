-- How deep maps and arrays are nested: the measure of a recursion over values.
use Rattle.std.specs.Prelude.{ℕ, ◌+◌, max, List}
use Rattle.mlr_spec.specs.Tree.{Tree, mapping, array, Trees, no_trees, tree_and, Fields, no_fields, field_and, fields_of, trees_of}

abbrev mutual
  pub depth : Tree → ℕ
  depth (mapping pairs) = fields_depth pairs + 1
  depth (array items) = trees_depth items + 1
  depth _ = 0

  pub fields_depth : Fields → ℕ
  fields_depth no_fields = 0
  fields_depth (field_and key value more) = max (depth value) (fields_depth more)

  pub trees_depth : Trees → ℕ
  trees_depth no_trees = 0
  trees_depth (tree_and item more) = max (depth item) (trees_depth more)

-- the largest depth of a value in a list of pairs, and in a list of items
abbrev pub pairs_depth : List (List ℕ × Tree) → ℕ
pairs_depth pairs = fields_depth (fields_of pairs)

abbrev pub items_depth : List Tree → ℕ
items_depth items = trees_depth (trees_of items)

-- Values whose written text is read as the same value.
use Rattle.std.specs.Prelude.{◌≡◌, true, false}
use Rattle.mlr_spec.specs.declared.infer.InferOpts.{InferOpts}
use Rattle.mlr_spec.specs.declared.infer.Kind.TheVariants.{Int, Frac, Wide}
use Rattle.mlr_spec.specs.Infer.{kind_of}
use Rattle.mlr_spec.specs.Pairs.{keys_of, are_distinct}
use Rattle.mlr_spec.specs.Tree.{Tree, absent, empty, string, int, fraction, wide, boolean, mapping, array, error, Trees, no_trees, tree_and, Fields, no_fields, field_and, pairs_in, spelled}
use Rattle.mlr_spec.specs.JsonGrammar.{text_value}

-- as texts in values are read: numbers are inferred, in base 10 where the text names no other
abbrev pub plain : InferOpts
plain = record { none = false; octal = false }

-- The value that a written text is read as: absent is written as the empty value, and an int that has no spelling gets
-- the one that it was written with.
abbrev mutual
  pub read_back : Tree → Tree
  read_back absent = empty
  read_back empty = empty
  read_back (string text) = text_value text
  read_back (int n spelling) = int n (spelled n spelling)
  read_back (fraction text) = fraction text
  read_back (wide text) = wide text
  read_back (boolean b) = boolean b
  read_back (mapping pairs) = mapping (pairs_read_back pairs)
  read_back (array items) = array (items_read_back items)
  read_back error = error

  pub pairs_read_back : Fields → Fields
  pairs_read_back no_fields = no_fields
  pairs_read_back (field_and key value more) = field_and key (read_back value) (pairs_read_back more)

  pub items_read_back : Trees → Trees
  items_read_back no_trees = no_trees
  items_read_back (tree_and item more) = tree_and (read_back item) (items_read_back more)

-- The value holds no error, its maps have distinct keys, and the text of each of its numbers is that number where it is inferred.
abbrev mutual
  pub IsReadable : Tree → Type 0
  IsReadable absent = Unit {0}
  IsReadable empty = Unit {0}
  IsReadable (string text) = Unit {0}
  IsReadable (int n spelling) = kind_of plain (spelled n spelling) ≡ Int n
  IsReadable (fraction text) = kind_of plain text ≡ Frac
  IsReadable (wide text) = kind_of plain text ≡ Wide
  IsReadable (boolean b) = Unit {0}
  IsReadable (mapping pairs) = (are_distinct (keys_of (pairs_in pairs)) ≡ true) × ArePairsReadable pairs
  IsReadable (array items) = AreItemsReadable items
  IsReadable error = ⊥

  pub ArePairsReadable : Fields → Type 0
  ArePairsReadable no_fields = Unit {0}
  ArePairsReadable (field_and key value more) = IsReadable value × ArePairsReadable more

  pub AreItemsReadable : Trees → Type 0
  AreItemsReadable no_trees = Unit {0}
  AreItemsReadable (tree_and item more) = IsReadable item × AreItemsReadable more

-- A value of the program as the tree that contracts see. A map in it is seen as its pairs, an array as its items.
use Rattle.std.specs.Prelude.{ℕ, List}
use Rattle.mlr_spec.specs.Tree.{Tree, absent, empty, string, int, fraction, wide, boolean, map_of, array_of, error, spelled}
use Rattle.mlr_value.specs.declared.value.IntValue.{IntValue}
use Rattle.mlr_value.specs.declared.value.Value.{Value}
use Rattle.mlr_value.specs.declared.value.Value.TheVariants.{Absent, Empty, Str, Int, Frac, Wide, Bool, Map, Array, Error}

abbrev pub tree_of : Value → Tree
tree_of Absent = absent
tree_of Empty = empty
tree_of (Str text) = string text
tree_of (Int value) = int value.n value.spelling
tree_of (Frac text) = fraction text
tree_of (Wide text) = wide text
tree_of (Bool b) = boolean b
tree_of (Map pairs) = map_of pairs
tree_of (Array items) = array_of items
tree_of Error = error

-- what an int prints
abbrev pub int_text : IntValue → List ℕ
int_text value = spelled value.n value.spelling

-- A value as contracts see it: one form for each kind, with its text, its pairs or its items.
use Rattle.std.specs.Prelude.{ℕ, ℤ, Bool, List, [], ◌∷◌, codes, cond, true, false}
use Rattle.std.specs.Fmt.{signed_decimal}

-- A map contains a list of pairs and an array a list of values. Inside a tree these lists are chains of its
-- own, since a data type can't occur in a list in itself; `pairs_in` and `items_in` give the lists, `map_of`
-- and `array_of` make a tree of them.
mutual
  pub data Tree : Type 0 where
    absent : Tree
    empty : Tree
    string : List ℕ → Tree
    int : ℤ → List ℕ → Tree
    fraction : List ℕ → Tree
    wide : List ℕ → Tree
    boolean : Bool → Tree
    mapping : Fields → Tree
    array : Trees → Tree
    error : Tree

  pub data Trees : Type 0 where
    no_trees : Trees
    tree_and : Tree → Trees → Trees

  pub data Fields : Type 0 where
    no_fields : Fields
    field_and : List ℕ → Tree → Fields → Fields

abbrev pub trees_of : List Tree → Trees
trees_of [] = no_trees
trees_of (tree ∷ trees) = tree_and tree (trees_of trees)

abbrev pub fields_of : List (List ℕ × Tree) → Fields
fields_of [] = no_fields
fields_of (pair ∷ pairs) = field_and pair.0 pair.1 (fields_of pairs)

abbrev pub items_in : Trees → List Tree
items_in no_trees = []
items_in (tree_and item more) = item ∷ items_in more

abbrev pub pairs_in : Fields → List (List ℕ × Tree)
pairs_in no_fields = []
pairs_in (field_and key value more) = (key, value) ∷ pairs_in more

abbrev pub map_of : List (List ℕ × Tree) → Tree
map_of pairs = mapping (fields_of pairs)

abbrev pub array_of : List Tree → Tree
array_of items = array (trees_of items)

-- an int as it was read, or in decimal where arithmetic made it
abbrev pub spelled : ℤ → List ℕ → List ℕ
spelled n [] = signed_decimal n
spelled n (b ∷ spelling) = b ∷ spelling

-- what a value that is no map and no array prints
abbrev pub text_of : Tree → List ℕ
text_of absent = []
text_of empty = []
text_of (string text) = text
text_of (int n spelling) = spelled n spelling
text_of (fraction text) = text
text_of (wide text) = text
text_of (boolean b) = cond b (codes "true") (codes "false")
text_of (mapping pairs) = []
text_of (array items) = []
text_of error = codes "(error)"

-- a map or an array
abbrev pub is_collection : Tree → Bool
is_collection (mapping pairs) = true
is_collection (array items) = true
is_collection _ = false

abbrev pub is_absent : Tree → Bool
is_absent absent = true
is_absent _ = false

abbrev pub is_empty : Tree → Bool
is_empty empty = true
is_empty _ = false

abbrev pub is_number : Tree → Bool
is_number (int n spelling) = true
is_number (fraction text) = true
is_number (wide text) = true
is_number _ = false

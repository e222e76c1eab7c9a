-- The codes by which models hold trees: a tree as a tag and what it holds, in the one set of values that ghost state has.
use Rattle.std.specs.Prelude.{◌≡◌, ℕ, zero, suc, pos, negsuc, true, false, List, [], ◌∷◌, refl}
use Rattle.std.proofs.Common.{sym, ap, ◌∙◌}
use Rattle.std.specs.Coded.{Coded, coded_ℕ, coded_list, coded×}
use base.Stored.{Gv, gnil, gnum, gcons, num}
use Rattle.mlr_spec.specs.Tree.{Tree, absent, empty, string, int, fraction, wide, boolean, mapping, array, error, Trees, no_trees, tree_and, Fields, no_fields, field_and}

abbrev code_text : List ℕ → Gv
code_text [] = gnil
code_text (b ∷ text) = gcons (gnum b) (code_text text)

abbrev mutual
  code_tree : Tree → Gv
  code_tree absent = gcons (gnum 0) gnil
  code_tree empty = gcons (gnum 1) gnil
  code_tree error = gcons (gnum 2) gnil
  code_tree (boolean false) = gcons (gnum 3) gnil
  code_tree (boolean true) = gcons (gnum 4) gnil
  code_tree (string text) = gcons (gnum 5) (code_text text)
  code_tree (fraction text) = gcons (gnum 6) (code_text text)
  code_tree (wide text) = gcons (gnum 7) (code_text text)
  code_tree (int (pos n) spelling) = gcons (gnum 8) (gcons (gnum n) (code_text spelling))
  code_tree (int (negsuc n) spelling) = gcons (gnum 9) (gcons (gnum n) (code_text spelling))
  code_tree (mapping pairs) = gcons (gnum 10) (code_fields pairs)
  code_tree (array items) = gcons (gnum 11) (code_trees items)

  code_trees : Trees → Gv
  code_trees no_trees = gnil
  code_trees (tree_and item more) = gcons (code_tree item) (code_trees more)

  code_fields : Fields → Gv
  code_fields no_fields = gnil
  code_fields (field_and key value more) = gcons (code_text key) (gcons (code_tree value) (code_fields more))

-- the way back
abbrev text_in : Gv → List ℕ
text_in gnil = []
text_in (gnum n) = []
text_in (gcons a b) = num a ∷ text_in b

abbrev number_in : Gv → ℕ
number_in gnil = 0
number_in (gnum n) = 0
number_in (gcons a b) = num a

abbrev after_number : Gv → List ℕ
after_number gnil = []
after_number (gnum n) = []
after_number (gcons a b) = text_in b

-- the tree of a tag, of the code after the tag, and of the items and fields that this is a code of
abbrev tree_at : ℕ → Gv → Trees → Fields → Tree
tree_at zero g items pairs = absent
tree_at (suc zero) g items pairs = empty
tree_at (suc (suc zero)) g items pairs = error
tree_at (suc (suc (suc zero))) g items pairs = boolean false
tree_at (suc (suc (suc (suc zero)))) g items pairs = boolean true
tree_at (suc (suc (suc (suc (suc zero))))) g items pairs = string (text_in g)
tree_at (suc (suc (suc (suc (suc (suc zero)))))) g items pairs = fraction (text_in g)
tree_at (suc (suc (suc (suc (suc (suc (suc zero))))))) g items pairs = wide (text_in g)
tree_at (suc (suc (suc (suc (suc (suc (suc (suc zero)))))))) g items pairs = int (pos (number_in g)) (after_number g)
tree_at (suc (suc (suc (suc (suc (suc (suc (suc (suc zero))))))))) g items pairs = int (negsuc (number_in g)) (after_number g)
tree_at (suc (suc (suc (suc (suc (suc (suc (suc (suc (suc zero)))))))))) g items pairs = mapping pairs
tree_at (suc (suc (suc (suc (suc (suc (suc (suc (suc (suc (suc n))))))))))) g items pairs = array items

-- what a code is: a tree, its items or fields, or a value with the fields after it
record Read : Type 0 where
  tree : Tree
  items : Trees
  pairs : Fields
  following : Fields

abbrev read : Gv → Read
read gnil = record { tree = absent; items = no_trees; pairs = no_fields; following = no_fields }
read (gnum n) = record { tree = absent; items = no_trees; pairs = no_fields; following = no_fields }
read (gcons a b) = record {
  tree = tree_at (num a) b (read b).items (read b).pairs;
  items = tree_and (read a).tree (read b).items;
  pairs = field_and (text_in a) (value_in (read b).items) (read b).following;
  following = (read b).pairs;
}
  where
    value_in : Trees → Tree
    value_in no_trees = absent
    value_in (tree_and item more) = item

pub text_in-code : (text : List ℕ) → text_in (code_text text) ≡ text
text_in-code [] = refl
text_in-code (b ∷ text) = ap (λ t. b ∷ t) (text_in-code text)

mutual
  pub read-tree : (tree : Tree) → (read (code_tree tree)).tree ≡ tree
  read-tree absent = refl
  read-tree empty = refl
  read-tree error = refl
  read-tree (boolean false) = refl
  read-tree (boolean true) = refl
  read-tree (string text) = ap string (text_in-code text)
  read-tree (fraction text) = ap fraction (text_in-code text)
  read-tree (wide text) = ap wide (text_in-code text)
  read-tree (int (pos n) spelling) = ap (int (pos n)) (text_in-code spelling)
  read-tree (int (negsuc n) spelling) = ap (int (negsuc n)) (text_in-code spelling)
  read-tree (mapping pairs) = ap mapping (read-fields pairs)
  read-tree (array items) = ap array (read-trees items)

  pub read-trees : (items : Trees) → (read (code_trees items)).items ≡ items
  read-trees no_trees = refl
  read-trees (tree_and item more) = λ i. tree_and (read-tree item i) (read-trees more i)

  pub read-fields : (pairs : Fields) → (read (code_fields pairs)).pairs ≡ pairs
  read-fields no_fields = refl
  read-fields (field_and key value more) = λ i. field_and (text_in-code key i) (read-tree value i) (read-fields more i)

-- a tree is read back from its code, so no two trees have one code
abbrev pub coded_tree : Coded Tree
coded_tree = record { code = code_tree; inj = λ x y same. sym (read-tree x) ∙ ap (λ g. (read g).tree) same ∙ read-tree y }

abbrev pub coded_pairs : Coded (List (List ℕ × Tree))
coded_pairs = coded_list (coded× (coded_list coded_ℕ) coded_tree)

abbrev pub coded_trees : Coded (List Tree)
coded_trees = coded_list coded_tree

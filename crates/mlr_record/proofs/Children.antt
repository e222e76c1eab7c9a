-- What is found and set at the place of a child.
use Rattle.std.proofs.Common.{◌≡◌, ℕ, zero, suc, ◌<◌, false, List, [], ◌∷◌, ◌++◌, map, set, get_or, Option, Some, None, Bor, length, refl, ap, sym, ◌∙◌, arith}
use Rattle.std.specs.List.{list_any}
use Rattle.std.specs.Str.{bytes_eq}
use Rattle.std.specs.Cmp.Lexicographic.{nat_list_eq_equiv}
use Rattle.std.proofs.lemmas.Bool.{or_from, or_parts}
use Rattle.std.proofs.lemmas.List.{map-append}
use Rattle.mlr_spec.specs.Pairs.{value_at, put_at, keys_of}
use Rattle.mlr_keys.specs.Keys.{IsFirst, IsPlaceAmong}
use Rattle.mlr_spec.specs.Flatten.{Node}
use Rattle.mlr_record.specs.declared.node.Node.{Node as NodeValue}
use Rattle.mlr_record.specs.declared.node.Child.{Child}
use Rattle.mlr_record.specs.NodeView.{node_of, child_of, children_in}
use Rattle.mlr_record.specs.Children.{IsChildOf, IsGiven, is_child}
use Rattle.mlr_record.proofs.Named.{named-absent, named-at, put-absent, put-in_place}

abbrev name_of : Child → List ℕ
name_of child = child.name.now

abbrev value_of : Child → Node
value_of child = node_of child.node

-- a child of a list that has one
some_child : (children : List Child) (i : ℕ) → i < length children → Child
some_child [] i below = absurd (omega arith)
some_child (child ∷ children) i below = child

-- the names of the children, as an index knows them
pub names-are : (children : List Child) → map (λ child. child.name.now) children ≡ keys_of (children_in children)
names-are [] = refl
names-are (child ∷ children) = ap (λ names. child.name.now ∷ names) (names-are children)

-- a child that gets a node keeps its name
names-set : (children : List Child) (i : ℕ) (d : Child) (node : NodeValue) → i < length children
    → keys_of (children_in (set children i (record { name = (get_or children i d).name; node = node }))) ≡ keys_of (children_in children)
names-set [] i d node below = absurd (omega arith)
names-set (child ∷ children) zero d node below = refl
names-set (child ∷ children) (suc i) d node below = ap (λ names. child.name.now ∷ names) (names-set children i d node (omega arith))

-- the place among the names is the place of the child
absent-child : (key : List ℕ) (children : List Child) → list_any (bytes_eq key) (keys_of (children_in children)) ≡ false → list_any (is_child key) children ≡ false
absent-child key [] h = refl
absent-child key (child ∷ children) h =
    let parts = or_parts (bytes_eq key child.name.now) (list_any (bytes_eq key) (keys_of (children_in children))) h in
    or_from _ _ (nat_list_eq_equiv.symm child.name.now key ∙ parts.0) (absent-child key children parts.1)

first-child : (key : List ℕ) (children : List Child) (i : ℕ) → IsFirst (λ text. bytes_eq text key) (keys_of (children_in children)) i → IsChildOf key children (Some i)
first-child key [] i h = absurd h
first-child key (child ∷ children) zero h = (omega arith, refl, λ d. h)
first-child key (child ∷ children) (suc i) h =
    let rest = first-child key children i h.1 in
    (omega (arith, rest.0), or_from _ _ h.0 rest.1, rest.2)

pub place-of-child : (key : List ℕ) (children : List Child) (place : Option ℕ) → IsPlaceAmong key (keys_of (children_in children)) place → IsChildOf key children place
place-of-child key children None h = absent-child key children h
place-of-child key children (Some i) h = first-child key children i h

module _ (key : List ℕ) (children : List Child) where
  pub child-absent : IsChildOf key children None → value_at key (children_in children) ≡ None
  child-absent absent = named-absent name_of value_of key children absent

  pub child-pushed : (name : Bor (List ℕ)) (node : NodeValue) → name.now ≡ key → IsChildOf key children None
      → children_in (children ++ record { name = name; node = node } ∷ []) ≡ put_at key (node_of node) (children_in children)
  child-pushed name node same absent =
      map-append child_of children _ ∙ ap (λ n. children_in children ++ (n, node_of node) ∷ []) same
      ∙ sym (put-absent name_of value_of key (node_of node) children absent)

  module _ (i : ℕ) (old : Child) (is : old ≡ get_or children i old) (place : IsChildOf key children (Some i)) where
    pub child-found : value_at key (children_in children) ≡ Some (node_of old.node)
    child-found = named-at name_of value_of key children i old place.0 place.1 (place.2 old) ∙ ap (λ child. Some (node_of child.node)) (sym is)

    pub child-written : (node : NodeValue) → children_in (set children i (record { name = old.name; node = node })) ≡ put_at key (node_of node) (children_in children)
    child-written node =
        put-in_place name_of value_of key children i old (record { name = old.name; node = node }) place.0 place.1 (place.2 old) (ap (λ child. child.name.now) is)

  pub names-written : (i : ℕ) (old : Child) → old ≡ get_or children i old → i < length children → (node : NodeValue) → keys_of (children_in (set children i (record { name = old.name; node = node }))) ≡ keys_of (children_in children)
  names-written i old is below node = ap (λ child. keys_of (children_in (set children i (record { name = child.name; node = node })))) is ∙ names-set children i old node below

  pub names-given : (i : ℕ) (node : NodeValue) (after : List Child) → IsChildOf key children (Some i) → IsGiven i node children after → keys_of (children_in after) ≡ keys_of (children_in children)
  names-given i node after place given =
      let d = some_child children i place.0 in
      ap (λ t. keys_of (children_in t)) (given d) ∙ names-set children i d node place.0

  pub child-given : (i : ℕ) (node : NodeValue) (after : List Child) → IsChildOf key children (Some i) → IsGiven i node children after → children_in after ≡ put_at key (node_of node) (children_in children)
  child-given i node after place given =
      let d = some_child children i place.0 in
      ap children_in (given d)
      ∙ put-in_place name_of value_of key children i d (record { name = (get_or children i d).name; node = node }) place.0 place.1 (place.2 d) refl

-- What is at a path of the nodes of a record that is being unflattened.
use Rattle.std.proofs.Common.{◌≡◌, ℕ, true, false, cond, not, ◌&&◌, List, [], ◌∷◌, Option, Some, None, is_some, refl, ap, ap₂, sym, subst, ◌∙◌, inl, inr}
use Rattle.std.specs.Str.{bytes_eq}
use Rattle.std.proofs.lemmas.Bool.{cases_Bool, true≢false}
use Rattle.std.proofs.lemmas.Slice.Eq.{bytes_eq-Decides}
use Rattle.mlr_spec.specs.Flatten.{Node, leaf, made, Nodes, no_nodes, node_and, change_child, children_of, put_in, put_path}
use Rattle.mlr_spec.specs.Tree.{Tree, absent}
use Rattle.mlr_laws.specs.Paths.{Path, are_apart, rest_after}

abbrev pub child : List ℕ → Nodes → Option Node
child name no_nodes = None
child name (node_and other node more) = cond (bytes_eq other name) (Some node) (child name more)

abbrev pub or_absent : Option Node → Node
or_absent None = leaf absent
or_absent (Some node) = node

same-name : (name : List ℕ) → bytes_eq name name ≡ true
same-name name = (bytes_eq-Decides name name).1 refl

child-same : (name : List ℕ) (f : Node → Node) (nodes : Nodes) → child name (change_child name f nodes) ≡ Some (f (or_absent (child name nodes)))
child-same name f no_nodes = ap (λ t. cond t (Some (f (leaf absent))) None) (same-name name)
child-same name f (node_and other node more) =
    elim (cases_Bool (bytes_eq other name)) as (λ _. child name (change_child name f (node_and other node more)) ≡ Some (f (or_absent (child name (node_and other node more))))) [
      | inl here ↦ rw here (rw here refl)
      | inr not_here ↦ rw not_here (rw not_here (child-same name f more))
    ]

child-other : (name other : List ℕ) (f : Node → Node) (nodes : Nodes) → bytes_eq name other ≡ false → child other (change_child name f nodes) ≡ child other nodes
child-other name other f no_nodes isnt = ap (λ t. cond t (Some (f (leaf absent))) None) isnt
child-other name other f (node_and next node more) isnt =
    elim (cases_Bool (bytes_eq next name)) as (λ _. child other (change_child name f (node_and next node more)) ≡ child other (node_and next node more)) [
      | inl here ↦
          let apart : bytes_eq next other ≡ false = ap (λ n. bytes_eq n other) ((bytes_eq-Decides next name).0 here) ∙ isnt in
          rw here (rw apart refl)
      | inr not_here ↦ rw not_here (ap (cond (bytes_eq next other) (Some node)) (child-other name other f more isnt))
    ]

-- the node at a path of one name or more
abbrev pub node_at : Path → Nodes → Option Node
node_at [] nodes = None
node_at (name ∷ []) nodes = child name nodes
node_at (name ∷ next ∷ path) nodes = elim (child name nodes) [ Some node ↦ node_at (next ∷ path) (children_of node) | None ↦ None ]

abbrev pub node_inside : Path → Node → Option Node
node_inside [] node = Some node
node_inside (name ∷ path) node = node_at (name ∷ path) (children_of node)

at-none : (path : Path) → node_at path no_nodes ≡ None
at-none [] = refl
at-none (name ∷ []) = refl
at-none (name ∷ next ∷ path) = refl

-- a node that isn't there has no nodes
or-none : (next : List ℕ) (path : Path) (found : Option Node) → node_at (next ∷ path) (children_of (or_absent found)) ≡ (elim found [ Some node ↦ node_at (next ∷ path) (children_of node) | None ↦ None ])
or-none next path None = at-none (next ∷ path)
or-none next path (Some node) = refl

module _ (value : Tree) where
  abbrev Below : List ℕ → Path → Path → Path → Nodes → Type 0
  Below name path other rest nodes = node_at other (put_in (name ∷ path) value nodes) ≡ node_inside rest (leaf value)

  below-by : (name : List ℕ) (path : Path) (next : List ℕ) (other rest : Path) (nodes : Nodes) → (rest_after path other ≡ Some rest → Below name path (name ∷ other) rest nodes)
      → rest_after (name ∷ path) (next ∷ other) ≡ Some rest → Below name path (next ∷ other) rest nodes
  below-by name path next other rest nodes same begins =
      elim (cases_Bool (bytes_eq name next)) as (λ _. Below name path (next ∷ other) rest nodes) [
        | inl is ↦ subst (λ n. Below name path (n ∷ other) rest nodes) ((bytes_eq-Decides name next).0 is) (same (sym (ap (λ t. cond t (rest_after path other) None) is) ∙ begins))
        | inr isnt ↦ absurd (let e : None ≡ Some rest = sym (ap (λ t. cond t (rest_after path other) None) isnt) ∙ begins in cc)
      ]

  below : (path : Path) (name : List ℕ) (other rest : Path) (nodes : Nodes) → rest_after path other ≡ Some rest → Below name path (name ∷ other) rest nodes
  below [] name [] rest nodes begins =
      let same : [] ≡ rest = cc in
      child-same name (put_path [] value) nodes ∙ ap (λ r. node_inside r (leaf value)) same
  below [] name (next ∷ other) rest nodes begins =
      let same : next ∷ other ≡ rest = cc in
      ap (λ found. elim found [ Some node ↦ node_at (next ∷ other) (children_of node) | None ↦ None ]) (child-same name (put_path [] value) nodes)
      ∙ ap (λ r. node_inside r (leaf value)) same
  below (step ∷ path) name [] rest nodes begins = absurd (let e : None ≡ Some rest = begins in cc)
  below (step ∷ path) name (next ∷ other) rest nodes begins =
      let later = children_of (or_absent (child name nodes)) in
      ap (λ found. elim found [ Some node ↦ node_at (next ∷ other) (children_of node) | None ↦ None ]) (child-same name (put_path (step ∷ path) value) nodes)
      ∙ below-by step path next other rest later (below path step other rest later) begins

  -- a value that was set, at its path and below
  pub set-below : (name : List ℕ) (path other rest : Path) (nodes : Nodes) → rest_after (name ∷ path) other ≡ Some rest → Below name path other rest nodes
  set-below name path [] rest nodes begins = absurd (let e : None ≡ Some rest = begins in cc)
  set-below name path (next ∷ other) rest nodes begins = below-by name path next other rest nodes (below path name other rest nodes) begins

  abbrev IsMapAt : List ℕ → Path → Path → Nodes → Type 0
  IsMapAt name path other nodes = (inner : Nodes) × (node_at other (put_in (name ∷ path) value nodes) ≡ Some (made inner))

  above-by : (name : List ℕ) (path : Path) (first : List ℕ) (other : Path) (next : List ℕ) (rest : Path) (nodes : Nodes)
      → (rest_after other path ≡ Some (next ∷ rest) → IsMapAt name path (name ∷ other) nodes) → rest_after (first ∷ other) (name ∷ path) ≡ Some (next ∷ rest) → IsMapAt name path (first ∷ other) nodes
  above-by name path first other next rest nodes same begins =
      elim (cases_Bool (bytes_eq first name)) as (λ _. IsMapAt name path (first ∷ other) nodes) [
        | inl is ↦ subst (λ n. IsMapAt name path (n ∷ other) nodes) (sym ((bytes_eq-Decides first name).0 is)) (same (sym (ap (λ t. cond t (rest_after other path) None) is) ∙ begins))
        | inr isnt ↦ absurd (let e : None ≡ Some (next ∷ rest) = sym (ap (λ t. cond t (rest_after other path) None) isnt) ∙ begins in cc)
      ]

  above : (path : Path) (name : List ℕ) (other : Path) (next : List ℕ) (rest : Path) (nodes : Nodes) → rest_after other path ≡ Some (next ∷ rest) → IsMapAt name path (name ∷ other) nodes
  above [] name [] next rest nodes begins = absurd (let e : Some [] ≡ Some (next ∷ rest) = begins in cc)
  above (step ∷ path) name [] next rest nodes begins =
      let later = children_of (or_absent (child name nodes)) in
      (change_child step (put_path path value) later, child-same name (put_path (step ∷ path) value) nodes)
  above [] name (first ∷ other) next rest nodes begins = absurd (let e : None ≡ Some (next ∷ rest) = begins in cc)
  above (step ∷ path) name (first ∷ other) next rest nodes begins =
      let inner = children_of (or_absent (child name nodes)) in
      let later = above-by step path first other next rest inner (above path step other next rest inner) begins in
      (later.0, ap (λ found. elim found [ Some node ↦ node_at (first ∷ other) (children_of node) | None ↦ None ]) (child-same name (put_path (step ∷ path) value) nodes) ∙ later.1)

  -- above its path there is a map
  pub set-above : (name : List ℕ) (path : Path) (first : List ℕ) (other : Path) (next : List ℕ) (rest : Path) (nodes : Nodes) → rest_after (first ∷ other) (name ∷ path) ≡ Some (next ∷ rest)
      → IsMapAt name path (first ∷ other) nodes
  set-above name path first other next rest nodes begins = above-by name path first other next rest nodes (above path name other next rest nodes) begins

  abbrev Stays : List ℕ → Path → Path → Nodes → Type 0
  Stays name path other nodes = node_at other (put_in (name ∷ path) value nodes) ≡ node_at other nodes

  other-child : (name next : List ℕ) (path other : Path) (nodes : Nodes) → bytes_eq name next ≡ false → Stays name path (next ∷ other) nodes
  other-child name next path [] nodes isnt = child-other name next (put_path path value) nodes isnt
  other-child name next path (step ∷ other) nodes isnt =
      ap (λ found. elim found [ Some node ↦ node_at (step ∷ other) (children_of node) | None ↦ None ]) (child-other name next (put_path path value) nodes isnt)

  apart-by : (name : List ℕ) (path : Path) (next : List ℕ) (other : Path) (nodes : Nodes) → (are_apart path other ≡ true → Stays name path (name ∷ other) nodes)
      → are_apart (name ∷ path) (next ∷ other) ≡ true → Stays name path (next ∷ other) nodes
  apart-by name path next other nodes same apart =
      elim (cases_Bool (bytes_eq name next)) as (λ _. Stays name path (next ∷ other) nodes) [
        | inl is ↦
            let equal = (bytes_eq-Decides name next).0 is in
            let turned : bytes_eq next name ≡ true = ap (λ n. bytes_eq n name) (sym equal) ∙ same-name name in
            let later : are_apart path other ≡ true =
            sym (ap₂ (λ t u. not (is_some (cond t (rest_after path other) None)) && not (is_some (cond u (rest_after other path) None))) is turned) ∙ apart in
            subst (λ n. Stays name path (n ∷ other) nodes) equal (same later)
        | inr isnt ↦ other-child name next path other nodes isnt
      ]

  beside : (path : Path) (name : List ℕ) (other : Path) (nodes : Nodes) → are_apart path other ≡ true → Stays name path (name ∷ other) nodes
  beside [] name other nodes apart = absurd (true≢false (sym apart))
  beside (step ∷ path) name [] nodes apart = absurd (true≢false (sym apart))
  beside (step ∷ path) name (next ∷ other) nodes apart =
      let found = child name nodes in
      let inner = children_of (or_absent found) in
      ap (λ found. elim found [ Some node ↦ node_at (next ∷ other) (children_of node) | None ↦ None ]) (child-same name (put_path (step ∷ path) value) nodes)
      ∙ apart-by step path next other inner (beside path step other inner) apart
      ∙ or-none next other found

  -- nothing changes at a path that is apart
  pub set-apart : (name : List ℕ) (path other : Path) (nodes : Nodes) → are_apart (name ∷ path) other ≡ true → Stays name path other nodes
  set-apart name path [] nodes apart = refl
  set-apart name path (next ∷ other) nodes apart = apart-by name path next other nodes (beside path name other nodes) apart

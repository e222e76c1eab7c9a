-- What is at a path of a record that was unflattened.
use Rattle.std.proofs.Common.{◌≡◌, ℕ, zero, suc, Bool, true, false, cond, List, [], ◌∷◌, ◌++◌, map, length, take, drop, ◌+◌, Option, Some, None, refl, ap, ap₂, sym, ◌∙◌, inl, inr}
use Rattle.std.specs.Prelude.{nat_le}
use Rattle.std.specs.List.{list_any}
use Rattle.std.specs.Option.{option_map}
use Rattle.std.specs.Str.{bytes_eq}
use Rattle.std.specs.Cmp.Lexicographic.{nat_list_eq_equiv}
use Rattle.std.proofs.lemmas.Bool.{cases_Bool, and_parts}
use Rattle.mlr_spec.specs.Flatten.{Node, made, Nodes, no_nodes, node_and, change_child, finished, finished_pairs, path_of, put_in, put_path, put_paths, unflat, with_collection}
use Rattle.mlr_spec.specs.Pairs.{keys_of}
use Rattle.mlr_spec.specs.Split.{place_in, parts_from, split_by}
use Rattle.mlr_spec.specs.Tree.{Tree, is_collection}
use Rattle.mlr_laws.specs.Paths.{Path, all_apart, are_apart, are_without_items, at_path, first_of, first_seen, has_no_items, inside, rest_after}
use Rattle.mlr_laws.proofs.Finished.{Pairs, are_small, at-finished, at-inside, made-collection, put_in-small, with_collection-small}
use Rattle.mlr_laws.proofs.Nodes.{node_at, set-above, set-apart, set-below}

-- a name spells a path of one name or more
record Spelled (separator name : List ℕ) : Type 0 where
  first : List ℕ
  more : Path
  is : path_of separator name ≡ first ∷ more

some-parts : (n : ℕ) (separator text : List ℕ) → (first : List ℕ) × (more : Path) × (parts_from n separator text ≡ first ∷ more)
some-parts zero separator text = (text, [], refl)
some-parts (suc n) separator text = at-place (place_in separator text)
  where
    at-place : (found : Option ℕ) → (first : List ℕ) × (more : Path) × ((elim found [ None ↦ text ∷ [] | Some place ↦ take place text ∷ parts_from n separator (drop (place + length separator) text) ]) ≡ first ∷ more)
    at-place None = (text, [], refl)
    at-place (Some place) = (take place text, parts_from n separator (drop (place + length separator) text), refl)

spelled : (separator name : List ℕ) → Spelled separator name
spelled separator name =
    let parts = some-parts (length name) separator name in
    let path = either (nat_le (length (split_by separator name)) 200) parts.0 parts.1 parts.2 in
    record { first = path.0; more = path.1; is = path.2 }
  where
    either : (t : Bool) (first : List ℕ) (more : Path) → split_by separator name ≡ first ∷ more
        → (f : List ℕ) × (m : Path) × (cond t (split_by separator name) (name ∷ []) ≡ f ∷ m)
    either true first more is = (first, more, is)
    either false first more is = (name, [], refl)

module _ (separator : List ℕ) where
  abbrev set : List ℕ × Tree → Nodes → Nodes
  set pair nodes = put_in (path_of separator pair.0) (with_collection pair.1) nodes

  all-small : (pairs : Pairs) (nodes : Nodes) → are_without_items pairs ≡ true → are_small nodes ≡ true → are_small (put_paths separator nodes pairs) ≡ true
  all-small [] nodes without small = small
  all-small (pair ∷ pairs) nodes without small =
      let parts = and_parts (has_no_items pair.1) (are_without_items pairs) without in
      all-small pairs (set pair nodes) parts.1 (put_in-small (path_of separator pair.0) (with_collection pair.1) nodes (with_collection-small pair.1 parts.0) small)

  -- fields apart from a path change nothing there
  all-stay : (path : Path) (pairs : Pairs) (nodes : Nodes) → all_apart separator path pairs ≡ true → node_at path (put_paths separator nodes pairs) ≡ node_at path nodes
  all-stay path [] nodes apart = refl
  all-stay path (pair ∷ pairs) nodes apart =
      let parts = and_parts (are_apart (path_of separator pair.0) path) (all_apart separator path pairs) apart in
      let s = spelled separator pair.0 in
      all-stay path pairs (set pair nodes) parts.1
      ∙ ap (λ p. node_at path (put_in p (with_collection pair.1) nodes)) s.is
      ∙ set-apart (with_collection pair.1) s.first s.more path nodes (sym (ap (λ p. are_apart p path) s.is) ∙ parts.0)

  put_paths-append : (pairs more : Pairs) (nodes : Nodes) → put_paths separator nodes (pairs ++ more) ≡ put_paths separator (put_paths separator nodes pairs) more
  put_paths-append [] more nodes = refl
  put_paths-append (pair ∷ pairs) more nodes = put_paths-append pairs more (set pair nodes)

  module _ (pairs : Pairs) (without : are_without_items pairs ≡ true) where
    at-unflat : (path : Path) → at_path path (unflat separator pairs) ≡ option_map finished (node_at path (put_paths separator no_nodes pairs))
    at-unflat path = at-finished path (put_paths separator no_nodes pairs) (all-small pairs no_nodes without refl)

  nothing-there : (path : Path) → node_at path no_nodes ≡ None
  nothing-there [] = refl
  nothing-there (name ∷ []) = refl
  nothing-there (name ∷ next ∷ path) = refl

  -- a path that no field shares has nothing
  pub path-none : (pairs : Pairs) (path : Path) → are_without_items pairs ≡ true → all_apart separator path pairs ≡ true → at_path path (unflat separator pairs) ≡ None
  path-none pairs path without apart = at-unflat pairs without path ∙ ap (option_map finished) (all-stay path pairs no_nodes apart ∙ nothing-there path)

  module _ (before following : Pairs) (name : List ℕ) (value : Tree) (path : Path) (without : are_without_items (before ++ (name, value) ∷ following) ≡ true) (apart : all_apart separator path following ≡ true) where
    abbrev all : Pairs
    all = before ++ (name, value) ∷ following

    abbrev so_far : Nodes
    so_far = put_paths separator no_nodes before

    last-set : node_at path (put_paths separator no_nodes all) ≡ node_at path (put_in (path_of separator name) (with_collection value) so_far)
    last-set = ap (node_at path) (put_paths-append before ((name, value) ∷ following) no_nodes) ∙ all-stay path following (set (name, value) so_far) apart

    -- at its path and below the last field has its value
    pub path-below : (rest : Path) → rest_after (path_of separator name) path ≡ Some rest → has_no_items value ≡ true → at_path path (unflat separator all) ≡ inside rest (with_collection value)
    path-below rest begins none =
        let s = spelled separator name in
        at-unflat all without path
        ∙ ap (option_map finished)
        (last-set ∙ ap (λ p. node_at path (put_in p (with_collection value) so_far)) s.is
        ∙ set-below (with_collection value) s.first s.more path rest so_far (sym (ap (λ p. rest_after p path) s.is) ∙ begins))
        ∙ at-inside rest (with_collection value) (with_collection-small value none)

    -- above its path there is a map, or an array
    pub path-above : (first : List ℕ) (other : Path) (next : List ℕ) (rest : Path) → path ≡ first ∷ other → rest_after path (path_of separator name) ≡ Some (next ∷ rest)
        → (made_value : Tree) × (at_path path (unflat separator all) ≡ Some made_value) × (is_collection made_value ≡ true)
    path-above first other next rest shape begins =
        let s = spelled separator name in
        let there = set-above (with_collection value) s.first s.more first other next rest so_far (sym (ap₂ (λ q p. rest_after q p) shape s.is) ∙ begins) in (
          finished (made there.0),
          at-unflat all without path
              ∙ ap (option_map finished)
              (last-set ∙ ap₂ (λ q p. node_at q (put_in p (with_collection value) so_far)) shape s.is ∙ there.1),
          made-collection there.0,
        )

-- the names of a record that was unflattened
abbrev names_in : Nodes → List (List ℕ)
names_in no_nodes = []
names_in (node_and name node more) = name ∷ names_in more

names-finished : (nodes : Nodes) → keys_of (finished_pairs nodes) ≡ names_in nodes
names-finished no_nodes = refl
names-finished (node_and name node more) = ap (λ names. name ∷ names) (names-finished more)

names-changed : (name : List ℕ) (f : Node → Node) (nodes : Nodes) → names_in (change_child name f nodes) ≡ cond (list_any (bytes_eq name) (names_in nodes)) (names_in nodes) (names_in nodes ++ name ∷ [])
names-changed name f no_nodes = refl
names-changed name f (node_and other node more) =
    elim (cases_Bool (bytes_eq other name)) as (λ _. names_in (change_child name f (node_and other node more)) ≡ cond (list_any (bytes_eq name) (other ∷ names_in more)) (other ∷ names_in more) (other ∷ names_in more ++ name ∷ [])) [
      | inl here ↦ rw here (rw (nat_list_eq_equiv.symm name other ∙ here) refl)
      | inr not_here ↦ rw not_here (rw (nat_list_eq_equiv.symm name other ∙ not_here) (ap (λ names. other ∷ names) (names-changed name f more) ∙ onto (list_any (bytes_eq name) (names_in more))))
    ]
  where
    onto : (t : Bool) → other ∷ cond t (names_in more) (names_in more ++ name ∷ []) ≡ cond t (other ∷ names_in more) (other ∷ names_in more ++ name ∷ [])
    onto true = refl
    onto false = refl

pub names-order : (separator : List ℕ) (pairs : Pairs) → keys_of (unflat separator pairs) ≡ first_seen [] (map (λ pair. first_of (path_of separator pair.0)) pairs)
names-order separator pairs = names-finished (put_paths separator no_nodes pairs) ∙ order pairs no_nodes
  where
    order : (pairs : Pairs) (nodes : Nodes) → names_in (put_paths separator nodes pairs) ≡ first_seen (names_in nodes) (map (λ pair. first_of (path_of separator pair.0)) pairs)
    order [] nodes = refl
    order (pair ∷ pairs) nodes =
        let s = spelled separator pair.0 in
        let next = put_in (path_of separator pair.0) (with_collection pair.1) nodes in
        let names : names_in next ≡ cond (list_any (bytes_eq s.first) (names_in nodes)) (names_in nodes) (names_in nodes ++ s.first ∷ []) =
        ap (λ p. names_in (put_in p (with_collection pair.1) nodes)) s.is ∙ names-changed s.first (put_path s.more (with_collection pair.1)) nodes in
        order pairs next
        ∙ ap (λ names. first_seen names (map (λ pair. first_of (path_of separator pair.0)) pairs)) (names ∙ ap (λ p. cond (list_any (bytes_eq (first_of p)) (names_in nodes)) (names_in nodes) (names_in nodes ++ first_of p ∷ [])) (sym s.is))

pub last-without : (before following : Pairs) (name : List ℕ) (value : Tree) → are_without_items (before ++ (name, value) ∷ following) ≡ true → has_no_items value ≡ true
last-without [] following name value without = (and_parts (has_no_items value) (are_without_items following) without).0
last-without (pair ∷ before) following name value without =
    last-without before following name value (and_parts (has_no_items pair.1) (are_without_items (before ++ (name, value) ∷ following)) without).1

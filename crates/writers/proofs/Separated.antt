-- Texts with a separator between each two, and one text more.
use Rattle.std.proofs.Common.{◌≡◌, ℕ, if◌then◌else◌, List, [], ◌∷◌, ◌++◌, map, refl, ap, sym, ◌∙◌, append_assoc}
use Rattle.std.proofs.lemmas.List.{append-nil, map-append}
use Rattle.std.proofs.lemmas.List.Elements.{filter-append}
use Rattle.mlr_spec.specs.Json.{joined}
use Rattle.writers.specs.Joined.{are_any, separated}
use Rattle.writers.specs.Runs.{filled, tables}

pub joined-append : (separator : List ℕ) (texts : List (List ℕ)) (text : List ℕ) → joined separator (texts ++ text ∷ []) ≡ joined separator texts ++ (separated separator (are_any texts) ++ text)
joined-append separator [] text = refl
joined-append separator (first ∷ []) text = append_assoc first separator text
joined-append separator (first ∷ next ∷ texts) text =
    ap (λ t. (first ++ separator) ++ t) (joined-append separator (next ∷ texts) text)
    ∙ sym (append_assoc (first ++ separator) (joined separator (next ∷ texts)) (separator ++ text))

map-any : {A B : Type 0} (f : A → B) (xs : List A) → are_any (map f xs) ≡ are_any xs
map-any f [] = refl
map-any f (x ∷ xs) = refl

-- the text of a list more
module _ {A : Type 0} where
  pub tables-append : (table : List A → List ℕ) (lists : List (List A)) (list : List A)
      → tables table (lists ++ list ∷ []) ≡ tables table lists ++ (if are_any list then separated (10 ∷ []) (are_any (filled lists)) ++ table list else [])
  tables-append table lists [] =
      ap (λ t. joined (10 ∷ []) (map table t)) (filter-append are_any lists ([] ∷ []) ∙ append-nil (filled lists)) ∙ sym (append-nil (tables table lists))
  tables-append table lists (x ∷ xs) =
      ap (λ t. joined (10 ∷ []) (map table t)) (filter-append are_any lists ((x ∷ xs) ∷ []))
      ∙ ap (joined (10 ∷ [])) (map-append table (filled lists) ((x ∷ xs) ∷ []))
      ∙ joined-append (10 ∷ []) (map table (filled lists)) (table (x ∷ xs))
      ∙ ap (λ any. tables table lists ++ (separated (10 ∷ []) any ++ table (x ∷ xs))) (map-any table (filled lists))

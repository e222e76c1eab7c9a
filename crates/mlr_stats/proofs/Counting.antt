-- The number of the values of each text, with one more value.
use Rattle.std.proofs.Common.{◌≡◌, ℕ, zero, suc, false, ◌+◌, ◌<◌, ◌≤◌, List, [], ◌∷◌, ◌++◌, map, set, length, Option, Some, None, slice_get, get_or, refl, ap, ap₂, sym, ◌∙◌, arith}
use Rattle.std.specs.List.{list_any}
use Rattle.std.specs.Option.{option_map}
use Rattle.std.proofs.lemmas.List.{length-append, length-map, map-append}
use Rattle.std.proofs.lemmas.Option.{get_or_from_slice_get, slice_get-map}
use Rattle.mlr_spec.specs.Tree.{Tree}
use Rattle.mlr_value.specs.Value.{tree_of}
use Rattle.mlr_value.specs.declared.value.Value.{Value}
use Rattle.text_forms.specs.Shown.{shown}
use Rattle.mlr_groups.specs.Grouping.{texts_eq}
use Rattle.mlr_groups.specs.Keys.{entered, key_of}
use Rattle.mlr_groups.specs.Tallying.{capped}
use Rattle.mlr_groups.proofs.Grouping.{keys-entered, place-told}
use Rattle.mlr_groups.proofs.PerGroup.{place-known, place-new, states-known, states-new}
use Rattle.mlr_stats.specs.Kept.{CountsTexts, first_of}
use Rattle.mlr_stats.specs.Statistic.{own_text, texts_of, with_text}
use Rattle.mlr_stats.specs.declared.text_counts.TextCounts.{TextCounts}

abbrev count_of : List Tree → ℕ
count_of values = capped (length values)

abbrev image : Value → Option Tree
image value = Some (tree_of value)

-- setting what is there changes nothing
set-same : {A : Type 0} (xs : List A) (p : ℕ) (x : A) → slice_get xs p ≡ Some x → set xs p x ≡ xs
set-same [] p x at = refl
set-same (y ∷ xs) zero x at = let e : y ≡ x = cc in ap (λ z. z ∷ xs) (sym e)
set-same (y ∷ xs) (suc p) x at = ap (λ zs. y ∷ zs) (set-same xs p x at)

-- the first of some values stays the first
first-more : (values : List Tree) (value first : Tree) → first_of values ≡ Some first → first_of (values ++ value ∷ []) ≡ first_of values
first-more [] value first is = absurd (let e : None ≡ Some first = is in cc)
first-more (other ∷ values) value first is = refl

some-image : (o : Option Value) (first : Option Tree) → option_map image o ≡ Some first → (tree : Tree) × (first ≡ Some tree)
some-image None first is = absurd (let e : None ≡ Some first = is in cc)
some-image (Some value) first is = (tree_of value, (let e : Some (tree_of value) ≡ first = cc in sym e))

module _ (values : List Tree) (value : Tree) where
  text : List (List ℕ)
  text = shown value ∷ []

  module _ (kept : TextCounts) (counts : CountsTexts values kept) (p : ℕ) (table : List (List ℕ)) (entering : table ≡ entered kept.table (key_of (shown value ∷ []))) (found : slice_get table p ≡ Some (key_of (shown value ∷ []))) where
    -- the keys of the texts
    pub table-more : table ≡ map key_of (texts_of (values ++ value ∷ []))
    table-more = entering ∙ ap (λ keys. entered keys (key_of (shown value ∷ []))) counts.table ∙ keys-entered own_text values value (shown value ∷ []) refl

    at : slice_get (texts_of (values ++ value ∷ [])) p ≡ Some (shown value ∷ [])
    at = place-told (texts_of (values ++ value ∷ [])) p (shown value ∷ []) (ap (λ keys. slice_get keys p) (sym table-more) ∙ found)

    as-many : length kept.counts.items ≡ length (texts_of values)
    as-many = ap length counts.counts ∙ length-map (texts_of values) (λ text. count_of (with_text values text))

    module _ (below : p < length kept.counts.items) where
      there : slice_get (texts_of values) p ≡ Some (shown value ∷ [])
      there = place-known own_text values value (shown value ∷ []) refl p at (omega (arith, below, as-many))

      -- the number of the earlier values of this text
      pub count-known : (default : ℕ) → get_or kept.counts.items p default ≡ count_of (with_text values (shown value ∷ []))
      count-known default =
          ap (λ ns. get_or ns p default) counts.counts
          ∙ get_or_from_slice_get (map (λ text. count_of (with_text values text)) (texts_of values)) p (count_of (with_text values (shown value ∷ []))) default
          (slice_get-map (λ text. count_of (with_text values text)) (texts_of values) p ∙ ap (option_map (λ text. count_of (with_text values text))) there)

      pub counts-known : (count : ℕ) → count ≡ capped (length (with_text values (shown value ∷ [])) + 1)
          → set kept.counts.items p count ≡ map (λ text. capped (length (with_text (values ++ value ∷ []) text))) (texts_of (values ++ value ∷ []))
      counts-known count is =
          ap (λ ns. set ns p count) counts.counts
          ∙ ap (set (map (λ text. count_of (with_text values text)) (texts_of values)) p) (is ∙ ap capped (sym (length-append (with_text values (shown value ∷ [])) (value ∷ []))))
          ∙ sym (states-known own_text values value (shown value ∷ []) refl count_of p there)

      firsts-at : slice_get (map (λ text. first_of (with_text values text)) (texts_of values)) p ≡ Some (first_of (with_text values (shown value ∷ [])))
      firsts-at = slice_get-map (λ text. first_of (with_text values text)) (texts_of values) p ∙ ap (option_map (λ text. first_of (with_text values text))) there

      is-some : (tree : Tree) × (first_of (with_text values (shown value ∷ [])) ≡ Some tree)
      is-some =
          some-image (slice_get kept.firsts.items p) (first_of (with_text values (shown value ∷ [])))
          (sym (slice_get-map image kept.firsts.items p) ∙ ap (λ firsts. slice_get firsts p) counts.firsts ∙ firsts-at)

      pub firsts-known : map image kept.firsts.items ≡ map (λ text. first_of (with_text (values ++ value ∷ []) text)) (texts_of (values ++ value ∷ []))
      firsts-known =
          counts.firsts
          ∙ sym (set-same (map (λ text. first_of (with_text values text)) (texts_of values)) p (first_of (with_text values (shown value ∷ []))) firsts-at)
          ∙ ap (set (map (λ text. first_of (with_text values text)) (texts_of values)) p) (sym (first-more (with_text values (shown value ∷ [])) value is-some.0 is-some.1))
          ∙ sym (states-known own_text values value (shown value ∷ []) refl first_of p there)

    module _ (following : length kept.counts.items ≤ p) where
      free : list_any (texts_eq (shown value ∷ [])) (texts_of values) ≡ false
      free =
          place-new own_text values value (shown value ∷ []) refl p at (omega (arith, following, as-many))

      pub counts-new : kept.counts.items ++ 1 ∷ [] ≡ map (λ text. capped (length (with_text (values ++ value ∷ []) text))) (texts_of (values ++ value ∷ []))
      counts-new = ap (λ ns. ns ++ 1 ∷ []) counts.counts ∙ sym (states-new own_text values value (shown value ∷ []) refl count_of free)

      pub firsts-new : (copy : Value) → tree_of copy ≡ value → map image (kept.firsts.items ++ copy ∷ []) ≡ map (λ text. first_of (with_text (values ++ value ∷ []) text)) (texts_of (values ++ value ∷ []))
      firsts-new copy is =
          map-append image kept.firsts.items (copy ∷ [])
          ∙ ap₂ (λ firsts tree. firsts ++ Some tree ∷ []) counts.firsts is
          ∙ sym (states-new own_text values value (shown value ∷ []) refl first_of free)

-- How one more item at the end changes the groups and their keys. The items are records, or contain them.
use Rattle.std.proofs.Common.{◌≡◌, ℕ, zero, suc, ◌<◌, Bool, true, false, cond, List, [], ◌∷◌, ◌++◌, map, length, Option, Some, None, slice_get, refl, ap, sym, subst, ◌∙◌, inl, inr, arith}
use Rattle.std.specs.List.{list_any, filter_map}
use Rattle.std.specs.Option.{option_map}
use Rattle.std.proofs.lemmas.Bool.{cases_Bool}
use Rattle.std.proofs.lemmas.List.{append-nil, map-append}
use Rattle.std.proofs.lemmas.List.Elements.{filter_map-append}
use Rattle.mlr_groups.specs.declared.group_by.GroupBy.{GroupBy}
use Rattle.mlr_groups.specs.declared.group_by.GroupBy.TheVariants as group
use Rattle.mlr_groups.specs.Grouping.{Fields, common_in, texts_eq, each_once, groups_in}
use Rattle.mlr_groups.specs.Keys.{key_of, entered}
use Rattle.mlr_groups.proofs.KeyTexts.{among-keys, key-injective, texts_eq-Decides}
use Rattle.mlr_groups.proofs.Once.{each_once-known, each_once-new}
use Rattle.mlr_groups.proofs.Tables.{entered-known, entered-new}

module _ {X : Type 0} (common : X → Option (List (List ℕ))) where
  -- the groups of items, where each item has some texts in common with its group or is in none
  abbrev pub groups_of : List X → List (List (List ℕ))
  groups_of items = each_once texts_eq (filter_map common items)

  module _ (before : List X) (item : X) where
    texts-last : filter_map common (before ++ item ∷ []) ≡ filter_map common before ++ filter_map common (item ∷ [])
    texts-last = filter_map-append common before (item ∷ [])

    -- An item in no group leaves the groups as they are.
    pub groups-none : common item ≡ None → groups_of (before ++ item ∷ []) ≡ groups_of before
    groups-none none =
        ap (each_once texts_eq) (texts-last ∙ rw none (append-nil (filter_map common before)))

    module _ (texts : List (List ℕ)) (is : common item ≡ Some texts) where
      texts-more : filter_map common (before ++ item ∷ []) ≡ filter_map common before ++ texts ∷ []
      texts-more = texts-last ∙ rw is refl

      -- An item of a known group does so too.
      pub groups-known : list_any (texts_eq texts) (groups_of before) ≡ true → groups_of (before ++ item ∷ []) ≡ groups_of before
      groups-known known =
          ap (each_once texts_eq) texts-more ∙ each_once-known texts_eq texts_eq-Decides (filter_map common before) texts known

      -- A new group is added at the end.
      pub groups-new : list_any (texts_eq texts) (groups_of before) ≡ false → groups_of (before ++ item ∷ []) ≡ groups_of before ++ texts ∷ []
      groups-new new =
          ap (each_once texts_eq) texts-more ∙ each_once-new texts_eq texts_eq-Decides (filter_map common before) texts new

      -- The key of an item's group is entered in the keys of the groups.
      pub keys-entered : entered (map key_of (groups_of before)) (key_of texts) ≡ map key_of (groups_of (before ++ item ∷ []))
      keys-entered =
          elim (cases_Bool (list_any (texts_eq texts) (groups_of before))) as (λ _. entered (map key_of (groups_of before)) (key_of texts) ≡ map key_of (groups_of (before ++ item ∷ []))) [
            | inl known ↦
                entered-known (map key_of (groups_of before)) (key_of texts) (among-keys texts (groups_of before) ∙ known)
                ∙ ap (map key_of) (sym (groups-known known))
            | inr new ↦
                entered-new (map key_of (groups_of before)) (key_of texts) (among-keys texts (groups_of before) ∙ new)
                ∙ sym (map-append key_of (groups_of before) (texts ∷ []))
                ∙ ap (map key_of) (sym (groups-new new))
          ]

-- a key that was made is the key of the record's group, and without a key the record is in no group
pub group-told : (start key : List ℕ) (group : Option (List (List ℕ))) (has : Bool) → start ≡ [] → option_map (λ texts. start ++ key_of texts) group ≡ cond has (Some key) None → has ≡ true
    → (texts : List (List ℕ)) × (group ≡ Some texts) × (key ≡ key_of texts)
group-told start key None has empty made is = absurd (let e : None ≡ Some key = made ∙ ap (λ t. cond t (Some key) None) is in cc)
group-told start key (Some texts) has empty made is =
    let e : Some (start ++ key_of texts) ≡ Some key = made ∙ ap (λ t. cond t (Some key) None) is in
    let same : start ++ key_of texts ≡ key = cc in
    (texts, refl, sym same ∙ ap (λ s. s ++ key_of texts) empty)

pub none-told : (start key : List ℕ) (group : Option (List (List ℕ))) (has : Bool) → option_map (λ texts. start ++ key_of texts) group ≡ cond has (Some key) None → has ≡ false → group ≡ None
none-told start key None has made isnt = refl
none-told start key (Some texts) has made isnt = absurd (let e : Some (start ++ key_of texts) ≡ None = made ∙ ap (λ t. cond t (Some key) None) isnt in cc)

-- the place of a key is the place of its texts
pub place-told : (groups : List (List (List ℕ))) (p : ℕ) (texts : List (List ℕ)) → slice_get (map key_of groups) p ≡ Some (key_of texts) → slice_get groups p ≡ Some texts
place-told [] p texts at = absurd (let e : None ≡ Some (key_of texts) = at in cc)
place-told (group ∷ groups) zero texts at = let e : key_of group ≡ key_of texts = cc in ap Some (key-injective group texts e)
place-told (group ∷ groups) (suc p) texts at = place-told groups p texts at

-- By the texts of no fields all records are in one group, which is the first.
abbrev IsOneGroup : GroupBy → List Fields → Fields → Type 0
IsOneGroup by before fields = (groups_in by (before ++ fields ∷ []) ≡ groups_in by before) × (common_in by fields ≡ Some []) × (slice_get (groups_in by (before ++ fields ∷ [])) 0 ≡ Some [])

one-unnamed : (before : List Fields) (fields : Fields) → 0 < length (groups_in (group.Texts []) before) → IsOneGroup (group.Texts []) before fields
one-unnamed [] fields there = absurd (omega arith)
one-unnamed (first ∷ before) fields there = (groups-known (common_in (group.Texts [])) (first ∷ before) fields [] refl refl, refl, refl)

pub one-group : (by : GroupBy) (before : List Fields) (fields : Fields) → by ≡ group.Texts [] → 0 < length (groups_in by before) → IsOneGroup by before fields
one-group by before fields all = subst (λ by. 0 < length (groups_in by before) → IsOneGroup by before fields) (sym all) (one-unnamed before fields)

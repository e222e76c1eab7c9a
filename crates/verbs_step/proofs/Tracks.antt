-- What a value makes and what is kept of it, track by track.
use Rattle.std.proofs.Common.{◌≡◌, ℕ, ◌+◌, ◌<◌, List, [], ◌∷◌, ◌++◌, map, length, take, drop, set, get_or, Option, Some, refl, ap, ap₂, sym, ◌∙◌, arith, append_assoc}
use Rattle.std.specs.Option.{option_map}
use Rattle.std.proofs.lemmas.List.{map-append, take_more, drop_more, take_more_set, drop-set-lt}
use Rattle.mlr_spec.specs.Tree.{Tree}
use Rattle.mlr_value.specs.Value.{tree_of}
use Rattle.mlr_value.specs.declared.value.Value.{Value}
use Rattle.verbs_step.specs.Kept.{kept, kept_after, made_from}
use Rattle.verbs_step.specs.Made.{kept_by, made_by, trees_of}
use Rattle.verbs_step.specs.declared.track.Track.{Track}

module _ (value : Tree) (first tracks : List Track) (place : ℕ) (any : Track) (below : place < length first) (room : place < length tracks) (left : drop place tracks ≡ drop place first) where
  split : get_or tracks place any ∷ drop (place + 1) tracks ≡ get_or first place any ∷ drop (place + 1) first
  split = sym (drop_more tracks place any room) ∙ left ∙ drop_more first place any below

  same : get_or tracks place any ≡ get_or first place any
  same = let e = split in cc

  more : (taken : List Track) → taken ≡ take place first → map kept (take (place + 1) first) ≡ map kept taken ++ kept (get_or tracks place any) ∷ []
  more taken is =
      ap (map kept) (take_more first place any below) ∙ map-append kept (take place first) (get_or first place any ∷ [])
      ∙ ap₂ (λ xs x. map kept xs ++ kept x ∷ []) (sym is) (sym same)

  pub made-more : (start made : List (Option Value)) (one : Value)
      → trees_of made ≡ trees_of start ++ made_by (Some value) (map kept (take place first))
      → tree_of one ≡ made_from value (kept (get_or tracks place any))
      → trees_of (made ++ Some one ∷ []) ≡ trees_of start ++ made_by (Some value) (map kept (take (place + 1) first))
  made-more start made one so_far makes =
      map-append (option_map tree_of) made (Some one ∷ [])
      ∙ ap₂ (λ xs x. xs ++ Some x ∷ []) so_far makes
      ∙ append_assoc (trees_of start) (made_by (Some value) (map kept (take place first))) (Some (made_from value (kept (get_or tracks place any))) ∷ [])
      ∙ ap (λ more. trees_of start ++ more) (sym (map-append (λ kept. Some (made_from value kept)) (map kept (take place first)) (kept (get_or tracks place any) ∷ [])))
      ∙ ap (λ keeps. trees_of start ++ made_by (Some value) keeps) (sym (more (take place first) refl))

  pub kept-next : (new : Track)
      → map kept (take place tracks) ≡ kept_by (Some value) (map kept (take place first))
      → kept new ≡ kept_after value (kept (get_or tracks place any))
      → map kept (take (place + 1) (set tracks place new)) ≡ kept_by (Some value) (map kept (take (place + 1) first))
  kept-next new so_far keeps =
      ap (map kept) (take_more_set tracks place new room)
      ∙ map-append kept (take place tracks) (new ∷ [])
      ∙ ap₂ (λ xs x. xs ++ x ∷ []) so_far keeps
      ∙ sym (map-append (kept_after value) (map kept (take place first)) (kept (get_or tracks place any) ∷ []))
      ∙ ap (kept_by (Some value)) (sym (more (take place first) refl))

  pub left-next : (new : Track) → drop (place + 1) (set tracks place new) ≡ drop (place + 1) first
  left-next new = drop-set-lt (place + 1) tracks place new (omega arith) ∙ (let e = split in cc)

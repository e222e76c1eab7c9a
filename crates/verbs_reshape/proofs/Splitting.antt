-- A record that is split into the selected fields and the others.
use Rattle.std.proofs.Common.{◌≡◌, ℕ, Bool, true, false, not, List, [], ◌∷◌, ◌++◌, Some, None, cond, length, map, drop, refl, ap, ap₂, sym, subst, ◌∙◌, inl, inr}
use Rattle.std.specs.List.{cons_option, filter}
use Rattle.std.specs.Option.{option_map}
use Rattle.std.specs.Str.{bytes_eq}
use Rattle.std.proofs.lemmas.Bool.{cases_Bool}
use Rattle.std.proofs.lemmas.List.{drop-map}
use Rattle.std.proofs.Math.Seq.{drop-append_seam}
use Rattle.mlr_pattern.specs.Several.{patterns_in}
use Rattle.mlr_record.specs.declared.record.Field.{Field}
use Rattle.mlr_record.specs.Fields.{pair_of, pairs_of}
use Rattle.mlr_spec.specs.Pairs.{are_distinct, keys_of, remove_at, value_at}
use Rattle.mlr_spec.specs.Tree.{Tree}
use Rattle.mlr_spec.proofs.Pairs.{are_distinct-remove}
use Rattle.mlr_spec.proofs.Splitting.{cases_Option}
use Rattle.verbs_base.specs.Choosing.{dropped, named, picked}
use Rattle.verbs_base.specs.Records.{Fields}
use Rattle.verbs_base.proofs.Picking.{dropped-more, dropped-none, picked-more}
use Rattle.verbs_pattern.specs.Cut.{is_kept}
use Rattle.verbs_reshape.specs.ToLong.{long_record, or_itself, others, selected, to_long}
use Rattle.verbs_reshape.specs.declared.to_long.LongFields.{LongFields}
use Rattle.verbs_reshape.specs.declared.to_long.LongFields.TheVariants.{Names, Patterns}
use Rattle.verbs_reshape.specs.declared.to_long.ToLong.{ToLong}

-- the fields after the first so many, which are the picked ones
pub dropped-rest : (names : List (List ℕ)) (pairs : Fields) (fields : List Field) (count : ℕ) → pairs_of fields ≡ picked names pairs ++ dropped names pairs → count ≡ length (picked names pairs)
    → pairs_of (drop count fields) ≡ dropped names pairs
dropped-rest names pairs fields count all is =
    sym (drop-map pair_of count fields) ∙ ap (drop count) all ∙ ap (λ n. drop n (picked names pairs ++ dropped names pairs)) is ∙ drop-append_seam (picked names pairs) (dropped names pairs)

-- if no field passes a test, all pass its opposite
none-passes : (test : List ℕ × Tree → Bool) (pairs : Fields) → filter test pairs ≡ [] → filter (λ pair. not (test pair)) pairs ≡ pairs
none-passes test [] none = refl
none-passes test (pair ∷ pairs) none =
    elim (cases_Bool (test pair)) as (λ _. filter (λ pair. not (test pair)) (pair ∷ pairs) ≡ pair ∷ pairs) [
      | inl passes ↦ absurd (let e : pair ∷ filter test pairs ≡ [] = now true passes in cc)
      | inr fails ↦ rw fails (ap (λ left. pair ∷ left) (none-passes test pairs (now false fails)))
    ]
  where
    now : (t : Bool) → test pair ≡ t → cond t (pair ∷ filter test pairs) (filter test pairs) ≡ []
    now t is = subst (λ t. cond t (pair ∷ filter test pairs) (filter test pairs) ≡ []) is none

removed-none : (name : List ℕ) (pairs : Fields) → value_at name pairs ≡ None → remove_at name pairs ≡ pairs
removed-none name [] none = refl
removed-none name (pair ∷ pairs) none =
    elim (cases_Bool (bytes_eq pair.0 name)) as (λ _. remove_at name (pair ∷ pairs) ≡ pair ∷ pairs) [
      | inl here ↦ absurd (let e : Some pair.1 ≡ None = now true here in cc)
      | inr other ↦ rw other (ap (λ left. pair ∷ left) (removed-none name pairs (now false other)))
    ]
  where
    now : (t : Bool) → bytes_eq pair.0 name ≡ t → cond t (Some pair.1) (value_at name pairs) ≡ None
    now t is = subst (λ t. cond t (Some pair.1) (value_at name pairs) ≡ None) is none

-- if no field has one of the names, none is dropped
none-named : (names : List (List ℕ)) (pairs : Fields) → are_distinct (keys_of pairs) ≡ true → picked names pairs ≡ [] → dropped names pairs ≡ pairs
none-named [] pairs distinct none = dropped-none pairs
none-named (name ∷ names) pairs distinct none =
    let first : cons_option (named pairs name) (picked names (remove_at name pairs)) ≡ [] = sym (picked-more name pairs distinct names) ∙ none in
    elim (cases_Option (value_at name pairs)) as (λ _. dropped (name ∷ names) pairs ≡ pairs) [
      | inl absent ↦
          let same = removed-none name pairs absent in
          let left : picked names (remove_at name pairs) ≡ [] = sym (ap (λ v. cons_option (option_map (λ value. (name, value)) v) (picked names (remove_at name pairs))) absent) ∙ first in
          dropped-more name names pairs distinct
          ∙ none-named names (remove_at name pairs) (are_distinct-remove name pairs distinct) left
          ∙ same
      | inr found ↦
          absurd (let e : (name, found.0) ∷ picked names (remove_at name pairs) ≡ [] = sym (ap (λ v. cons_option (option_map (λ value. (name, value)) v) (picked names (remove_at name pairs))) found.1) ∙ first in cc)
    ]

-- a record without a selected field passes
none-selected : (which : LongFields) (fields : Fields) → are_distinct (keys_of fields) ≡ true → selected which fields ≡ [] → others which fields ≡ fields
none-selected (Names names) fields distinct none = none-named names fields distinct none
none-selected (Patterns patterns) fields distinct none = none-passes (is_kept (patterns_in patterns) false) fields none

or-same : (make : List ℕ × Tree → Fields) (chosen left fields : Fields) → (chosen ≡ [] → left ≡ fields) → or_itself left (map make chosen) ≡ or_itself fields (map make chosen)
or-same make [] left fields same = ap (λ all. all ∷ []) (same refl)
or-same make (field ∷ chosen) left fields same = refl

-- what the selected fields and the others give
pub long-made : (options : ToLong) (fields chosen left : Fields) → are_distinct (keys_of fields) ≡ true → chosen ≡ selected options.fields fields → left ≡ others options.fields fields
    → or_itself left (map (long_record options left) chosen) ≡ to_long options fields
long-made options fields chosen left distinct is rest =
    ap₂ (λ chosen left. or_itself left (map (long_record options left) chosen)) is rest
    ∙ or-same (long_record options (others options.fields fields)) (selected options.fields fields) (others options.fields fields) fields (none-selected options.fields fields distinct)

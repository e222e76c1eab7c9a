-- The records that `reshape` to long makes of one, as `reshape` to wide sees them.
use Rattle.std.proofs.Common.{◌≡◌, ℕ, Bool, true, false, not, cond, if◌then◌else◌, ◌&&◌, ◌||◌, List, [], ◌∷◌, ◌++◌, Some, None, is_some, refl, ap, ap₂, ◌∙◌, append_assoc}
use Rattle.std.specs.List.{flat_map}
use Rattle.std.specs.Option.{option_map}
use Rattle.std.specs.Str.{bytes_eq}
use Rattle.std.proofs.lemmas.Bool.{or_parts}
use Rattle.std.proofs.lemmas.List.{append-nil}
use Rattle.std.proofs.lemmas.List.Elements.{filter-append}
use Rattle.std.proofs.lemmas.Slice.Eq.{bytes_eq-Decides}
use Rattle.mlr_event.specs.Reading.{is_among}
use Rattle.mlr_event.proofs.Distinct.{bytes_eq-swap}
use Rattle.mlr_event.proofs.Putting.{value_at-free}
use Rattle.mlr_groups.specs.Grouping.{common_in}
use Rattle.mlr_groups.specs.declared.group_by.GroupBy.TheVariants.{Others}
use Rattle.mlr_spec.specs.JsonGrammar.{text_value}
use Rattle.mlr_spec.specs.Pairs.{keys_of, put_at, value_at}
use Rattle.mlr_spec.specs.Tree.{Tree}
use Rattle.mlr_spec.proofs.Pairs.{put_at-none}
use Rattle.text_forms.specs.Shown.{shown}
use Rattle.verbs_base.specs.Choosing.{dropped}
use Rattle.verbs_base.specs.Records.{Fields}
use Rattle.verbs_reshape.specs.ToLong.{long_record}
use Rattle.verbs_reshape.specs.ToWide.{both, pair_in, paired}
use Rattle.verbs_reshape.specs.declared.to_long.ToLong.{ToLong}
use Rattle.shape_laws.specs.Back.{back}

-- the texts of all fields
abbrev pub texts : Fields → List (List ℕ)
texts fields = flat_map (λ field. field.0 ∷ shown field.1 ∷ []) fields

self : (name : List ℕ) → bytes_eq name name ≡ true
self name = (bytes_eq-Decides name name).1 refl

either : (b : Bool) → (b || true) ≡ true
either true = refl
either false = refl

shown-text : (name : List ℕ) → shown (text_value name) ≡ name
shown-text [] = refl
shown-text (b ∷ name) = refl

value-after : (key : List ℕ) (prefix more : Fields) → is_among (keys_of prefix) key ≡ false → value_at key (prefix ++ more) ≡ value_at key more
value-after key [] more free = refl
value-after key (pair ∷ prefix) more free =
    let parts = or_parts (bytes_eq key pair.0) (is_among (keys_of prefix) key) free in
    rw (bytes_eq-swap pair.0 key ∙ parts.0) (value-after key prefix more parts.1)

none-dropped : (key value : List ℕ) (fields : Fields) → is_among (keys_of fields) key ≡ false → is_among (keys_of fields) value ≡ false → dropped (key ∷ value ∷ []) fields ≡ fields
none-dropped key value [] no-key no-value = refl
none-dropped key value (pair ∷ fields) no-key no-value =
    let keys = or_parts (bytes_eq key pair.0) (is_among (keys_of fields) key) no-key in
    let values = or_parts (bytes_eq value pair.0) (is_among (keys_of fields) value) no-value in
    let left = dropped (key ∷ value ∷ []) fields in
    ap₂ (λ s t. cond (not (s || (t || false))) (pair ∷ left) left) (bytes_eq-swap pair.0 key ∙ keys.0) (bytes_eq-swap pair.0 value ∙ values.0)
    ∙ ap (λ more. pair ∷ more) (none-dropped key value fields keys.1 values.1)

module _ (options : ToLong) (others : Fields) (apart : bytes_eq options.key options.value ≡ false)
    (no-key : is_among (keys_of others) options.key ≡ false) (no-value : is_among (keys_of others) options.value ≡ false) where
  abbrev last : List ℕ × Tree → Fields
  last pair = (options.key, text_value pair.0) ∷ (options.value, pair.1) ∷ []

  long-is : (pair : List ℕ × Tree) → long_record options others pair ≡ others ++ last pair
  long-is pair =
      let text = text_value pair.0 in
      let keyed : Fields = others ++ (options.key, text) ∷ [] in
      let free : value_at options.value keyed ≡ None = value-after options.value others ((options.key, text) ∷ []) no-value ∙ ap (λ t. cond t (Some text) None) apart in
      ap (put_at options.value pair.1) (put_at-none options.key text others (value_at-free options.key others no-key))
      ∙ put_at-none options.value pair.1 keyed free
      ∙ append_assoc others ((options.key, text) ∷ []) ((options.value, pair.1) ∷ [])

  last-dropped : (pair : List ℕ × Tree) → dropped (both (back options)) (last pair) ≡ []
  last-dropped pair =
      let key : List ℕ × Tree = (options.key, text_value pair.0) in
      let value : List ℕ × Tree = (options.value, pair.1) in
      let first : is_among (both (back options)) options.key ≡ true = ap (λ t. t || (bytes_eq options.key options.value || false)) (self options.key) in
      let second : is_among (both (back options)) options.value ≡ true = ap (λ t. bytes_eq options.value options.key || (t || false)) (self options.value) ∙ either (bytes_eq options.value options.key) in
      ap₂ (λ s t. cond (not s) (key ∷ cond (not t) (value ∷ []) []) (cond (not t) (value ∷ []) [])) first second

  others-left : (pair : List ℕ × Tree) → dropped (both (back options)) (others ++ last pair) ≡ others
  others-left pair =
      filter-append (λ pair. not (is_among (both (back options)) pair.0)) others (last pair)
      ∙ ap₂ (λ xs ys. xs ++ ys) (none-dropped options.key options.value others no-key no-value) (last-dropped pair)
      ∙ append-nil others

  key-there : (pair : List ℕ × Tree) → value_at options.key (others ++ last pair) ≡ Some (text_value pair.0)
  key-there pair =
      value-after options.key others (last pair) no-key ∙ ap (λ t. cond t (Some (text_value pair.0)) (value_at options.key ((options.value, pair.1) ∷ []))) (self options.key)

  value-there : (pair : List ℕ × Tree) → value_at options.value (others ++ last pair) ≡ Some pair.1
  value-there pair =
      value-after options.value others (last pair) no-value
      ∙ ap₂ (λ s t. cond s (Some (text_value pair.0)) (cond t (Some pair.1) None)) apart (self options.value)

  -- the other fields of a long record
  pub long-others : (pair : List ℕ × Tree) → dropped (both (back options)) (long_record options others pair) ≡ others
  long-others pair = ap (dropped (both (back options))) (long-is pair) ∙ others-left pair

  -- its group
  pub long-group : (pair : List ℕ × Tree) → common_in (Others (both (back options))) (long_record options others pair) ≡ Some (texts others)
  long-group pair =
      ap (common_in (Others (both (back options)))) (long-is pair)
      ∙ ap₂ (λ s t. if is_some s && (is_some t && true) then Some (texts (dropped (both (back options)) (others ++ last pair))) else None) (key-there pair) (value-there pair)
      ∙ ap (λ fields. Some (texts fields)) (others-left pair)

  -- and the field that it gives back
  pub long-pair : (pair : List ℕ × Tree) → pair_in (back options) (long_record options others pair) ≡ Some pair
  long-pair pair =
      ap (pair_in (back options)) (long-is pair)
      ∙ ap₂ (λ key value. paired (option_map shown key) value) (key-there pair) (value-there pair)
      ∙ ap (λ name. Some (name, pair.1)) (shown-text pair.0)

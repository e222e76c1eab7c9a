-- The verb `unspace`.
use Rattle.std.specs.Prelude.{ℕ, Bool, true, false, ◌&&◌, ◌||◌, ◌==◌, if◌then◌else◌, List, [], ◌∷◌, map}
use Rattle.std.specs.List.{list_any, flat_map}
use Rattle.mlr_spec.specs.Ascii.{space}
use Rattle.mlr_spec.specs.Tree.{Tree, string}
use Rattle.mlr_spec.specs.Pairs.{put_each}
use Rattle.mlr_spec.specs.Infer.{tree_of_data}
use Rattle.verbs_base.specs.Records.{Fields}
use Rattle.verbs_fields.specs.declared.unspace.Unspace.{Unspace}
use Rattle.verbs_fields.specs.declared.unspace.UnspacePart.{UnspacePart}
use Rattle.verbs_fields.specs.declared.unspace.UnspacePart.TheVariants.{Both, Keys, Values}

abbrev pub has_space : List ℕ → Bool
has_space text = list_any (λ b. b == space) text

-- a byte, or `other` in place of a space
abbrev pub unspaced_byte : List ℕ → ℕ → List ℕ
unspaced_byte other b = if b == space then other else b ∷ []

abbrev pub unspaced_text : List ℕ → List ℕ → List ℕ
unspaced_text other text = flat_map (unspaced_byte other) text

-- a string with a space gets `other` in place of each space, and its type is inferred as for data; any other
-- value is unchanged
abbrev pub unspaced_value : List ℕ → Tree → Tree
unspaced_value other (string text) =
    if has_space text then tree_of_data (record { none = false; octal = false }) (unspaced_text other text) else string text
unspaced_value other value = value

abbrev pub takes_keys : UnspacePart → Bool
takes_keys Both = true
takes_keys Keys = true
takes_keys Values = false

abbrev pub takes_values : UnspacePart → Bool
takes_values Both = true
takes_values Keys = false
takes_values Values = true

abbrev pub unspaced_field : Unspace → List ℕ × Tree → List ℕ × Tree
unspaced_field verb pair = (
  if takes_keys verb.part then unspaced_text verb.text pair.0 else pair.0,
  if takes_values verb.part then unspaced_value verb.text pair.1 else pair.1,
)

-- of fields whose names become equal, the first gives the place and the last the value
abbrev pub unspace : Unspace → Fields → Fields
unspace verb fields = put_each [] (map (unspaced_field verb) fields)

abbrev pub is_spaced_string : Tree → Bool
is_spaced_string (string text) = has_space text
is_spaced_string _ = false

-- whether the key or the value of a field has a space, as far as `unspace` takes it
abbrev pub is_spaced : UnspacePart → List ℕ × Tree → Bool
is_spaced part pair = (takes_keys part && has_space pair.0) || (takes_values part && is_spaced_string pair.1)

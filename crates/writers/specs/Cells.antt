-- What a record is written as: its fields, flattened or unflattened, and their texts.
use Rattle.std.specs.Prelude.{ℕ, Bool, true, false, ◌&&◌, nat_lt, if◌then◌else◌, List, [], ◌∷◌, map, length}
use Rattle.std.specs.Str.{bytes_eq}
use Rattle.mlr_spec.specs.Flatten.{flat, unflat}
use Rattle.mlr_spec.specs.Tree.{Tree}
use Rattle.text_forms.specs.Shown.{shown}
use Rattle.writers.specs.declared.options.WriteOpts.{WriteOpts}
use Rattle.writers.specs.declared.form.Part.{Part}
use Rattle.writers.specs.declared.form.Part.TheVariants.{Keys, Values}

-- a record is flattened or unflattened before it is written; an empty separator spells no paths
abbrev pub shaped : WriteOpts → List (List ℕ × Tree) → List (List ℕ × Tree)
shaped opts r =
    if opts.flatten then flat opts.flatsep r else (
    if opts.unflatten && nat_lt 0 (length opts.flatsep) then unflat opts.flatsep r else r)

-- the key or the value of a field, and all keys or values of a record
abbrev pub part_text : Part → List ℕ × Tree → List ℕ
part_text Keys field = field.0
part_text Values field = shown field.1

abbrev pub texts : Part → List (List ℕ × Tree) → List (List ℕ)
texts part r = map (part_text part) r

-- equal texts in equal order
abbrev pub same_texts : List (List ℕ) → List (List ℕ) → Bool
same_texts [] [] = true
same_texts [] (b ∷ others) = false
same_texts (a ∷ more) [] = false
same_texts (a ∷ more) (b ∷ others) = bytes_eq a b && same_texts more others

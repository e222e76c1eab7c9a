use Rattle.std.proofs.Common.{◌≡◌, [], ◌∷◌, ◌++◌, drop}
use Rattle.std.specs.List.{flat_map}
use Rattle.mlr_record.specs.Fields.{pairs_of}
use Rattle.text_forms.specs.Shown.{shown}
use Rattle.mlr_groups.specs.Grouping.{others}
use Rattle.mlr_groups.specs.Keys.{key_of}
use Rattle.mlr_groups.proofs.keys.append_others.Given as goal

-- the key so far with the names and texts of the other fields that remain is the key of all of them
abbrev pub invariant-loop-field : goal.invariant-loop-field
invariant-loop-field l =
    l.key ++ key_of (flat_map (λ field. field.0 ∷ shown field.1 ∷ []) (others l.names (pairs_of (drop l.field-index l.field-items))))
    ≡ l.fn.key ++ key_of (flat_map (λ field. field.0 ∷ shown field.1 ∷ []) (others l.names (pairs_of l.field-items)))

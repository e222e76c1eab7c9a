-- What a record with the field becomes.
use Rattle.std.proofs.Common.{◌≡◌, ℕ, true, List, Option, Some, None, map, refl, ap, ◌∙◌}
use Rattle.std.specs.Option.{is_some, option_map}
use Rattle.mlr_spec.specs.Tree.{Tree}
use Rattle.mlr_spec.specs.Pairs.{value_at}
use Rattle.text_forms.specs.Shown.{shown}
use Rattle.verbs_base.specs.Records.{Fields}
use Rattle.verbs_nest.specs.Nest.{exploded, replaced}
use Rattle.verbs_nest.specs.Pieces.{pieces_of}

pub exploded-some : (name separator : List ℕ) (make : List (List ℕ) → List Fields) (fields : Fields) (text : List ℕ) → option_map shown (value_at name fields) ≡ Some text
    → exploded name separator make fields ≡ map (λ made. replaced name made fields) (make (pieces_of separator text))
exploded-some name separator make fields text found = rw (found, exploded) refl

-- a field with a text is there
pub some-there : (name : List ℕ) (fields : Fields) (text : List ℕ) → option_map shown (value_at name fields) ≡ Some text → is_some (value_at name fields) ≡ true
some-there name fields text found = same (value_at name fields) ∙ ap is_some found
  where
    same : (value : Option Tree) → is_some value ≡ is_some (option_map shown value)
    same None = refl
    same (Some value) = refl

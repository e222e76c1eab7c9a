-- `nest --implode`: the first record of a group, with the joined texts of all.
use Rattle.std.specs.Prelude.{ℕ, List, [], ◌∷◌, map}
use Rattle.std.specs.Option.{option_map_or}
use Rattle.mlr_spec.specs.Json.{joined}
use Rattle.mlr_spec.specs.JsonGrammar.{text_value}
use Rattle.mlr_spec.specs.Pairs.{put_at, value_at}
use Rattle.mlr_event.specs.declared.event.Ctx.{Ctx}
use Rattle.text_forms.specs.Shown.{shown}
use Rattle.verbs_base.specs.Records.{Row}

-- the texts of a field in some records, all of which have it
abbrev pub texts_at : List ℕ → List Row → List (List ℕ)
texts_at name rows = map (λ row. option_map_or shown (value_at name row.0) []) rows

-- what the records of a group come to at the end
abbrev pub imploded : List ℕ → List ℕ → List Row → Ctx → List Row
imploded name separator [] ctx = []
imploded name separator (row ∷ rows) ctx = (put_at name (text_value (joined separator (texts_at name (row ∷ rows)))) row.0, row.1) ∷ []

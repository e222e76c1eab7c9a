-- The records that the tracks of each group represent.
use Rattle.std.specs.Prelude.{◌≡◌, ℕ, List, [], ◌∷◌, ◌++◌, map, set, slice_get, Option, Some, None, Vec}
use Rattle.std.specs.Global.{Global}
use Rattle.mlr_groups.specs.Grouping.{common_in, groups_in, members}
use Rattle.mlr_groups.specs.Represents.{GroupsOf}
use Rattle.stat_base.specs.Values.{present, values_of}
use Rattle.stat_base.specs.declared.stepper.Stepper.{Stepper}
use Rattle.verbs_base.specs.Records.{Fields}
use Rattle.verbs_step.specs.Kept.{Kept, kept, kept_of}
use Rattle.verbs_step.specs.Made.{outputs_of}
use Rattle.verbs_step.specs.Step.{step_groups}
use Rattle.verbs_step.specs.declared.step.Step.{Step}
use Rattle.verbs_step.specs.declared.step.StepVerb.{StepVerb}
use Rattle.verbs_step.specs.declared.track.Track.{Track}

-- the tracks of the fields of one group, and of all groups
abbrev pub FieldTracks : Type 0
FieldTracks = List (Vec Track Global)

abbrev pub GroupTracks : Type 0
GroupTracks = List (Vec (Vec Track Global) Global)

-- what they keep
abbrev pub kept_in : FieldTracks → List (List Kept)
kept_in tracks = map (λ field. map kept field.items) tracks

abbrev pub kept_in_groups : GroupTracks → List (List (List Kept))
kept_in_groups groups = map (λ tracks. kept_in tracks.items) groups

-- what is to be kept of the records of a group, field by field, and of all records, group by group
abbrev pub kept_for : List Stepper → List (List ℕ) → List Fields → List (List Kept)
kept_for steppers names before = map (λ name. map (λ stepper. kept_of stepper (present (values_of name before))) steppers) names

abbrev pub kept_of_group : Step → List Fields → List (List Kept)
kept_of_group options before = kept_for options.steppers options.names before

abbrev pub kept_of_all : Step → List Fields → List (List (List Kept))
kept_of_all options before = map (λ texts. kept_of_group options (members (step_groups options) texts before)) (groups_in (step_groups options) before)

-- The place of the tracks of a record's group. They keep the records before it, and with the record the tracks are those of all
-- records. A record in no group changes none.
abbrev pub HasTracks : Step → List Fields → Fields → Option ℕ → GroupTracks → Type 0
HasTracks options before fields None tracks = (common_in (step_groups options) fields ≡ None) × (kept_in_groups tracks ≡ kept_of_all options (before ++ fields ∷ []))
HasTracks options before fields (Some place) tracks =
    (texts : List (List ℕ)) × (common_in (step_groups options) fields ≡ Some texts)
    × (slice_get (kept_in_groups tracks) place ≡ Some (kept_of_group options (members (step_groups options) texts before)))
    × (set (kept_in_groups tracks) place (kept_of_group options (members (step_groups options) texts before ++ fields ∷ [])) ≡ kept_of_all options (before ++ fields ∷ []))

abbrev pub StepRepresents : StepVerb → List Fields → Type 0
StepRepresents verb before =
    GroupsOf (step_groups verb.options) before verb.groups × (verb.outputs.items ≡ outputs_of verb.options) × (kept_in_groups verb.tracks.items ≡ kept_of_all verb.options before)

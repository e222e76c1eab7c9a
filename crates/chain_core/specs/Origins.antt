-- Where the events of a plan come from.
use Rattle.std.specs.Prelude.{if◌then◌else◌, List, [], ◌∷◌}
use Rattle.mlr_event.specs.declared.names.InputName.{InputName}
use Rattle.serial_core.specs.Command.{Origin, files, numbers}
use Rattle.plan_verbs.specs.declared.plan.Plan.{Plan}
use Rattle.verb_specs.specs.declared.verb_spec.VerbSpec.{VerbSpec}
use Rattle.verb_specs.specs.declared.verb_spec.VerbSpec.TheVariants.{Seq}

-- where the events come from: a source, or else this origin
abbrev pub origin_or : Origin → List VerbSpec → Origin
origin_or origin (Seq seq ∷ specs) = numbers seq
origin_or origin _ = origin

abbrev pub inputs_of : Plan → List InputName
inputs_of plan = if plan.no_input then [] else plan.inputs

abbrev pub origin_of : Plan → Origin
origin_of plan = origin_or (files plan.read (inputs_of plan)) plan.verbs

-- What a command makes of the inputs that were taken.
use Rattle.std.specs.Prelude.{List, []}
use Rattle.mlr_event.specs.declared.event.Event.{Event}
use Rattle.mlr_event.specs.declared.names.InputName.{InputName}
use Rattle.mlr_event.specs.declared.options.ReadOpts.{ReadOpts}
use Rattle.mlr_event.specs.Verb.{Verb}
use Rattle.mlr_world.specs.Taken.{Take}
use Rattle.writers.specs.declared.options.WriteOpts.{WriteOpts}
use Rattle.verbs_seq.specs.declared.seq_spec.SeqSpec.{SeqSpec}
use Rattle.verbs_seq.specs.Seq.{seq_all}
use Rattle.read_files.specs.Sources.{source}
use Rattle.verb_chain.specs.Chain.{chain}

-- what the events come from: inputs in their order, or the numbers of `seqgen`
pub data Origin : Type 0 where
  files : ReadOpts → List InputName → Origin
  numbers : SeqSpec → Origin

abbrev pub names_of : Origin → List InputName
names_of (files opts names) = names
names_of (numbers seq) = []

-- the events, as far as what was taken of the inputs fixes them; numbers come whatever was taken
abbrev pub given_by : Origin → List Take → List Event
given_by (files opts names) takes = source opts names takes
given_by (numbers seq) takes = seq_all seq

-- a command: where its events come from, its verbs, and how the records are written
pub record Command : Type 0 where
  pub origin : Origin
  pub verbs : List Verb
  pub write : WriteOpts

-- what comes out of the last verb
abbrev pub result : Command → List Take → List Event
result command takes = chain command.verbs (given_by command.origin takes)

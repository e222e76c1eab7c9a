-- The verbs of a plan are verbs over records.
use Rattle.std.proofs.Common.{◌≡◌, List, [], ◌∷◌, ◌++◌, refl}
use Rattle.mlr_event.specs.declared.event.Event.{Event}
use Rattle.mlr_event.specs.Verb.{Verb}
use Rattle.verbs_base.specs.Records.{RecordVerb, verb_of}
use Rattle.verbs_join_nest.specs.Meaning as shape
use Rattle.verbs_retain.specs.Meaning as retain
use Rattle.verbs_stat.specs.Meaning as stat
use Rattle.verbs_stream.specs.Meaning as stream
use Rattle.verb_specs.specs.declared.verb_spec.VerbSpec.{VerbSpec}
use Rattle.verb_specs.specs.declared.verb_spec.VerbSpec.TheVariants.{Stream, Retain, Shape, Stat, Seq}
use Rattle.verb_specs.specs.Verbs.{verb_with, verbs_with}

abbrev pub AreOverRecords : List Verb → Type 0
AreOverRecords [] = Unit {0}
AreOverRecords (verb ∷ verbs) = ((one : RecordVerb) × (verb ≡ verb_of one)) × AreOverRecords verbs

both-over : (before after : List Verb) → AreOverRecords before → AreOverRecords after → AreOverRecords (before ++ after)
both-over [] after first second = second
both-over (verb ∷ before) after first second = (first.0, both-over before after first.1 second)

one-over : (spec : VerbSpec) (left : List Event) → AreOverRecords (verb_with spec left)
one-over (Stream spec) left = ((stream.meaning_of spec, refl), tt)
one-over (Retain spec) left = ((retain.meaning_of spec, refl), tt)
one-over (Shape spec) left = ((shape.meaning_of spec left, refl), tt)
one-over (Stat spec) left = ((stat.meaning_of spec, refl), tt)
one-over (Seq seq) left = tt

pub are-over : (specs : List VerbSpec) (lefts : List (List Event)) → AreOverRecords (verbs_with specs lefts)
are-over [] lefts = tt
are-over (spec ∷ specs) [] = both-over (verb_with spec []) (verbs_with specs []) (one-over spec []) (are-over specs [])
are-over (spec ∷ specs) (left ∷ lefts) = both-over (verb_with spec left) (verbs_with specs lefts) (one-over spec left) (are-over specs lefts)

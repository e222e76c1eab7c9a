-- What a verb of a plan means, which options words may give it, and which options are short.
use Rattle.std.specs.Prelude.{◌≡◌, ◌≤◌, length, List, [], ◌∷◌, ◌++◌, drop, Option, Some, None}
use Rattle.mlr_event.specs.declared.event.Event.{Event}
use Rattle.mlr_event.specs.declared.names.InputName.{InputName}
use Rattle.mlr_event.specs.declared.options.ReadOpts.{ReadOpts}
use Rattle.mlr_event.specs.Verb.{Verb}
use Rattle.verbs_seq.specs.Seq.{IsSoundSeq}
use Rattle.verbs_base.specs.Records.{verb_of}
use Rattle.verbs_join_nest.specs.Meaning as shape
use Rattle.verbs_retain.specs.Meaning as retain
use Rattle.verbs_stat.specs.Meaning as stat
use Rattle.verbs_stream.specs.Meaning as stream
use Rattle.verb_specs.specs.declared.verb_spec.VerbSpec.{VerbSpec}
use Rattle.verb_specs.specs.declared.verb_spec.VerbSpec.TheVariants.{Stream, Retain, Shape, Stat, Seq}

-- a verb that isn't a source, with options that words may give
abbrev pub IsVerb : VerbSpec → Type 0
IsVerb (Stream spec) = stream.IsSound spec
IsVerb (Retain spec) = Unit {0}
IsVerb (Shape spec) = Unit {0}
IsVerb (Stat spec) = Unit {0}
IsVerb (Seq seq) = ⊥

abbrev pub AreVerbs : List VerbSpec → Type 0
AreVerbs [] = Unit {0}
AreVerbs (spec ∷ specs) = IsVerb spec × AreVerbs specs

-- a source, or a verb with options that words may give
abbrev pub IsVerbOrSource : VerbSpec → Type 0
IsVerbOrSource (Stream spec) = stream.IsSound spec
IsVerbOrSource (Retain spec) = Unit {0}
IsVerbOrSource (Shape spec) = Unit {0}
IsVerbOrSource (Stat spec) = Unit {0}
IsVerbOrSource (Seq seq) = Unit {0}

-- the first verb of a plan may be a source
abbrev pub AreSound : List VerbSpec → Type 0
AreSound [] = Unit {0}
AreSound (Stream spec ∷ specs) = stream.IsSound spec × AreVerbs specs
AreSound (Retain spec ∷ specs) = AreVerbs specs
AreSound (Shape spec ∷ specs) = AreVerbs specs
AreSound (Stat spec ∷ specs) = AreVerbs specs
AreSound (Seq seq ∷ specs) = IsSoundSeq seq × AreVerbs specs

-- the verb of these options with the records of its left file; a source is none
abbrev pub verb_with : VerbSpec → List Event → List Verb
verb_with (Stream spec) left = verb_of (stream.meaning_of spec) ∷ []
verb_with (Retain spec) left = verb_of (retain.meaning_of spec) ∷ []
verb_with (Shape spec) left = verb_of (shape.meaning_of spec left) ∷ []
verb_with (Stat spec) left = verb_of (stat.meaning_of spec) ∷ []
verb_with (Seq seq) left = []

-- the verbs without a source, each with the records of its left file
abbrev pub verbs_with : List VerbSpec → List (List Event) → List Verb
verbs_with [] lefts = []
verbs_with (spec ∷ specs) [] = verb_with spec [] ++ verbs_with specs []
verbs_with (spec ∷ specs) (left ∷ lefts) = verb_with spec left ++ verbs_with specs lefts

-- the left file of a verb, if it has one, and how it is read
abbrev pub left_of : VerbSpec → Option (InputName × ReadOpts)
left_of (Stream spec) = None
left_of (Retain spec) = None
left_of (Shape spec) = shape.left_of spec
left_of (Stat spec) = None
left_of (Seq seq) = None

-- what the left file of each verb holds, by what the left files of a plan hold in their order; a verb without one has nothing
abbrev pub first_of : List (List Event) → List Event
first_of [] = []
first_of (left ∷ lefts) = left

abbrev pub left_for : Option (InputName × ReadOpts) → List (List Event) → List Event
left_for None lefts = []
left_for (Some file) lefts = first_of lefts

abbrev pub after_left : Option (InputName × ReadOpts) → List (List Event) → List (List Event)
after_left None lefts = lefts
after_left (Some file) lefts = drop 1 lefts

abbrev pub lefts_for : List VerbSpec → List (List Event) → List (List Event)
lefts_for [] lefts = []
lefts_for (spec ∷ specs) lefts = left_for (left_of spec) lefts ∷ lefts_for specs (after_left (left_of spec) lefts)

-- a copy of a verb: the same verb with the same left file, sound where its source is
abbrev pub AreSame : VerbSpec → VerbSpec → Type 0
AreSame (Stream spec) (Stream copy) = (stream.meaning_of copy ≡ stream.meaning_of spec) × (stream.IsSound spec → stream.IsSound copy)
AreSame (Retain spec) (Retain copy) = retain.meaning_of copy ≡ retain.meaning_of spec
AreSame (Shape spec) (Shape copy) = ((left : List Event) → shape.meaning_of copy left ≡ shape.meaning_of spec left) × (shape.left_of copy ≡ shape.left_of spec)
AreSame (Stat spec) (Stat copy) = stat.meaning_of copy ≡ stat.meaning_of spec
AreSame (Seq seq) (Seq copy) = copy ≡ seq
AreSame _ _ = ⊥

-- a verb whose options have no list, no pattern and no text of more than 20 bytes
abbrev pub IsShort : VerbSpec → Type 0
IsShort (Stream spec) = stream.IsShort spec
IsShort (Retain spec) = retain.IsShort spec
IsShort (Shape spec) = ⊥
IsShort (Stat spec) = ⊥
IsShort (Seq seq) = length seq.field ≤ 20

abbrev pub AreSameVerbs : List VerbSpec → List VerbSpec → Type 0
AreSameVerbs [] [] = Unit {0}
AreSameVerbs [] (copy ∷ copies) = ⊥
AreSameVerbs (spec ∷ specs) [] = ⊥
AreSameVerbs (spec ∷ specs) (copy ∷ copies) = AreSame spec copy × AreSameVerbs specs copies

-- What a verb is, and how far it has come.
use Rattle.std.specs.Prelude.{◌≡◌, List, [], ◌∷◌}
use Rattle.mlr_event.specs.declared.event.Event.{Event}
use Rattle.mlr_event.specs.Verb as meaning
use Rattle.verbs_join_nest.specs.contracts.verb.ShapeVerbStep.TheImpl as shape
use Rattle.verbs_retain.specs.contracts.verb.RetainVerbStep.TheImpl as retain
use Rattle.verbs_stat.specs.contracts.verb.StatVerbStep.TheImpl as stat
use Rattle.verbs_stream.specs.contracts.verb.StreamVerbStep.TheImpl as stream
use Rattle.verbs_join_nest.specs.declared.verb.ShapeVerb.{ShapeVerb}
use Rattle.verbs_retain.specs.declared.verb.RetainVerb.{RetainVerb}
use Rattle.verbs_stat.specs.declared.verb.StatVerb.{StatVerb}
use Rattle.verbs_stream.specs.declared.verb.StreamVerb.{StreamVerb}
use Rattle.plan_verbs.specs.declared.one_of.OneOf.{OneOf}
use Rattle.plan_verbs.specs.declared.one_of.OneOf.TheVariants.{Stream, Retain, Shape, Stat}

abbrev pub Verb : Type 0
Verb = OneOf StreamVerb RetainVerb ShapeVerb StatVerb

abbrev pub meaning_in : Verb → meaning.Verb
meaning_in = elim [ Stream s ↦ stream.ghosts.verb s | Retain s ↦ retain.ghosts.verb s | Shape s ↦ shape.ghosts.verb s | Stat s ↦ stat.ghosts.verb s ]

-- it has begun, and was given these events
abbrev pub WasGiven : Verb → List Event → Type 0
WasGiven = elim [ Stream s ↦ stream.ghosts.represents s | Retain s ↦ retain.ghosts.represents s | Shape s ↦ shape.ghosts.represents s | Stat s ↦ stat.ghosts.represents s ]

abbrev pub HasBegun : meaning.Verb → Verb → Type 0
HasBegun verb made = (meaning_in made ≡ verb) × WasGiven made []

-- it hasn't begun; verbs over records make nothing when they begin, so that they have begun from the start
abbrev pub IsNew : meaning.Verb → Verb → Type 0
IsNew verb (Stream s) = HasBegun verb (Stream s)
IsNew verb (Retain s) = HasBegun verb (Retain s)
IsNew verb (Shape s) = HasBegun verb (Shape s)
IsNew verb (Stat s) = HasBegun verb (Stat s)

abbrev pub AreNew : List meaning.Verb → List Verb → Type 0
AreNew [] [] = Unit {0}
AreNew [] (one ∷ made) = ⊥
AreNew (verb ∷ verbs) [] = ⊥
AreNew (verb ∷ verbs) (one ∷ made) = IsNew verb one × AreNew verbs made

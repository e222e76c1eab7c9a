-- Model verbs, which show that the trait `Step` can be met.
use Rattle.std.proofs.Common.{◌≡◌, ℕ, Bool, true, false, ◌&&◌, List, [], ◌∷◌, ◌++◌, refl, ap, sym, ◌∙◌}
use Rattle.std.specs.List.{flat_map, list_all}
use Rattle.std.proofs.lemmas.List.Folds.{list_all-append}
use Rattle.mlr_spec.specs.Tree.{Tree}
use Rattle.mlr_event.specs.declared.event.Ctx.{Ctx}
use Rattle.mlr_event.specs.declared.event.Event.{Event}
use Rattle.mlr_event.specs.declared.event.Event.TheVariants as event
use Rattle.mlr_event.specs.Parts.{records-part}
use Rattle.mlr_event.specs.Verb.{IsQuiet, KeepsOrder, StaysClosed, Verb, gives, is_open, is_record}

-- each record as it is
abbrev pub cat : Verb
cat = record { first = []; now = λ before fields ctx. event.Rec fields ctx ∷ []; late = λ before ctx. []; closed = λ before. false; effects = false }

pub cat-quiet : IsQuiet cat
cat-quiet none = record { first = refl; now = λ before fields ctx. refl; late = λ before ctx. refl }

pub cat-orderly : KeepsOrder cat
cat-orderly = record { first = refl; now = λ before fields ctx. refl; late = λ before ctx. refl }

pub cat-closes : StaysClosed cat
cat-closes before following is = absurd (let e : false ≡ true = is in cc)

pub cat-gives : (before : List Event) (e : Event) → gives cat before e ≡ e ∷ []
cat-gives before (event.Rec fields ctx) = refl
cat-gives before (event.Text text) = refl
cat-gives before (event.Out target piece) = refl
cat-gives before (event.End ctx) = refl
cat-gives before (event.Fault fault) = refl

pub never-both : (b : Bool) → b ≡ false → b ≡ true → ⊥
never-both b left right = let e : false ≡ true = sym left ∙ right in cc

-- the records of a list with their contexts, and such records given, the last first
abbrev pub Row : Type 0
Row = List (List ℕ × Tree) × Ctx

abbrev pub row_of : Event → List Row
row_of (event.Rec fields ctx) = (fields, ctx) ∷ []
row_of (event.Text text) = []
row_of (event.Out target piece) = []
row_of (event.End ctx) = []
row_of (event.Fault fault) = []

abbrev pub last_first : List Row → List Event
last_first [] = []
last_first (row ∷ rows) = last_first rows ++ event.Rec row.0 row.1 ∷ []

-- the records at the end, the last first
abbrev pub tac : Verb
tac = record { first = []; now = λ before fields ctx. []; late = λ before ctx. last_first (flat_map row_of before); closed = λ before. false; effects = false }

-- what an event gives after records that are held back
abbrev pub tac_gives : List Row → Event → List Event
tac_gives held (event.Rec fields ctx) = []
tac_gives held (event.Text text) = event.Text text ∷ []
tac_gives held (event.Out target piece) = event.Out target piece ∷ []
tac_gives held (event.End ctx) = last_first held ++ event.End ctx ∷ []
tac_gives held (event.Fault fault) = event.Fault fault ∷ []

-- while more may come, it holds back all records
abbrev pub TacRepresents : Bool → List Row → List Event → Type 0
TacRepresents broken held given = (broken ≡ false) × (is_open given ≡ true → held ≡ flat_map row_of given)

pub records-alone : (rows : List Row) → list_all is_record (last_first rows) ≡ true
records-alone [] = refl
records-alone (row ∷ rows) = list_all-append is_record (last_first rows) (event.Rec row.0 row.1 ∷ []) ∙ ap (λ b. b && true) (records-alone rows)

pub tac-quiet : IsQuiet tac
tac-quiet none = record { first = refl; now = λ before fields ctx. refl; late = λ before ctx. records-alone (flat_map row_of before) }

pub tac-orderly : KeepsOrder tac
tac-orderly = record { first = refl; now = λ before fields ctx. refl; late = λ before ctx. records-part (last_first (flat_map row_of before)) (records-alone (flat_map row_of before)) }

pub tac-closes : StaysClosed tac
tac-closes before following is = absurd (let e : false ≡ true = is in cc)

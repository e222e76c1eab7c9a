-- What each output of a plan gets of a list of events, and what it is left with.
use Rattle.std.specs.Prelude.{◌≡◌, ◌⊎◌, ℕ, Bool, true, false, ◌&&◌, ◌||◌, nat_eq, if◌then◌else◌, List, [], ◌∷◌, ◌++◌, map, slice_index_or, Option, Some, None}
use Rattle.std.specs.List.{flat_map, list_any}
use Rattle.std.specs.Str.{bytes_eq}
use Rattle.mlr_event.specs.declared.event.Body.{Body}
use Rattle.mlr_event.specs.declared.event.Body.TheVariants as body
use Rattle.mlr_event.specs.declared.event.Event.{Event}
use Rattle.mlr_event.specs.declared.event.Event.TheVariants as event
use Rattle.mlr_event.specs.declared.event.Piece.{Piece}
use Rattle.mlr_event.specs.declared.fault.Fault.{Fault}
use Rattle.mlr_event.specs.declared.fault.Fault.TheVariants as fault
use Rattle.mlr_event.specs.declared.names.Mode.{Mode}
use Rattle.mlr_event.specs.declared.names.Mode.TheVariants.{Fresh, Append}
use Rattle.mlr_event.specs.declared.names.Target.{Target}
use Rattle.mlr_event.specs.declared.names.Target.TheVariants as target
use Rattle.mlr_event.specs.Verb.{is_end}
use Rattle.mlr_world.specs.Outputs.{Held, or_empty}
use Rattle.outlet.specs.Out.{out_of}
use Rattle.writers.specs.declared.options.WriteOpts.{WriteOpts}
use Rattle.writers.specs.Written.{written}
use Rattle.serial_core.specs.declared.answer.Ended.{Ended}
use Rattle.serial_core.specs.Answer.{has_failed, lacks_memory}
use Rattle.serial_core.specs.Represents.{Leaves}

abbrev pub is_same_target : Target → Target → Bool
is_same_target target.Stdout target.Stdout = true
is_same_target target.Stdout target.Stderr = false
is_same_target target.Stdout (target.File other) = false
is_same_target target.Stderr target.Stdout = false
is_same_target target.Stderr target.Stderr = true
is_same_target target.Stderr (target.File other) = false
is_same_target (target.File name) target.Stdout = false
is_same_target (target.File name) target.Stderr = false
is_same_target (target.File name) (target.File other) = bytes_eq name other

-- the pieces for a target
abbrev pub pieces_of : Target → Event → List Piece
pieces_of one (event.Rec fields ctx) = []
pieces_of one (event.Text text) = []
pieces_of one (event.Out other piece) = if is_same_target one other then piece ∷ [] else []
pieces_of one (event.End ctx) = []
pieces_of one (event.Fault found) = []

abbrev pub pieces_for : Target → List Event → List Piece
pieces_for one events = flat_map (pieces_of one) events

-- two pieces open their file in the same way: of one mode and one style
abbrev pub is_same_mode : Mode → Mode → Bool
is_same_mode Fresh Fresh = true
is_same_mode Fresh Append = false
is_same_mode Append Fresh = false
is_same_mode Append Append = true

abbrev pub open_alike : Piece → Piece → Bool
open_alike first other = is_same_mode first.mode other.mode && nat_eq first.style.0 other.style.0

-- the fault of a piece for a file that an earlier piece opened in another way
abbrev pub twice : List ℕ → List Piece → Piece → Option Fault
twice name [] piece = None
twice name (first ∷ before) piece = if open_alike first piece then None else Some (fault.OutputTwice name first.mode first.style piece.mode piece.style)

abbrev pub twice_for : Target → List Event → Piece → Option Fault
twice_for target.Stdout before piece = None
twice_for target.Stderr before piece = None
twice_for (target.File name) before piece = twice name (pieces_for (target.File name) before) piece

abbrev pub twice_at : List Event → Event → Option Fault
twice_at before (event.Rec fields ctx) = None
twice_at before (event.Text text) = None
twice_at before (event.Out one piece) = twice_for one before piece
twice_at before (event.End ctx) = None
twice_at before (event.Fault found) = None

-- events up to the first such piece, with its fault in its place
abbrev pub clear_after : List Event → List Event → List Event
clear_after before [] = []
clear_after before (e ∷ events) = elim (twice_at before e) [ Some found ↦ event.Fault found ∷ [] | None ↦ e ∷ clear_after (before ++ e ∷ []) events ]

abbrev pub clear : List Event → List Event
clear events = clear_after [] events

-- A plan has a first style and others; a piece whose style has no row is written by the first.
abbrev pub style_at : WriteOpts → List WriteOpts → ℕ → WriteOpts
style_at first others number = slice_index_or (first ∷ others) number first

-- a file is written by the style of its first piece
abbrev pub style_by : WriteOpts → List WriteOpts → List Piece → WriteOpts
style_by first others [] = first
style_by first others (piece ∷ pieces) = style_at first others piece.style.0

abbrev pub is_record : Body → Bool
is_record (body.Rec fields) = true
is_record (body.Text text) = false

-- the text of pieces: none without pieces, and what is written at the end only where a record is among them
abbrev pub text_of : WriteOpts → List Piece → Bool → List ℕ
text_of opts [] ended = []
text_of opts (piece ∷ pieces) ended =
    let all = map (λ p. p.body) (piece ∷ pieces) in
    written opts all (ended && list_any is_record all)

-- The text of a target: standard output gets all records and texts too, and standard error and it are written by the first
-- style.
abbrev pub out_for : WriteOpts → List WriteOpts → Target → List Event → List ℕ
out_for first others target.Stdout events = out_of first events
out_for first others target.Stderr events = text_of first (pieces_for target.Stderr events) (list_any is_end events)
out_for first others (target.File name) events =
    let pieces = pieces_for (target.File name) events in
    text_of (style_by first others pieces) pieces (list_any is_end events)

-- what a target holds before its text: a file is emptied by a first piece that is fresh, and kept by one that appends
abbrev pub opened : Mode → Option (List ℕ) → Option (List ℕ)
opened Fresh before = Some []
opened Append before = Some (or_empty before)

abbrev pub opened_by : List Piece → Option (List ℕ) → Option (List ℕ)
opened_by [] before = before
opened_by (piece ∷ pieces) before = opened piece.mode before

abbrev pub opened_for : Target → List Event → Option (List ℕ) → Option (List ℕ)
opened_for target.Stdout events before = before
opened_for target.Stderr events before = before
opened_for (target.File name) events before = opened_by (pieces_for (target.File name) events) before

-- What a run leaves of its events in a target: its text, or a prefix of it by the outcome. Where a write failed or memory ran
-- out a file may also be as it was.
abbrev pub LeavesFor : Ended → WriteOpts → List WriteOpts → List Event → Target → Option (List ℕ) → Option (List ℕ) → Type 0
LeavesFor ended first others events one before now =
    Leaves ended (out_for first others one events) (opened_for one events before) now ⊎ (((has_failed ended || lacks_memory ended) ≡ true) × (now ≡ before))

-- a relation of what is held before and after, where it is known
abbrev pub WhereTold : (Held → Held → Type 0) → Option Held → Option Held → Type 0
WhereTold step None None = Unit {0}
WhereTold step None (Some now) = ⊥
WhereTold step (Some before) None = ⊥
WhereTold step (Some before) (Some now) = step before now

-- what a run leaves in each target
abbrev pub LeavesEach : Ended → WriteOpts → List WriteOpts → List Event → Option Held → Option Held → Type 0
LeavesEach ended first others events held held' = WhereTold (λ before now. (one : Target) → LeavesFor ended first others events one (before one) (now one)) held held'

-- What a file gives, in whatever format: comments, records and a fault; their numbers, and the names of fields.
use Rattle.std.specs.Prelude.{ℕ, ◌+◌, Bool, true, false, not, if◌then◌else◌, List, [], ◌∷◌, ◌++◌, length, Option, Some, None}
use Rattle.std.specs.List.{list_any, find, range_with_len, zip}
use Rattle.std.specs.Str.{bytes_eq}
use Rattle.std.specs.Fmt.{decimal}
use Rattle.mlr_spec.specs.Ascii.{line_feed, underscore}
use Rattle.mlr_spec.specs.Tree.{Tree}
use Rattle.mlr_spec.specs.Pairs.{put_each}
use Rattle.mlr_spec.specs.Split.{begins_with}
use Rattle.mlr_event.specs.declared.event.Ctx.{Ctx}
use Rattle.mlr_event.specs.declared.event.Event.{Event}
use Rattle.mlr_event.specs.declared.event.Event.TheVariants as event
use Rattle.mlr_event.specs.declared.fault.Fault.{Fault}
use Rattle.mlr_event.specs.declared.options.Comments.{Comments}
use Rattle.mlr_event.specs.declared.options.Comments.TheVariants.{Keep, Skip, Pass}

-- a comment that is passed on, with LF; a record without its context; or a fault
pub data Item : Type 0 where
  comment : List ℕ → Item
  fields : List (List ℕ × Tree) → Item
  fault : Fault → Item

-- the context of the next record of a file
abbrev pub next : Ctx → Ctx
next at = record { nr = at.nr + 1; fnr = at.fnr + 1; filenum = at.filenum }

-- the events of a file, numbered on from a context, up to its first fault
abbrev pub events_of : Ctx → List Item → List Event
events_of at [] = []
events_of at (comment text ∷ items) = event.Text text ∷ events_of at items
events_of at (fields pairs ∷ items) = event.Rec pairs (next at) ∷ events_of (next at) items
events_of at (fault f ∷ items) = event.Fault f ∷ []

-- the context of the last record among them, or the first context
abbrev pub ctx_after : Ctx → List Item → Ctx
ctx_after at [] = at
ctx_after at (comment text ∷ items) = ctx_after at items
ctx_after at (fields pairs ∷ items) = ctx_after (next at) items
ctx_after at (fault f ∷ items) = at

-- whether a line is a comment, and what it gives then
-- the prefix of comments, or nothing where there are none
abbrev pub prefix_of : Comments → List ℕ
prefix_of Keep = []
prefix_of (Skip prefix) = prefix
prefix_of (Pass prefix) = prefix

abbrev pub is_comment : Comments → List ℕ → Bool
is_comment Keep line = false
is_comment (Skip prefix) line = begins_with prefix line
is_comment (Pass prefix) line = begins_with prefix line

abbrev pub comment_items : Comments → List ℕ → List Item
comment_items Keep line = []
comment_items (Skip prefix) line = []
comment_items (Pass prefix) line = comment (line ++ line_feed ∷ []) ∷ []

-- a name that is there gets the suffix `_k`, with the least k from 2 up that makes a name that isn't there; one of the
-- first numbers does, since there are more of them than names
abbrev pub suffixed : List ℕ → ℕ → List ℕ
suffixed name k = name ++ underscore ∷ decimal k

abbrev pub is_among : List (List ℕ) → List ℕ → Bool
is_among names name = list_any (bytes_eq name) names

abbrev pub first_free : List (List ℕ) → List ℕ → Option ℕ
first_free names name = find (λ k. not (is_among names (suffixed name k))) (range_with_len 2 (length names + 1))

abbrev pub free_name : List (List ℕ) → List ℕ → List ℕ
free_name names name =
    if is_among names name then elim (first_free names name) [ Some k ↦ suffixed name k | None ↦ name ] else name

-- names in a row, each made distinct from those before it
abbrev pub distinct_after : List (List ℕ) → List (List ℕ) → List (List ℕ)
distinct_after before [] = []
distinct_after before (name ∷ names) = free_name before name ∷ distinct_after (before ++ free_name before name ∷ []) names

abbrev pub distinct_names : List (List ℕ) → List (List ℕ)
distinct_names names = distinct_after [] names

-- the record of these names and values: names that repeat are made distinct, or the first place takes the
-- last value
abbrev pub record_of : Bool → List (List ℕ) → List Tree → List (List ℕ × Tree)
record_of true names values = zip (distinct_names names) values
record_of false names values = put_each [] (zip names values)

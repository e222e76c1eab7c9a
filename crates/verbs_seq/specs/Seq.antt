-- The numbers of `seqgen`, as records.
use Rattle.std.specs.Prelude.{◌≢◌, ℕ, ◌+◌, ◌/◌, ◌≤◌, ◌^◌, ◌==◌, Bool, if◌then◌else◌, ℤ, pos, ◌+ℤ◌, ◌-ℤ◌, ◌*ℤ◌, int_le, int_lt, unsigned_abs, List, [], ◌∷◌, ◌++◌, map}
use Rattle.std.specs.List.{range_with_len}
use Rattle.mlr_spec.specs.Tree.{int}
use Rattle.mlr_event.specs.declared.event.Ctx.{Ctx}
use Rattle.mlr_event.specs.declared.event.Event.{Event}
use Rattle.mlr_event.specs.declared.event.Event.TheVariants as event
use Rattle.verbs_seq.specs.declared.seq_spec.SeqSpec.{SeqSpec}

-- whether the start isn't past the stop already, in the direction of the step
abbrev pub begins : ℤ → ℤ → ℤ → Bool
begins start stop step = if int_lt (pos 0) step then int_le start stop else int_le stop start

-- the number of numbers from the start to the stop
abbrev pub count_between : ℤ → ℤ → ℤ → ℕ
count_between start stop step = if begins start stop step then unsigned_abs (stop -ℤ start) / unsigned_abs step + 1 else 0

-- the number at a place, which counts from 0
abbrev pub number_from : ℤ → ℤ → ℕ → ℤ
number_from start step i = start +ℤ pos i *ℤ step

abbrev pub seq_count : SeqSpec → ℕ
seq_count seq = count_between seq.start seq.stop seq.step

abbrev pub seq_number : SeqSpec → ℕ → ℤ
seq_number seq i = number_from seq.start seq.step i

-- the record of a number: its NR and its FNR are its place, from 1, and its file is the first
abbrev pub seq_event : SeqSpec → ℕ → Event
seq_event seq i = event.Rec ((seq.field, int (seq_number seq i) []) ∷ []) (record { nr = i + 1; fnr = i + 1; filenum = 1 })

-- the records of `n` numbers, from a place on
abbrev pub seq_events : SeqSpec → ℕ → ℕ → List Event
seq_events seq from n = map (seq_event seq) (range_with_len from n)

-- the context after the first `n` records: that of the last one, or the zero context
abbrev pub seq_context : ℕ → Ctx
seq_context n = record { nr = n; fnr = n; filenum = if n == 0 then 0 else 1 }

-- all the records, and the end
abbrev pub seq_all : SeqSpec → List Event
seq_all seq = seq_events seq 0 (seq_count seq) ++ event.End (seq_context (seq_count seq)) ∷ []

-- The options are in the ranges that the command line allows: the step isn't 0, and there are at most 2^61
-- records.
pub record IsSoundSeq (seq : SeqSpec) : Type 0 where
  pub step : seq.step ≢ pos 0
  pub few : seq_count seq ≤ 2 ^ 61

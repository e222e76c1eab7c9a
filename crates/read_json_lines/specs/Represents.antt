-- When a reader represents the first bytes of a file, or the whole file.
use Rattle.std.specs.Prelude.{◌≡◌, ℕ, ◌+◌, ◌^◌, ◌<◌, List, [], ◌∷◌, ◌++◌, take, Bool, true, false, Option, Some, None}
use Rattle.std.specs.Option.{unwrap_or}
use Rattle.mlr_event.specs.declared.event.Ctx.{Ctx}
use Rattle.mlr_event.specs.declared.names.FileRef.{FileRef}
use Rattle.mlr_event.specs.declared.options.Format.{Format}
use Rattle.mlr_event.specs.declared.options.Format.TheVariants as format
use Rattle.mlr_event.specs.declared.options.ReadOpts.{ReadOpts}
use Rattle.mlr_event.specs.declared.event.Event.{Event}
use Rattle.mlr_event.specs.Reading.{Item, ctx_after, events_of}
use Rattle.mlr_event.specs.Stream.{has_fault}
use Rattle.read_json_lines.specs.declared.json.JsonReader.{JsonReader}
use Rattle.read_json_lines.specs.declared.json.Stage.TheVariants.{Open, Ended, Broken}
use Rattle.read_json_lines.specs.declared.stream.Stream.{Stream}
use Rattle.read_json_lines.specs.Json.{ctx_read, file_items}
use Rattle.read_json_lines.specs.Streams.{IsFit, Starts, count_of, future}

-- the format is JSON or JSON Lines
abbrev pub is_json : Format → Bool
is_json format.Json = true
is_json format.Jsonl = true
is_json _ = false

abbrev pub is_usable : ReadOpts → Bool
is_usable opts = is_json opts.format

-- more bytes may follow, or the end of the file
abbrev pub IsOpen : JsonReader → Type 0
IsOpen reader = reader.stage ≡ Open

abbrev pub HasEnded : JsonReader → Type 0
HasEnded reader = reader.stage ≡ Ended

abbrev pub IsBroken : JsonReader → Type 0
IsBroken reader = reader.stage ≡ Broken

-- an upper bound of the reader's counters, which each byte raises by at most one
abbrev pub used : JsonReader → ℕ
used reader = count_of reader.stream + unwrap_or reader.mark 0

-- the file is open, and `n` more bytes don't overflow the counters
abbrev pub CanTake : JsonReader → ℕ → Type 0
CanTake reader n = IsOpen reader × (used reader + n < 2 ^ 63)

-- the stream has given these items, and the items of the rest of the file are those that it will give
pub record Gave (opts : ReadOpts) (file : FileRef) (start : Ctx) (stream : Stream) (bytes : List ℕ) : Type 0 where
  pub given : List Item
  pub at : stream.at ≡ ctx_after start given
  pub stopped : stream.stopped ≡ has_fault given
  pub fit : IsFit stream
  pub items : (whole : Bool) (rest : List ℕ) → file_items whole opts.infer file (bytes ++ rest) ≡ given ++ future stream whole rest

abbrev pub byte_order_mark : List ℕ
byte_order_mark = 239 ∷ 187 ∷ 191 ∷ []

-- the bytes so far are the first of a byte order mark, or the stream has read them
abbrev pub RepresentsBy : Option ℕ → ReadOpts → FileRef → Ctx → Stream → List ℕ → Type 0
RepresentsBy (Some marked) opts file start stream bytes = Starts stream opts.infer file start 1 × (marked < 3) × (bytes ≡ take marked byte_order_mark)
RepresentsBy None opts file start stream bytes = Gave opts file start stream bytes

abbrev pub Represents : ReadOpts → FileRef → Ctx → JsonReader → List ℕ → Type 0
Represents opts file start reader bytes = RepresentsBy reader.mark opts file start reader.stream bytes

-- the reader has read these bytes as a whole file: its context is that of the last record
abbrev pub RepresentsWhole : ReadOpts → FileRef → Ctx → JsonReader → List ℕ → Type 0
RepresentsWhole opts file start reader bytes = reader.stream.at ≡ ctx_read opts file start bytes

-- the stream has given these events, and has to read the bytes `left` of `all`; then it will have given the
-- items of all
pub record Goes (opts : ReadOpts) (file : FileRef) (start : Ctx) (stream : Stream) (all left : List ℕ) (put : List Event) : Type 0 where
  pub given : List Item
  pub at : stream.at ≡ ctx_after start given
  pub stopped : stream.stopped ≡ has_fault given
  pub fit : IsFit stream
  pub put_is : put ≡ events_of start given
  pub items : (whole : Bool) (rest : List ℕ) → file_items whole opts.infer file (all ++ rest) ≡ given ++ future stream whole (left ++ rest)

-- the reader has to read the bytes `left` of `all`
abbrev pub RepresentsWith : Option ℕ → ReadOpts → FileRef → Ctx → Stream → List ℕ → List ℕ → List Event → Type 0
RepresentsWith (Some marked) opts file start stream all left put = Starts stream opts.infer file start 1 × (marked < 3) × (all ≡ take marked byte_order_mark ++ left) × (put ≡ [])
RepresentsWith None opts file start stream all left put = Goes opts file start stream all left put

-- the reader has read some of the bytes, and appended more events
pub record Moves (opts : ReadOpts) (file : FileRef) (start : Ctx) (marked : Option ℕ) (stream : Stream) (all left : List ℕ) (put before after : List Event) : Type 0 where
  pub more : List Event
  pub events : after ≡ before ++ more
  pub represents : RepresentsWith marked opts file start stream all left (put ++ more)

-- 1 while the mark may continue, else 0
abbrev pub is_waiting : Option ℕ → ℕ
is_waiting (Some marked) = 1
is_waiting None = 0

-- What a reader has left, of which each turn takes some: bytes and inputs, or numbers.
use Rattle.std.proofs.Common.{◌≡◌, ℕ, ◌+◌, ◌-◌, ◌<◌, ◌^◌, false, List, [], ◌∷◌, ◌++◌, Option, Some, None, refl, ap, ◌∙◌, arith}
use Rattle.std.specs.Prelude.{if◌then◌else◌, length, reverse}
use Rattle.std.proofs.lemmas.List.{length-append, length-reverse}
use Rattle.std.proofs.lemmas.List.FromFn.{length-map-range_with_len}
use Rattle.mlr_event.specs.declared.event.Event.{Event}
use Rattle.mlr_event.specs.declared.names.InputName.{InputName}
use Rattle.mlr_event.specs.declared.options.ReadOpts.{ReadOpts}
use Rattle.mlr_world.specs.Taken.{Take}
use Rattle.read_files.specs.declared.open_file.OpenInput.{OpenInput}
use Rattle.read_files.specs.declared.reader.FileReader.{FileReader}
use Rattle.read_files.specs.Takes.{ends, total}
use Rattle.read_files.specs.Represents as file
use Rattle.read_files.proofs.Given.{ends-append}
use Rattle.verbs_seq.specs.Seq.{seq_event}
use Rattle.serial_core.specs.declared.reader.Reader.{Reader}
use Rattle.serial_core.specs.declared.reader.Reader.TheVariants as reader
use Rattle.serial_core.specs.Command.{Origin, files, numbers}
use Rattle.serial_core.specs.Reading.{CameOn, ReaderRepresents}

abbrev pub left : Reader → ℕ
left (reader.Files all) = (2 ^ 60 - all.taken) + (length all.names.items + file.open_count all.current)
left (reader.Numbers all) = all.count - all.given

-- of inputs that were read whole each has ended
all-ended : (prefix : List InputName) (done : List Take) → file.AllRead prefix done → ends done ≡ length prefix
all-ended [] [] read = refl
all-ended [] (take ∷ done) read = absurd read
all-ended (name ∷ prefix) [] read = absurd read
all-ended (name ∷ prefix) (take ∷ done) read =
    let ended : (if take.ended then 1 else 0) ≡ 1 = ap {B = ℕ} (λ t. if t then 1 else 0) read.1 in
    let e : ends (take ∷ done) ≡ length (name ∷ prefix) = omega (arith, ended, all-ended prefix done read.2) in e

-- the inputs that have ended, and those that haven't
inputs-left : (current : Option OpenInput) (opts : ReadOpts) (prefix items : List InputName) (done : List Take) (names : List InputName) (given : List Take)
    → file.AllRead prefix done → file.OpenRepresents current opts prefix (reverse items) done names given → ends given + (length items + file.open_count current) ≡ length names
inputs-left None opts prefix items done names given read represents =
    let ended = ap ends represents.given_is ∙ all-ended prefix done read in
    let all = ap length represents.names_are ∙ length-append prefix (reverse items) in
    omega (arith, ended, all, length-reverse items)
inputs-left (Some input) opts prefix items done names given read represents =
    let last = (record { name = input.name; bytes = represents.bytes; ended = false }) ∷ [] in
    let ended = ap ends represents.given_is ∙ ends-append done last in
    let all = ap length represents.names_are ∙ length-append prefix (input.name ∷ reverse items) in
    omega (arith, ended, all-ended prefix done read, all, length-reverse items)

files-less : (opts : ReadOpts) (names : List InputName) (given given' : List Take) (before after : FileReader) → file.Represents opts names given before → file.Represents opts names given' after
    → total given + ends given < total given' + ends given' → left (reader.Files after) < left (reader.Files before)
files-less opts names given given' before after one two more =
    let l = inputs-left before.current opts one.prefix before.names.items one.done names given one.read one.current in
    let l' = inputs-left after.current opts two.prefix after.names.items two.done names given' two.read two.current in
    omega (arith, more, one.few, two.few, one.taken_is, two.taken_is, l, l')

-- a list with something in it is longer than none
some-length : {A : Type 0} (xs : List A) → (xs ≡ [] → ⊥) → 0 < length xs
some-length [] some = absurd (some refl)
some-length (x ∷ xs) some = let e : 0 < length (x ∷ xs) = omega arith in e

-- each turn leaves less
pub less-left : (origin : Origin) (given given' : List Take) (read put : List Event) (before after : Reader) → ReaderRepresents origin given read before → ReaderRepresents origin given' (read ++ put) after
    → CameOn origin given given' put → left after < left before
less-left (files opts names) given given' read put (reader.Files before) (reader.Files after) one two more = files-less opts names given given' before after one.0 two.0 more
less-left (files opts names) given given' read put (reader.Files before) (reader.Numbers after) one two more = absurd two
less-left (files opts names) given given' read put (reader.Numbers before) after one two more = absurd one
less-left (numbers seq) given given' read put (reader.Files before) after one two more = absurd one
less-left (numbers seq) given given' read put (reader.Numbers before) (reader.Files after) one two more = absurd two
less-left (numbers seq) given given' read put (reader.Numbers before) (reader.Numbers after) one two more =
    let n = ap length one.3 ∙ length-map-range_with_len (seq_event seq) 0 one.0 in
    let n' = ap length two.3 ∙ length-map-range_with_len (seq_event seq) 0 two.0 in
    omega (arith, n, n', length-append read put, some-length put more, one.2.count, one.2.given_is, one.2.within, two.2.count, two.2.given_is, two.2.within)

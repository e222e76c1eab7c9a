-- The message of each outcome, one line on standard error.
use Rattle.std.specs.Prelude.{◌≡◌, ℕ, ◌-◌, ◌==◌, if◌then◌else◌, List, [], ◌∷◌, ◌++◌, codes, slice_get, slice_index_or, Option, Some, None}
use Rattle.std.specs.Fmt.{decimal}
use Rattle.mlr_event.specs.declared.fault.Fault.{Fault}
use Rattle.mlr_event.specs.declared.fault.Fault.TheVariants as fault
use Rattle.mlr_event.specs.declared.names.FileRef.{FileRef}
use Rattle.mlr_event.specs.declared.names.FileRef.TheVariants.{Main, Left}
use Rattle.mlr_event.specs.declared.names.Mode.{Mode}
use Rattle.mlr_event.specs.declared.names.Mode.TheVariants.{Fresh, Append}
use Rattle.mlr_event.specs.declared.names.StyleId.{StyleId}
use Rattle.mlr_event.specs.declared.options.Format.{Format}
use Rattle.mlr_event.specs.declared.options.Format.TheVariants.{Csv, Tsv, Json, Jsonl, Dkvp, Nidx, Xtab, Pprint, Markdown}
use Rattle.mlr_event.specs.declared.options.ReadOpts.{ReadOpts}
use Rattle.mlr_event.specs.declared.names.InputName.{InputName}
use Rattle.mlr_event.specs.declared.names.InputName.TheVariants as input
use Rattle.mlr_event.specs.declared.names.Target.{Target}
use Rattle.mlr_event.specs.declared.names.Target.TheVariants as target
use Rattle.mlr_world.specs.declared.outputs.Done.{Done}
use Rattle.mlr_world.specs.declared.outputs.Done.TheVariants as done
use Rattle.mlr_world.specs.Outputs.{IsPrefixOf, with_bytes}
use Rattle.serial_core.specs.declared.answer.Ended.{Ended}
use Rattle.serial_core.specs.declared.answer.Ended.TheVariants as answer
use Rattle.mlr_event.specs.declared.refusal.Why.{Why}
use Rattle.mlr_event.specs.declared.refusal.Why.TheVariants as why
use Rattle.verb_specs.specs.declared.verb_spec.VerbSpec.{VerbSpec}
use Rattle.verb_specs.specs.Verbs.{left_of}
use Rattle.writers.specs.declared.options.WriteOpts.{WriteOpts}
use Rattle.cli_run.specs.Meaning.{word_at}

abbrev pub input_text : InputName → List ℕ
input_text input.Stdin = codes "(stdin)"
input_text (input.File name) = name

abbrev pub target_text : Target → List ℕ
target_text target.Stdout = codes "(stdout)"
target_text target.Stderr = codes "(stderr)"
target_text (target.File name) = name

-- the name of the input with this number from 1; none of number 0 or past the last
abbrev pub named : List InputName → ℕ → List ℕ
named inputs number = if number == 0 then [] else elim (slice_get inputs (number - 1)) [ Some name ↦ input_text name | None ↦ [] ]

-- the name of a left file; none where a verb has no left file
abbrev pub left_text : Option (InputName × ReadOpts) → List ℕ
left_text (Some file) = input_text file.0
left_text None = []

-- the name of the left file of the verb with this number from 1; none of number 0 or past the last
abbrev pub left_named : List VerbSpec → ℕ → List ℕ
left_named verbs number = if number == 0 then [] else elim (slice_get verbs (number - 1)) [ Some spec ↦ left_text (left_of spec) | None ↦ [] ]

abbrev pub file_text : List InputName → List VerbSpec → FileRef → List ℕ
file_text inputs verbs (Main number) = named inputs number
file_text inputs verbs (Left number) = left_named verbs number

-- how an output was opened, and the format of its style; a style of no row is written by row 0
abbrev pub mode_text : Mode → List ℕ
mode_text Fresh = codes "> "
mode_text Append = codes ">> "

abbrev pub format_text : Format → List ℕ
format_text Csv = codes "csv"
format_text Tsv = codes "tsv"
format_text Json = codes "json"
format_text Jsonl = codes "jsonl"
format_text Dkvp = codes "dkvp"
format_text Nidx = codes "nidx"
format_text Xtab = codes "xtab"
format_text Pprint = codes "pprint"
format_text Markdown = codes "markdown"

abbrev pub style_text : List WriteOpts → StyleId → List ℕ
style_text [] style = []
style_text (first ∷ styles) style = format_text (slice_index_or (first ∷ styles) style.0 first).format

-- the texts of a message, between which it says its values: a row for each answer
abbrev pub word_texts : Why → List (List ℕ)
word_texts why.NoVerb = codes "mlr: word " ∷ codes ": no verb\n" ∷ []
word_texts why.UnknownFlag = codes "mlr: word " ∷ codes ": unknown flag: " ∷ codes "\n" ∷ []
word_texts why.UnknownVerb = codes "mlr: word " ∷ codes ": unknown verb: " ∷ codes "\n" ∷ []
word_texts why.MissingArgument = codes "mlr: word " ∷ codes ": missing argument: " ∷ codes "\n" ∷ []
word_texts why.BadNumber = codes "mlr: word " ∷ codes ": bad number: " ∷ codes "\n" ∷ []
word_texts why.BadSeparator = codes "mlr: word " ∷ codes ": bad separator: " ∷ codes "\n" ∷ []
word_texts why.BadPattern = codes "mlr: word " ∷ codes ": bad pattern: " ∷ codes "\n" ∷ []
word_texts why.PatternSize = codes "mlr: word " ∷ codes ": pattern too large: " ∷ codes "\n" ∷ []
word_texts why.TooManyVerbs = codes "mlr: word " ∷ codes ": too many verbs: " ∷ codes "\n" ∷ []
word_texts why.Clash = codes "mlr: word " ∷ codes ": clash: " ∷ codes "\n" ∷ []
word_texts why.NotBuilt = codes "mlr: word " ∷ codes ": not built: " ∷ codes "\n" ∷ []

abbrev pub fault_texts : Fault → List (List ℕ)
fault_texts (fault.Length file line want have) = codes "mlr: " ∷ codes ": line " ∷ codes ": data length " ∷ codes ", header length " ∷ codes "\n" ∷ []
fault_texts (fault.Quote file line) = codes "mlr: " ∷ codes ": line " ∷ codes ": unclosed quote\n" ∷ []
fault_texts (fault.Table file line) = codes "mlr: " ∷ codes ": line " ∷ codes ": bad table line\n" ∷ []
fault_texts (fault.JsonSyntax file byte) = codes "mlr: " ∷ codes ": byte " ∷ codes ": bad JSON\n" ∷ []
fault_texts (fault.JsonDeep file byte) = codes "mlr: " ∷ codes ": byte " ∷ codes ": nested deeper than 100\n" ∷ []
fault_texts (fault.JsonKind file byte) = codes "mlr: " ∷ codes ": byte " ∷ codes ": not a map\n" ∷ []
fault_texts (fault.Turns verb nr limit) = codes "mlr: verb " ∷ codes ": record " ∷ codes ": turn limit " ∷ codes " reached\n" ∷ []
fault_texts (fault.Depth verb nr) = codes "mlr: verb " ∷ codes ": record " ∷ codes ": call limit 500 reached\n" ∷ []
fault_texts (fault.Assert verb nr name) = codes "mlr: verb " ∷ codes ": record " ∷ codes ": assertion " ∷ codes " failed\n" ∷ []
fault_texts (fault.WrongType verb nr name) = codes "mlr: verb " ∷ codes ": record " ∷ codes ": wrong type for " ∷ codes "\n" ∷ []
fault_texts (fault.Index verb nr) = codes "mlr: verb " ∷ codes ": record " ∷ codes ": bad index\n" ∷ []
fault_texts (fault.OutputTwice name first_mode first second_mode second) = codes "mlr: output " ∷ codes ": first " ∷ [] ∷ codes ", then " ∷ [] ∷ codes "\n" ∷ []

abbrev pub texts_of : Ended → List (List ℕ)
texts_of answer.Done = []
texts_of (answer.Refused refusal) = word_texts refusal.why
texts_of (answer.Data fault) = fault_texts fault
texts_of (answer.Read name) = codes "mlr: cannot read " ∷ codes "\n" ∷ []
texts_of (answer.Written target) = codes "mlr: cannot write " ∷ codes "\n" ∷ []
texts_of answer.TooLong = codes "mlr: input too long\n" ∷ []
texts_of answer.NoMemory = codes "mlr: out of memory\n" ∷ []

-- the values that a message says
abbrev pub fault_values : List InputName → List VerbSpec → List WriteOpts → Fault → List (List ℕ)
fault_values inputs verbs styles (fault.Length file line want have) = file_text inputs verbs file ∷ decimal line ∷ decimal have ∷ decimal want ∷ []
fault_values inputs verbs styles (fault.Quote file line) = file_text inputs verbs file ∷ decimal line ∷ []
fault_values inputs verbs styles (fault.Table file line) = file_text inputs verbs file ∷ decimal line ∷ []
fault_values inputs verbs styles (fault.JsonSyntax file byte) = file_text inputs verbs file ∷ decimal byte ∷ []
fault_values inputs verbs styles (fault.JsonDeep file byte) = file_text inputs verbs file ∷ decimal byte ∷ []
fault_values inputs verbs styles (fault.JsonKind file byte) = file_text inputs verbs file ∷ decimal byte ∷ []
fault_values inputs verbs styles (fault.Turns verb nr limit) = decimal verb ∷ decimal nr ∷ decimal limit ∷ []
fault_values inputs verbs styles (fault.Depth verb nr) = decimal verb ∷ decimal nr ∷ []
fault_values inputs verbs styles (fault.Assert verb nr name) = decimal verb ∷ decimal nr ∷ name ∷ []
fault_values inputs verbs styles (fault.WrongType verb nr name) = decimal verb ∷ decimal nr ∷ name ∷ []
fault_values inputs verbs styles (fault.Index verb nr) = decimal verb ∷ decimal nr ∷ []
fault_values inputs verbs styles (fault.OutputTwice name first_mode first second_mode second) =
    name ∷ mode_text first_mode ∷ style_text styles first ∷ mode_text second_mode ∷ style_text styles second ∷ []

-- a word by its number, and the word itself where there is one
abbrev pub values_of : List (List ℕ) → List InputName → List VerbSpec → List WriteOpts → Ended → List (List ℕ)
values_of words inputs verbs styles answer.Done = []
values_of words inputs verbs styles (answer.Refused refusal) = decimal refusal.word ∷ word_at words refusal.word ∷ []
values_of words inputs verbs styles (answer.Data fault) = fault_values inputs verbs styles fault
values_of words inputs verbs styles (answer.Read name) = input_text name ∷ []
values_of words inputs verbs styles (answer.Written target) = target_text target ∷ []
values_of words inputs verbs styles answer.TooLong = []
values_of words inputs verbs styles answer.NoMemory = []

-- texts with a value after each but the last
abbrev pub with_values : List (List ℕ) → List (List ℕ) → List ℕ
with_values [] values = []
with_values (text ∷ []) values = text
with_values (text ∷ next ∷ texts) [] = text ++ with_values (next ∷ texts) []
with_values (text ∷ next ∷ texts) (value ∷ values) = text ++ value ++ with_values (next ∷ texts) values

-- the message of an outcome, by the words of a command line, its inputs, its verbs and its styles
abbrev pub message_of : List (List ℕ) → List InputName → List VerbSpec → List WriteOpts → Ended → List ℕ
message_of words inputs verbs styles ended = with_values (texts_of ended) (values_of words inputs verbs styles ended)

-- a target after a text was written to it in pieces: all of it, or a prefix where a call couldn't write
abbrev pub Appends : List ℕ → Done → Option (List ℕ) → Option (List ℕ) → Type 0
Appends text done.Ok before now = now ≡ with_bytes text before
Appends text done.Failed before now = (prefix : List ℕ) × IsPrefixOf text prefix × (now ≡ with_bytes prefix before)
Appends text done.NoMemory before now = (prefix : List ℕ) × IsPrefixOf text prefix × (now ≡ with_bytes prefix before)

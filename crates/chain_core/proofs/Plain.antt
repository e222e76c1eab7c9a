-- Readers and verbs without effects make no pieces.
use Rattle.std.proofs.Common.{◌≡◌, ℕ, Bool, true, false, not, ◌&&◌, List, [], ◌∷◌, ◌++◌, Option, Some, None, refl, ap₂, sym, ◌∙◌, subst, cond}
use Rattle.std.specs.Prelude.{if◌then◌else◌, map}
use Rattle.std.specs.List.{find, list_all, list_any, range_with_len}
use Rattle.std.proofs.lemmas.Bool.{and_parts}
use Rattle.std.proofs.lemmas.List.Folds.{list_all-append}
use Rattle.mlr_event.specs.declared.event.Ctx.{Ctx}
use Rattle.mlr_event.specs.declared.event.Event.{Event}
use Rattle.mlr_event.specs.declared.event.Event.TheVariants as event
use Rattle.mlr_event.specs.declared.options.Format.{Format}
use Rattle.mlr_event.specs.declared.options.Format.TheVariants as format
use Rattle.mlr_event.specs.declared.options.ReadOpts.{ReadOpts}
use Rattle.mlr_event.specs.Reading.{Item, comment, fields, fault, events_of, next}
use Rattle.mlr_event.specs.Verb.{GivesRecords, Verb, gives, is_fault, is_open, is_record, made, made_after, then_unless_fault}
use Rattle.mlr_world.specs.Taken.{Take}
use Rattle.read_files.specs.Sources.{Source, ctx_after_take, ctx_from, events_from, events_taken, gives_as, is_whole, take_gives, until_fault, zero_context}
use Rattle.verb_chain.specs.Chain.{chain, chain_from, closing, cut, last_context, prefixes}
use Rattle.verb_chain.specs.Chain as chains
use Rattle.verb_chain.specs.Represents.{made_at}
use Rattle.verbs_base.specs.Laws.{verb-quiet}
use Rattle.verbs_base.specs.Records.{RecordVerb, verb_of}
use Rattle.verbs_seq.specs.declared.seq_spec.SeqSpec.{SeqSpec}
use Rattle.verbs_seq.specs.Seq.{seq_context, seq_count, seq_event}
use Rattle.serial_core.specs.Command.{Command, Origin, files, numbers, given_by, result}
use Rattle.chain_core.proofs.OverRecords.{AreOverRecords}

abbrev pub is_plain : Event → Bool
is_plain (event.Rec pairs ctx) = true
is_plain (event.Text text) = true
is_plain (event.Out target piece) = false
is_plain (event.End ctx) = true
is_plain (event.Fault found) = true

abbrev pub are_plain : List Event → Bool
are_plain events = list_all is_plain events

both-plain : (xs ys : List Event) → are_plain xs ≡ true → are_plain ys ≡ true → are_plain (xs ++ ys) ≡ true
both-plain xs ys x y = list_all-append is_plain xs ys ∙ ap₂ (λ a b. a && b) x y

if-plain : (b : Bool) (xs ys : List Event) → are_plain xs ≡ true → are_plain ys ≡ true → are_plain (if b then xs else ys) ≡ true
if-plain true xs ys x y = x
if-plain false xs ys x y = y

-- what a file gives
items-plain : (at : Ctx) (items : List Item) → are_plain (events_of at items) ≡ true
items-plain at [] = refl
items-plain at (comment text ∷ items) = items-plain at items
items-plain at (fields pairs ∷ items) = items-plain (next at) items
items-plain at (fault found ∷ items) = refl

gives-plain : (fmt : Format) (from : Source) (ended : Bool) (bytes : List ℕ) → are_plain (gives_as fmt from ended bytes) ≡ true
gives-plain format.Csv from true bytes = search (items-plain)
gives-plain format.Csv from false bytes = search (items-plain)
gives-plain format.Tsv from true bytes = search (items-plain)
gives-plain format.Tsv from false bytes = search (items-plain)
gives-plain format.Dkvp from true bytes = search (items-plain)
gives-plain format.Dkvp from false bytes = search (items-plain)
gives-plain format.Nidx from true bytes = search (items-plain)
gives-plain format.Nidx from false bytes = search (items-plain)
gives-plain format.Markdown from true bytes = search (items-plain)
gives-plain format.Markdown from false bytes = search (items-plain)
gives-plain format.Xtab from true bytes = search (items-plain)
gives-plain format.Xtab from false bytes = search (items-plain)
gives-plain format.Pprint from true bytes = search (items-plain)
gives-plain format.Pprint from false bytes = search (items-plain)
gives-plain format.Json from true bytes = search (items-plain)
gives-plain format.Json from false bytes = search (items-plain)
gives-plain format.Jsonl from true bytes = search (items-plain)
gives-plain format.Jsonl from false bytes = search (items-plain)

from-plain : (opts : ReadOpts) (ctx : Ctx) (takes : List Take) → are_plain (events_from opts ctx takes) ≡ true
from-plain opts ctx [] = refl
from-plain opts ctx (take ∷ takes) =
    both-plain (take_gives opts ctx take) (events_from opts (ctx_after_take opts ctx take) takes) (gives-plain opts.format _ take.ended take.bytes) (from-plain opts (ctx_after_take opts ctx take) takes)

until-plain : (events : List Event) → are_plain events ≡ true → are_plain (until_fault events) ≡ true
until-plain [] plain = refl
until-plain (e ∷ events) plain =
    let parts = and_parts (is_plain e) (are_plain events) plain in
    ap₂ (λ a b. a && b) parts.0 (if-plain (is_fault e) [] (until_fault events) refl (until-plain events parts.1))

numbers-plain : (seq : SeqSpec) (places : List ℕ) → are_plain (map (seq_event seq) places) ≡ true
numbers-plain seq [] = refl
numbers-plain seq (place ∷ places) = numbers-plain seq places

given-plain : (origin : Origin) (takes : List Take) → are_plain (given_by origin takes) ≡ true
given-plain (files opts names) takes =
    both-plain (events_taken opts takes) (if is_whole opts names takes then event.End (ctx_from opts zero_context takes) ∷ [] else []) (until-plain (events_from opts zero_context takes) (from-plain opts zero_context takes))
    (if-plain (is_whole opts names takes) (event.End (ctx_from opts zero_context takes) ∷ []) [] refl refl)
given-plain (numbers seq) takes = both-plain (map (seq_event seq) (range_with_len 0 (seq_count seq))) (event.End (seq_context (seq_count seq)) ∷ []) (numbers-plain seq (range_with_len 0 (seq_count seq))) refl

-- what a verb that gives only records makes
records-plain : (events : List Event) → list_all is_record events ≡ true → are_plain events ≡ true
records-plain [] all = refl
records-plain (event.Rec pairs ctx ∷ events) all = records-plain events all
records-plain (event.Text text ∷ events) all = absurd (let e : false ≡ true = all in cc)
records-plain (event.Out target piece ∷ events) all = absurd (let e : false ≡ true = all in cc)
records-plain (event.End ctx ∷ events) all = absurd (let e : false ≡ true = all in cc)
records-plain (event.Fault found ∷ events) all = absurd (let e : false ≡ true = all in cc)

then-plain : (events more : List Event) → are_plain events ≡ true → are_plain more ≡ true → are_plain (then_unless_fault events more) ≡ true
then-plain events more x y = if-plain (list_any is_fault events) events (events ++ more) x (both-plain events more x y)

module _ (verb : Verb) (only : GivesRecords verb) where
  event-plain : (before : List Event) (e : Event) → is_plain e ≡ true → are_plain (gives verb before e) ≡ true
  event-plain before (event.Rec pairs ctx) plain = records-plain (verb.now before pairs ctx) (only.now before pairs ctx)
  event-plain before (event.Text text) plain = refl
  event-plain before (event.Out target piece) plain = absurd (let e : false ≡ true = plain in cc)
  event-plain before (event.End ctx) plain = then-plain (verb.late before ctx) (event.End ctx ∷ []) (records-plain (verb.late before ctx) (only.late before ctx)) refl
  event-plain before (event.Fault found) plain = refl

  after-plain : (before events : List Event) → are_plain events ≡ true → are_plain (made_after verb before events) ≡ true
  after-plain before [] plain = refl
  after-plain before (e ∷ events) plain =
      let parts = and_parts (is_plain e) (are_plain events) plain in
      then-plain (gives verb before e) (made_after verb (before ++ e ∷ []) events) (event-plain before e parts.0) (after-plain (before ++ e ∷ []) events parts.1)

  made-plain : (events : List Event) → are_plain events ≡ true → are_plain (made verb events) ≡ true
  made-plain events plain = then-plain verb.first (made_after verb [] events) (records-plain verb.first only.first) (after-plain [] events plain)

-- what a verb at its place is given
longer-plain : (x : Event) (lists : List (List Event)) → is_plain x ≡ true → list_all are_plain lists ≡ true → list_all are_plain (map (λ prefix. x ∷ prefix) lists) ≡ true
longer-plain x [] plain all = refl
longer-plain x (prefix ∷ lists) plain all =
    let parts = and_parts (are_plain prefix) (list_all are_plain lists) all in
    ap₂ (λ a b. a && b) (ap₂ (λ a b. a && b) plain parts.0) (longer-plain x lists plain parts.1)

prefixes-plain : (events : List Event) → are_plain events ≡ true → list_all are_plain (prefixes events) ≡ true
prefixes-plain [] plain = refl
prefixes-plain (x ∷ events) plain =
    let parts = and_parts (is_plain x) (are_plain events) plain in
    longer-plain x (prefixes events) parts.0 (prefixes-plain events parts.1)

pick-plain : (b : Bool) (one : List Event) (rest : Option (List Event)) (found : List Event) → cond b (Some one) rest ≡ Some found → are_plain one ≡ true → (rest ≡ Some found → are_plain found ≡ true) → are_plain found ≡ true
pick-plain true one rest found is plain later = subst (λ events. are_plain events ≡ true) (let e : Some one ≡ Some found = is in let f : one ≡ found = cc in f) plain
pick-plain false one rest found is plain later = later is

found-plain : (test : List Event → Bool) (lists : List (List Event)) (found : List Event) → list_all are_plain lists ≡ true → find test lists ≡ Some found → are_plain found ≡ true
found-plain test [] found all is = absurd (let e : None ≡ Some found = is in let f = e in cc)
found-plain test (one ∷ lists) found all is =
    let parts = and_parts (are_plain one) (list_all are_plain lists) all in
    pick-plain (test one) one (find test lists) found is parts.0 (found-plain test lists found parts.1)

cut-plain : (quiet : Bool) (verb : Verb) (events : List Event) → are_plain events ≡ true → are_plain (cut quiet verb events) ≡ true
cut-plain false verb events plain = plain
cut-plain true verb events plain = from (closing verb events) refl
  where
    from : (closes : Option (List Event)) → closing verb events ≡ closes → are_plain (elim closes [ Some prefix ↦ prefix ++ event.End (last_context chains.zero_context prefix) ∷ [] | None ↦ events ]) ≡ true
    from None is = plain
    from (Some prefix) is =
        both-plain prefix (event.End (last_context chains.zero_context prefix) ∷ []) (found-plain (λ p. is_open p && verb.closed p) (prefixes events) prefix (prefixes-plain events plain) is) refl

record-plain : (verb : RecordVerb) (quiet : Bool) (events : List Event) → are_plain events ≡ true → are_plain (made_at quiet (verb_of verb) events) ≡ true
record-plain verb quiet events plain = made-plain (verb_of verb) (verb-quiet verb refl) (cut quiet (verb_of verb) events) (cut-plain quiet (verb_of verb) events plain)

chain-plain : (verbs : List Verb) → AreOverRecords verbs → (quiet : Bool) (events : List Event) → are_plain events ≡ true → are_plain (chain_from quiet verbs events) ≡ true
chain-plain [] are quiet events plain = plain
chain-plain (verb ∷ verbs) are quiet events plain =
    chain-plain verbs are.1 (quiet && not verb.effects) (made_at quiet verb events) (subst (λ v. are_plain (made_at quiet v events) ≡ true) (sym are.0.1) (record-plain are.0.0 quiet events plain))

-- no piece is in the result of a command whose verbs are over records
pub result-plain : (command : Command) → AreOverRecords command.verbs → (takes : List Take) → are_plain (result command takes) ≡ true
result-plain command are takes = chain-plain command.verbs are true (given_by command.origin takes) (given-plain command.origin takes)

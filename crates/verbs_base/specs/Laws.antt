-- A verb over records satisfies the laws of verbs.
use Rattle.std.proofs.Common.{◌≡◌, Bool, true, false, List, [], ◌∷◌, ◌++◌, refl, ap, sym, ◌∙◌, subst}
use Rattle.std.specs.List.{list_all}
use Rattle.std.proofs.lemmas.Grind.{flat_map-append}
use Rattle.std.proofs.lemmas.List.{map-append}
use Rattle.mlr_event.specs.declared.event.Ctx.{Ctx}
use Rattle.mlr_event.specs.Parts.{records-part}
use Rattle.mlr_event.specs.Passing.{passes-all}
use Rattle.mlr_event.specs.Verb.{IsQuiet, KeepsOrder, PassesAll, StaysClosed, is_record}
use Rattle.verbs_base.specs.Records.{Fields, PassesEach, RecordVerb, Row, StaysShut, events_of, records, row_in, rows_in, streams, verb_of, with_context}

-- it gives only records
pub context-records : (ctx : Ctx) (given : List Fields) → list_all is_record (with_context ctx given) ≡ true
context-records ctx [] = refl
context-records ctx (fields ∷ given) = context-records ctx given

pub rows-records : (given : List Row) → list_all is_record (events_of given) ≡ true
rows-records [] = refl
rows-records (row ∷ given) = rows-records given

pub verb-quiet : (verb : RecordVerb) → IsQuiet (verb_of verb)
verb-quiet verb none = record {
  first = refl;
  now = λ before fields ctx. context-records ctx (verb.gives (records (rows_in before)) fields);
  late = λ before ctx. rows-records (verb.late (rows_in before) ctx);
}

pub verb-orderly : (verb : RecordVerb) → KeepsOrder (verb_of verb)
verb-orderly verb = record {
  first = refl;
  now = λ before fields ctx. records-part (with_context ctx (verb.gives (records (rows_in before)) fields)) (context-records ctx (verb.gives (records (rows_in before)) fields));
  late = λ before ctx. records-part (events_of (verb.late (rows_in before) ctx)) (rows-records (verb.late (rows_in before) ctx));
}

pub verb-closes : (verb : RecordVerb) → StaysShut verb → StaysClosed (verb_of verb)
verb-closes verb shuts before following is =
    let shut = shuts (rows_in before) (rows_in following) is in (
      λ fields ctx. ap (with_context ctx) (ap (λ given. verb.gives (records given) fields) (flat_map-append row_in before following) ∙ shut.0 fields),
      λ ctx. ap events_of (ap (λ given. verb.late given ctx) (flat_map-append row_in before following) ∙ shut.1 ctx),
    )

-- a verb that never closes
pub never-shuts : (gives : List Fields → Fields → List Fields) (late : List Row → Ctx → List Row) → StaysShut (record { gives = gives; late = late; closed = λ before. false })
never-shuts gives late before following is = absurd (let e : false ≡ true = is in cc)

pub stream-shuts : (gives : List Fields → Fields → List Fields) → StaysShut (streams gives)
stream-shuts gives = never-shuts gives (λ before ctx. [])

-- a verb that gives nothing at the end, and nothing once it is closed
pub shuts-early : (gives : List Fields → Fields → List Fields) (closed : List Fields → Bool)
    → ((before following : List Fields) (fields : Fields) → closed before ≡ true → gives (before ++ following) fields ≡ [])
    → StaysShut (record { gives = gives; late = λ before ctx. []; closed = closed })
shuts-early gives closed shut before following is = (
  λ fields. ap (λ given. gives given fields) (map-append (λ row. row.0) before following) ∙ shut (records before) (records following) fields is,
  λ ctx. refl,
)

-- a verb that gives each record as it is gives each list as it is
pub verb-passes : (verb : RecordVerb) (represents : List Row → Type 0) → PassesEach verb represents → PassesAll (verb_of verb) (λ given. represents (rows_in given))
verb-passes verb represents passes = record {
  same = passes-all (verb_of verb) (λ before fields ctx. ap (with_context ctx) (passes.same (records (rows_in before)) fields)) (λ before ctx. ap events_of (passes.late (rows_in before) ctx)) refl;
  unclosed = λ events. passes.unclosed (records (rows_in events));
  keeps = λ given following holds. subst represents (sym (flat_map-append row_in given following)) (passes.keeps (rows_in given) (rows_in following) holds);
}

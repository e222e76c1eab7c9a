-- Records that a verb was given, and records that it gives with one context.
use Rattle.std.proofs.Common.{◌≡◌, ℕ, zero, suc, List, [], ◌∷◌, ◌++◌, replicate, refl, ap, Result, Ok, Err, OnOk}
use Rattle.std.proofs.lemmas.List.{map-append}
use Rattle.mlr_event.specs.declared.event.Ctx.{Ctx}
use Rattle.mlr_event.specs.declared.event.Event.TheVariants as event
use Rattle.verbs_base.specs.Records.{Fields, Row, records, with_context}

pub records-push : (before : List Row) (fields : Fields) (ctx : Ctx) → records (before ++ (fields, ctx) ∷ []) ≡ records before ++ fields ∷ []
records-push before fields ctx = map-append (λ row. row.0) before ((fields, ctx) ∷ [])

pub context-replicate : (ctx : Ctx) (n : ℕ) (fields : Fields) → with_context ctx (replicate n fields) ≡ replicate n (event.Rec fields ctx)
context-replicate ctx zero fields = refl
context-replicate ctx (suc n) fields = ap (λ more. event.Rec fields ctx ∷ more) (context-replicate ctx n fields)

-- what holds always holds where a call is `Ok`
pub on-ok : {T E P : Type 0} (result : Result T E) → P → OnOk result P
on-ok (Ok value) holds = holds
on-ok (Err error) holds = tt

-- What inputs give is a list, and extends as more is taken.
use Rattle.std.proofs.Common.{◌≡◌, ℕ, true, false, not, ◌||◌, List, [], ◌∷◌, ◌++◌, Some, refl, ap, ap₂, sym, ◌∙◌, append_assoc, inl, inr}
use Rattle.std.specs.Prelude.{is_some, if◌then◌else◌}
use Rattle.std.specs.List.{list_any}
use Rattle.std.proofs.lemmas.Bool.{and_parts, cases_Bool, not-true}
use Rattle.std.proofs.lemmas.List.{append-nil}
use Rattle.std.proofs.lemmas.List.Folds.{list_any-append}
use Rattle.mlr_event.specs.declared.event.Ctx.{Ctx}
use Rattle.mlr_event.specs.declared.event.Event.{Event}
use Rattle.mlr_event.specs.declared.event.Event.TheVariants.{End}
use Rattle.mlr_event.specs.declared.names.InputName.{InputName}
use Rattle.mlr_event.specs.declared.options.ReadOpts.{ReadOpts}
use Rattle.mlr_event.specs.Verb.{is_end, is_fault, is_list}
use Rattle.mlr_world.specs.Inputs.{Contents}
use Rattle.mlr_world.specs.Taken.{Take}
use Rattle.read_files.specs.Takes.{ArePrefixesTaken, AreWhole, GoesOn, InOrder, IsPrefixTaken, TakeGoesOn, stops_at}
use Rattle.read_files.specs.Sources.{ctx_after_take, ctx_after_events, ctx_from, events_from, events_taken, gives_as, is_whole, next_file, source, take_gives, until_fault, zero_context}
use Rattle.read_files.specs.Represents.{source_after}
use Rattle.read_files.proofs.Events.{ended-list, fault-none, part-no_end, until-grows, until-prefix}
use Rattle.read_files.proofs.Formats.{Growth, gives-part}

-- no end is among what inputs give
pub inputs-no_end : (opts : ReadOpts) (ctx : Ctx) (given : List Take) → list_any is_end (events_from opts ctx given) ≡ false
inputs-no_end opts ctx [] = refl
inputs-no_end opts ctx (t ∷ given) =
    list_any-append is_end (take_gives opts ctx t) (events_from opts (ctx_after_take opts ctx t) given)
    ∙ ap₂ (λ a b. a || b) (part-no_end (take_gives opts ctx t) (gives-part opts.format (source_after opts ctx) t.ended t.bytes)) (inputs-no_end opts (ctx_after_take opts ctx t) given)

pub inputs-list : (opts : ReadOpts) (names : List InputName) (given : List Take) → is_list (source opts names given) ≡ true
inputs-list opts names given =
    ended-list (events_from opts zero_context given) (End (ctx_from opts zero_context given)) (is_whole opts names given) (inputs-no_end opts zero_context given)
    (λ whole. fault-none (events_from opts zero_context given) (not-true (list_any is_fault (events_taken opts given)) (and_parts (not (is_some (stops_at names given))) (not (list_any is_fault (events_taken opts given))) whole).1))

-- of one input more was taken
module _ (growth : Growth) (opts : ReadOpts) where
  -- all of it was taken
  whole-same : (ctx : Ctx) (t u : Take) → TakeGoesOn t u → t.ended ≡ true → take_gives opts ctx u ≡ take_gives opts ctx t
  whole-same ctx t u on e =
      let all = on.1.2 e in
      ap₂ (λ ended bytes. gives_as opts.format (source_after opts ctx) ended bytes) (all.1 ∙ sym e) (on.1.1 ∙ ap (λ more. t.bytes ++ more) all.0 ∙ append-nil t.bytes)

  take-grows : (ctx : Ctx) (t u : Take) → TakeGoesOn t u → (more : List Event) × (take_gives opts ctx u ≡ take_gives opts ctx t ++ more)
  take-grows ctx t u on = elim (cases_Bool t.ended) [
    | inl is ↦ ([], whole-same ctx t u on is ∙ sym (append-nil (take_gives opts ctx t)))
    | inr none ↦
        let more = growth opts.format (source_after opts ctx) u.ended t.bytes on.1.0 in (
          more.0,
          ap (gives_as opts.format (source_after opts ctx) u.ended) on.1.1 ∙ more.1 ∙ ap (λ ended. gives_as opts.format (source_after opts ctx) ended t.bytes ++ more.0) (sym none),
        )
  ]

  -- of all inputs
  inputs-grow : (ctx : Ctx) (names : List InputName) (given longer : List Take) → InOrder names given → GoesOn given longer
      → (more : List Event) × (until_fault (events_from opts ctx longer) ≡ until_fault (events_from opts ctx given) ++ more)
  inputs-grow ctx names [] longer order on = (until_fault (events_from opts ctx longer), refl)
  inputs-grow ctx names (t ∷ given) [] order on = absurd on
  inputs-grow ctx [] (t ∷ given) (u ∷ longer) order on = absurd order
  inputs-grow ctx (name ∷ names) (t ∷ []) (u ∷ longer) order on =
      let here = take_gives opts ctx t in
      let more = take-grows ctx t u on.0 in
      let rest = events_from opts (ctx_after_take opts ctx u) longer in
      let grown = until-grows here (more.0 ++ rest) in (
        grown.0,
        ap until_fault (ap (λ e. e ++ rest) more.1 ∙ append_assoc here more.0 rest) ∙ grown.1 ∙ ap (λ e. until_fault e ++ grown.0) (sym (append-nil here)),
      )
  inputs-grow ctx (name ∷ names) (t ∷ next ∷ given) (u ∷ longer) order on =
      let here = take_gives opts ctx t in
      let following = ctx_after_take opts ctx t in
      let more = until-prefix here (events_from opts following (next ∷ given)) (events_from opts following longer) (inputs-grow following names (next ∷ given) longer order.2 on.1) in (
        more.0,
        ap (λ e. until_fault (e ++ events_from opts (ctx_after_events (next_file ctx) e) longer)) (whole-same ctx t u on.0 order.1) ∙ more.1,
      )

  pub source-grows : (names : List InputName) (given longer : List Take) → InOrder names given → GoesOn given longer → (more : List Event) × (source opts names longer ≡ events_taken opts given ++ more)
  source-grows names given longer order on =
      let more = inputs-grow zero_context names given longer order on in
      let tail = (if is_whole opts names longer then End (ctx_from opts zero_context longer) ∷ [] else []) in
      (more.0 ++ tail, ap (λ e. e ++ tail) more.1 ∙ append_assoc (events_taken opts given) more.0 tail)

-- the whole extends what was taken
take-whole : (told : Contents) (name : InputName) (t u : Take) → t.name ≡ name → IsPrefixTaken told t → u.name ≡ name → u.ended ≡ true → told name ≡ Some u.bytes → TakeGoesOn t u
take-whole told name t u same prefix same' ended holds =
    (same' ∙ sym same, (prefix.0, some-is (sym holds ∙ ap told (sym same) ∙ prefix.1), λ e. (prefix.2 e, ended)))
  where
    some-is : {x y : List ℕ} → Some x ≡ Some y → x ≡ y
    some-is e = cc

pub inputs-whole : (told : Contents) (names : List InputName) (given whole : List Take) → InOrder names given → ArePrefixesTaken told given → AreWhole told names whole → GoesOn given whole
inputs-whole told names [] whole order prefixes all = tt
inputs-whole told [] (t ∷ given) whole order prefixes all = absurd order
inputs-whole told (name ∷ names) (t ∷ given) [] order prefixes all = absurd all
inputs-whole told (name ∷ names) (t ∷ []) (u ∷ whole) order prefixes all = (take-whole told name t u order prefixes.0 all.0 all.1 all.2, tt)
inputs-whole told (name ∷ names) (t ∷ next ∷ given) (u ∷ whole) order prefixes all =
    (take-whole told name t u order.0 prefixes.0 all.0 all.1 all.2, inputs-whole told names (next ∷ given) whole order.2 prefixes.1 all.3)

-- Inputs that were taken one after another.
use Rattle.std.proofs.Common.{◌≡◌, ◌+◌, true, List, [], ◌∷◌, ◌++◌, Some, refl, ap, sym, ◌∙◌, append_assoc, arith}
use Rattle.std.specs.Prelude.{IfSome, if◌then◌else◌}
use Rattle.std.proofs.lemmas.List.{append-nil}
use Rattle.mlr_event.specs.declared.event.Ctx.{Ctx}
use Rattle.mlr_event.specs.declared.names.InputName.{InputName}
use Rattle.mlr_event.specs.declared.options.ReadOpts.{ReadOpts}
use Rattle.mlr_world.specs.Inputs.{Contents}
use Rattle.mlr_world.specs.Taken.{Take}
use Rattle.read_files.specs.Takes.{ArePrefixesTaken, GoesOn, InOrder, TakeGoesOn, ends, last_take, stops_at, total, with_last}
use Rattle.read_files.specs.Sources.{ctx_after_take, ctx_from, events_from, take_gives}
use Rattle.read_files.specs.Represents.{AllRead}

-- what stops, and the order, after inputs that were read whole
pub stops-following : (names more : List InputName) (given takes : List Take) → AllRead names given → stops_at (names ++ more) (given ++ takes) ≡ stops_at more takes
stops-following [] more [] takes read = refl
stops-following [] more (t ∷ given) takes read = absurd read
stops-following (name ∷ names) more [] takes read = absurd read
stops-following (name ∷ names) more (t ∷ given) takes read =
    ap (λ ended. if ended then stops_at (names ++ more) (given ++ takes) else Some name) read.1 ∙ stops-following names more given takes read.2

pub order-following : (names more : List InputName) (given takes : List Take) → AllRead names given → InOrder more takes → InOrder (names ++ more) (given ++ takes)
order-following [] more [] takes read order = order
order-following [] more (t ∷ given) takes read order = absurd read
order-following (name ∷ names) more [] takes read order = absurd read
order-following (name ∷ names) more (t ∷ []) [] read order = read.0
order-following (name ∷ names) more (t ∷ []) (u ∷ takes) read order = (read.0, read.1, order-following names more [] (u ∷ takes) read.2 order)
order-following (name ∷ names) more (t ∷ u ∷ given) takes read order = (read.0, read.1, order-following names more (u ∷ given) takes read.2 order)

pub read-append : (names more : List InputName) (given takes : List Take) → AllRead names given → AllRead more takes → AllRead (names ++ more) (given ++ takes)
read-append [] more [] takes read following = following
read-append [] more (t ∷ given) takes read following = absurd read
read-append (name ∷ names) more [] takes read following = absurd read
read-append (name ∷ names) more (t ∷ given) takes read following = (read.0, read.1, read-append names more given takes read.2 following)

-- of inputs that were read whole the last one was
pub read-ended : (names : List InputName) (given : List Take) → AllRead names given → IfSome (last_take given) (λ last. last.ended ≡ true)
read-ended names [] read = tt
read-ended [] (t ∷ given) read = absurd read
read-ended (name ∷ names) (t ∷ []) read = read.1
read-ended (name ∷ names) (t ∷ u ∷ given) read = read-ended names (u ∷ given) read.2

-- counts
pub total-append : (given takes : List Take) → total (given ++ takes) ≡ total given + total takes
total-append [] takes = omega arith
total-append (t ∷ given) takes = omega (arith, total-append given takes)

pub ends-append : (given takes : List Take) → ends (given ++ takes) ≡ ends given + ends takes
ends-append [] takes = omega arith
ends-append (t ∷ given) takes = omega (arith, ends-append given takes)

-- events and contexts
pub events-append : (opts : ReadOpts) (ctx : Ctx) (given takes : List Take) → events_from opts ctx (given ++ takes) ≡ events_from opts ctx given ++ events_from opts (ctx_from opts ctx given) takes
events-append opts ctx [] takes = refl
events-append opts ctx (t ∷ given) takes =
    let next = ctx_after_take opts ctx t in
    ap (λ e. take_gives opts ctx t ++ e) (events-append opts next given takes)
    ∙ sym (append_assoc (take_gives opts ctx t) (events_from opts next given) (events_from opts (ctx_from opts next given) takes))

pub ctx-append : (opts : ReadOpts) (ctx : Ctx) (given takes : List Take) → ctx_from opts ctx (given ++ takes) ≡ ctx_from opts (ctx_from opts ctx given) takes
ctx-append opts ctx [] takes = refl
ctx-append opts ctx (t ∷ given) takes = ctx-append opts (ctx_after_take opts ctx t) given takes

-- prefixes
pub prefixes-append : (told : Contents) (given takes : List Take) → ArePrefixesTaken told given → ArePrefixesTaken told takes → ArePrefixesTaken told (given ++ takes)
prefixes-append told [] takes first second = second
prefixes-append told (t ∷ given) takes first second = (first.0, prefixes-append told given takes first.1 second)

pub prefixes-before : (told : Contents) (given takes : List Take) → ArePrefixesTaken told (given ++ takes) → ArePrefixesTaken told given
prefixes-before told [] takes prefixes = tt
prefixes-before told (t ∷ given) takes prefixes = (prefixes.0, prefixes-before told given takes prefixes.1)

-- the last entry
pub with_last-push : (f : Take → Take) (takes : List Take) (t : Take) → with_last f (takes ++ t ∷ []) ≡ takes ++ f t ∷ []
with_last-push f [] t = refl
with_last-push f (a ∷ []) t = refl
with_last-push f (a ∷ b ∷ takes) t = ap (λ x. a ∷ x) (with_last-push f (b ∷ takes) t)

pub last_take-push : (takes : List Take) (t : Take) → last_take (takes ++ t ∷ []) ≡ Some t
last_take-push [] t = refl
last_take-push (a ∷ []) t = refl
last_take-push (a ∷ b ∷ takes) t = last_take-push (b ∷ takes) t

-- more was taken
pub take-same : (t : Take) → TakeGoesOn t t
take-same t = (refl, ([], sym (append-nil t.bytes), λ e. (refl, e)))

pub goes_on-more : (given takes : List Take) → GoesOn given (given ++ takes)
goes_on-more [] takes = tt
goes_on-more (t ∷ given) takes = (take-same t, goes_on-more given takes)

pub goes_on-last : (given : List Take) (t u : Take) → TakeGoesOn t u → GoesOn (given ++ t ∷ []) (given ++ u ∷ [])
goes_on-last [] t u on = (on, tt)
goes_on-last (a ∷ given) t u on = (take-same a, goes_on-last given t u on)

pub goes_on-before : (given takes longer : List Take) → GoesOn (given ++ takes) longer → GoesOn given longer
goes_on-before [] takes longer on = tt
goes_on-before (t ∷ given) takes [] on = absurd on
goes_on-before (t ∷ given) takes (u ∷ longer) on = (on.0, goes_on-before given takes longer on.1)

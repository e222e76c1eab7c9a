-- What a plan means, and a run that makes no read.
use Rattle.std.proofs.Common.{◌≡◌, ℕ, zero, suc, List, [], ◌∷◌, drop, Option, Some, None, refl, arith}
use Rattle.std.specs.Prelude.{IfSome}
use Rattle.mlr_event.specs.declared.event.Event.{Event}
use Rattle.mlr_event.specs.declared.names.Target.TheVariants.{Stdout}
use Rattle.mlr_world.specs.Inputs.{Contents}
use Rattle.mlr_world.specs.Outputs.{Held}
use Rattle.mlr_world.specs.Taken.{Take, OpenEntry}
use Rattle.mlr_world.proofs.Changes.{ChangesAt-none}
use Rattle.outlet.specs.Represents.{AppendsPrefix}
use Rattle.outlet.proofs.Writing.{nothing-put}
use Rattle.writers.specs.declared.options.WriteOpts.{WriteOpts}
use Rattle.serial_core.specs.declared.answer.Ended.TheVariants.{NoMemory}
use Rattle.serial_core.specs.Command.{Command}
use Rattle.serial_core.specs.Meaning.{Meaning, counted, text}
use Rattle.serial_core.specs.Run.{Run, StopsEarly}
use Rattle.serial_core.specs.Whole.{OfWhole, whole_of}
use Rattle.serial_core.proofs.Running.{following-none}
use Rattle.plan_verbs.specs.declared.plan.Plan.{Plan}
use Rattle.chain_core.specs.Meanings.{IsCommandOf, IsMeaningOf, meaning_by}
use Rattle.plan_verbs.specs.Plans.{IsSound}
use Rattle.chain_core.specs.Origins.{origin_of}
use Rattle.verb_specs.specs.Verbs.{verbs_with}
use Rattle.chain_core.proofs.Parting.{order-none}

-- a plan that can be run has a first style
pub style-of : (plan : Plan) → IsSound plan → (style : WriteOpts) × (rest : List WriteOpts) × (plan.styles ≡ style ∷ rest)
style-of plan sound = from plan.styles refl
  where
    from : (styles : List WriteOpts) → plan.styles ≡ styles → (style : WriteOpts) × (rest : List WriteOpts) × (plan.styles ≡ style ∷ rest)
    from [] is = absurd (sound.styled is)
    from (style ∷ rest) is = (style, rest, is)

-- it means something
pub meaning-of : (plan : Plan) → IsSound plan → (meaning : Meaning) × IsMeaningOf plan meaning
meaning-of plan sound =
    let style = style-of plan sound in
    (meaning_by plan style.0, record { write = style.0; rest = style.1; styles_are = style.2; is = refl })

-- and has a command by what its left files hold
pub command-of : (plan : Plan) → IsSound plan → (lefts : List (List Event)) → (command : Command) × IsCommandOf plan lefts command
command-of plan sound lefts =
    let style = style-of plan sound in
    (record { origin = origin_of plan; verbs = verbs_with plan.verbs lefts; write = style.0 }, record { origin = refl; verbs = refl; rest = style.1; write = style.2 })

-- want of memory before the first read
pub unread : (meaning : Meaning) (contents : Option Contents) (taken : Option (List Take)) (name : Option OpenEntry) (held : Option Held) → Run NoMemory meaning contents taken taken name held held
unread meaning contents taken name held = record {
  given = [];
  order = order-none meaning.names;
  following = following-none contents taken name;
  few = omega (arith, counted-none meaning.lefts);
  says = tt;
  leaves = ChangesAt-none Stdout (AppendsPrefix (text meaning [])) (λ before. nothing-put (text meaning []) before before refl) held;
  early = early contents taken;
  whole = whole contents taken;
}
  where
    counted-none : (lefts : ℕ) → counted lefts [] ≡ 0
    counted-none zero = refl
    counted-none (suc lefts) = refl

    drop-none : (lefts : ℕ) → drop {A = Take} lefts [] ≡ []
    drop-none zero = refl
    drop-none (suc lefts) = refl

    whole : (contents : Option Contents) (taken : Option (List Take)) → IfSome contents (λ told. IfSome taken (λ _. OfWhole NoMemory meaning told held held))
    whole None taken = tt
    whole (Some told) None = tt
    whole (Some told) (Some takes) =
        let all = text meaning (whole_of told meaning.names) in
        record { verdict = tt; gets = ChangesAt-none Stdout (AppendsPrefix all) (λ before. nothing-put all before before refl) held }

    early : (contents : Option Contents) (taken : Option (List Take)) → IfSome contents (λ told. IfSome taken (λ _. StopsEarly meaning told []))
    early None taken = tt
    early (Some told) None = tt
    early (Some told) (Some takes) = record { at_once = λ _. drop-none meaning.lefts; soon = λ n _. omega arith }

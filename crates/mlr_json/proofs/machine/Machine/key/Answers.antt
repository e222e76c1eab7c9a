use Rattle.std.proofs.Common.{◌≡◌, suc, ◌-◌, ◌∷◌, length, refl, ap, ◌∙◌, arith}
use Rattle.std.specs.Vec.{vec_len}
use Rattle.mlr_json.specs.declared.frame.Phase.TheVariants as phase
use Rattle.mlr_json.specs.Machine.{with_key}
use Rattle.mlr_json.proofs.Innermost.{last-written, on-step}
use Rattle.mlr_json.proofs.machine.Machine.key.Goals as goal

pub returns : goal.returns
returns c =
    let frames = c.args.self.now.frames in
    let some = c.in-Some.ensures.variant.0 refl in
    let len : suc (vec_len frames - 1) ≡ length frames.items = omega (arith, some, frames.ok.0) in
    let last = last-written frames.items (vec_len frames - 1) c.in-Some.frame.now c.give_key.new.frame len c.in-Some.ensures.value in
    on-step _ (c.give_key.new.frame ∷ last.rest) phase.Colon _ (ap (with_key c.args.key) last.old ∙ c.if-not-give_key.ensures last.rest) last.new refl

use Rattle.std.proofs.Common.{◌≡◌, suc, ◌-◌, ◌∷◌, length, refl, ap, ◌∙◌, arith}
use Rattle.std.specs.Vec.{vec_len}
use Rattle.mlr_value.specs.Value.{tree_of}
use Rattle.mlr_json.specs.declared.frame.Phase.TheVariants as phase
use Rattle.mlr_json.specs.Machine.{with_value}
use Rattle.mlr_json.proofs.Innermost.{last-written, on-step}
use Rattle.mlr_json.proofs.machine.Machine.add.Goals as goal

pub returns-in_ok-add_value : goal.returns-in_ok-add_value
returns-in_ok-add_value c =
    let frames = c.args.self.now.frames in
    let some = c.in-Some.ensures.variant.0 refl in
    let len : suc (vec_len frames - 1) ≡ length frames.items = omega (arith, some, frames.ok.0) in
    let last = last-written frames.items (vec_len frames - 1) c.in-Some.frame.now c.add_value.new.frame len c.in-Some.ensures.value in
    on-step _ (c.add_value.new.frame ∷ last.rest) phase.Later _ (ap (with_value (tree_of c.args.value)) last.old ∙ c.in_ok-add_value.ensures last.rest) last.new refl

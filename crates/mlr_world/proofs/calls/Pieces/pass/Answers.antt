use Rattle.std.proofs.Common.{◌≡◌, ◌+◌, drop, ap, subst, sym, ◌∙◌}
use Rattle.std.proofs.lemmas.List.{drop-drop}
use Rattle.mlr_world.specs.Calls.{sizes_after}
use Rattle.mlr_world.proofs.calls.Pieces.pass.Goals as goal

pub returns-then-self-len : goal.returns-then-self-len
returns-then-self-len c =
    let p = c.self.inside in
    subst (λ got. drop (p.used + 1) p.sizes.items ≡ sizes_after got c.args.self.now) (sym c.in-Some.is)
    (sym (drop-drop 1 p.used p.sizes.items) ∙ ap (drop 1) c.self.view_is)

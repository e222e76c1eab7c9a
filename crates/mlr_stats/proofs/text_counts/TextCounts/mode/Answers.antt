use Rattle.std.proofs.Common.{Bor, ap, ap₂, sym, ◌∙◌, slice_get}
use Rattle.std.specs.Option.{option_map}
use Rattle.std.proofs.lemmas.Result.{IfOk-weaker}
use Rattle.mlr_value.specs.declared.value.Value.{Value}
use Rattle.mlr_stats.specs.Best.{best_place}
use Rattle.mlr_stats.proofs.Modes.{mode-none, mode-some}
use Rattle.mlr_stats.proofs.text_counts.TextCounts.mode.Goals as goal

pub returns-in-Some : goal.returns-in-Some
returns-in-Some c =
    let place = c.best_place.ensures ∙ ap (best_place c.args.least) c.deref-2.ensures.value in
    let found = sym (ap₂ slice_get c.deref.ensures.value place) ∙ sym c.value_at.ensures ∙ ap (option_map (λ (value : Bor Value). value.now)) c.in-Some.is in
    IfOk-weaker c.copy.result _ _
    (λ mode is values counts. is ∙ mode-some values c.args.self.now counts c.args.least c.in-Some.value.now found)
    c.copy.ensures

pub returns-in-None : goal.returns-in-None
returns-in-None c = λ values counts.
    let place = c.best_place.ensures ∙ ap (best_place c.args.least) c.deref-2.ensures.value in
    let found = sym (ap₂ slice_get c.deref.ensures.value place) ∙ sym c.value_at.ensures ∙ ap (option_map (λ (value : Bor Value). value.now)) c.in-None.is in
    mode-none values c.args.self.now counts c.args.least found

use Rattle.std.proofs.Common.{◌≡◌, ◌<◌, ◌∷◌, ◌++◌, ℕ, List, [], length, ap, sym, subst, ◌∙◌, arith}
use Rattle.mlr_groups.specs.Keys.{entered}
use Rattle.mlr_stats.specs.Kept.{Summarizes}
use Rattle.mlr_stats.specs.declared.summary.Summary.{Summary}
use Rattle.verbs_summary.specs.KeptOfGroup.{KeepsEach}
use Rattle.verbs_summary.proofs.Keeping.{keeps-push}
use Rattle.verbs_summary.proofs.Shortening.{not-among}
use Rattle.verbs_summary.proofs.gathering.Gathered.place_of.Goals as goal

pub returns-in_ok-push-2-clause-summaries : goal.returns-in_ok-push-2-clause-summaries
returns-in_ok-push-2-clause-summaries c = λ values nil keeps.
    let names = c.args.self.now.names in
    let short = c.args.short in
    let fresh = c.in_ok-new.field-0 in
    let P : List ℕ → Summary → Type 0 = λ name. Summarizes c.args.statistics.now (values name) in
    let seen : c.enter.new.self ≡ entered names short =
    c.in_ok-place.ensures.entered ∙ ap (entered c.args.self.now.seen) c.as_slice.ensures ∙ ap (λ names. entered names short) c.requires.seen in
    let longer : length names < length (entered names short) = omega (arith, c.if-len.true, c.len.ensures.length, c.len-2.ensures, ap length seen) in
    let none : values short ≡ [] = nil (not-among names short longer) in
    subst (KeepsEach P c.push.new.self) (sym {A = List Summary} c.in_ok-push-2.ensures.items)
    (subst (λ now. KeepsEach P now (c.args.self.now.summaries.items ++ fresh ∷ [])) (sym {A = List (List ℕ)} c.in_ok-push.ensures)
    (keeps-push P names c.args.self.now.summaries.items short fresh keeps
    (subst (λ vs. Summarizes c.args.statistics.now vs fresh) (sym none) c.in_ok-new.ensures)))

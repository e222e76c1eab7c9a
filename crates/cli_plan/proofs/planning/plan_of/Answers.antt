use Rattle.std.proofs.Common.{◌≡◌, true, None, ap, subst, ◌∙◌}
use Rattle.plan_verbs.specs.Plans.{IsSound}
use Rattle.read_files.specs.Represents.{can_read}
use Rattle.cli_plan.specs.Accepting.{AreGoodAfter, clash_among, clash_with}
use Rattle.cli_plan.specs.Clashes.{comment_clash}
use Rattle.cli_plan.specs.Options.{flatsep_of, read_of}
use Rattle.cli_plan.specs.Planning.{AreVerbsOf, IsMade}
use Rattle.cli_plan.specs.Settings.{settings_in}
use Rattle.cli_plan.proofs.Readable.{can_read-settings, flatsep-bytes}
use Rattle.cli_plan.proofs.Sound.{clear-verbs, each-ok, has-length, lefts-readable, plan-sound, verbs-sound}
use Rattle.cli_plan.proofs.planning.plan_of.Goals as goal

pub returns-clause-sound : goal.returns-clause-sound
returns-clause-sound c =
    let flags = c.args.line.flags in
    let verbs = c.args.line.verbs in
    let settings = c.in_ok-settings.settings in
    let specs = c.in_ok-specs.specs in
    let is : settings ≡ settings_in flags = c.in_ok-settings.ensures ∙ ap settings_in c.as_slice.ensures in
    let sep = has-length (flatsep_of (settings_in flags)) (flatsep-bytes flags) in
    let given = c.as_slice-2.ensures in
    let read = c.in_ok-read.read in
    let readable = ap can_read (c.in_ok-read.ensures ∙ ap read_of is) ∙ can_read-settings flags in
    let are : AreVerbsOf (flatsep_of (settings_in flags)) read verbs specs =
    subst (λ sep. AreVerbsOf sep read verbs specs) (c.flatsep_of.ensures ∙ ap flatsep_of is)
    (subst (λ vs. AreVerbsOf c.flatsep_of.result.now read vs specs) given c.in_ok-specs.ensures.verbs) in
    let good = subst (λ vs. AreGoodAfter 0 vs) given c.in_ok-specs.ensures.good in
    let clear : clash_among true verbs ≡ None =
    clear-verbs (comment_clash c.as_slice-3.result.now settings) (clash_among true verbs)
    (subst (λ vs. clash_with c.as_slice-3.result.now settings vs ≡ None) c.as_slice-4.ensures c.in_ok-check_clash.ensures.none) in
    let lefts = lefts-readable (flatsep_of (settings_in flags)) read readable verbs specs are in
    let sound = verbs-sound (flatsep_of (settings_in flags)) sep read verbs specs c.requires good clear are in
    each-ok (IsMade settings c.as_slice-5.result.now c.as_slice-6.result.now specs) IsSound c.made.result
    (λ plan. plan-sound settings c.as_slice-5.result.now c.as_slice-6.result.now specs plan (ap (λ s. can_read (read_of s)) is ∙ can_read-settings flags) sound lefts) c.made.ensures.plan

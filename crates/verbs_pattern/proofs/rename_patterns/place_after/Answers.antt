use Rattle.std.proofs.Common.{sym, ◌∙◌}
use Rattle.verbs_pattern.proofs.Renaming.{following-near, following-far, following-none}
use Rattle.verbs_pattern.proofs.rename_patterns.place_after.Goals as goal
use Rattle.verbs_pattern.proofs.rename_patterns.place_after.Goals.{in_default-via-in-Some+else-other-place, in_default-via-in_default}

pub returns-in-Some : goal.returns-in-Some
returns-in-Some c =
    following-near c.args.new.now c.args.fields.now c.args.place c.in-Some.other c.requires.within (sym c.position.ensures ∙ c.in-Some.is) c.if-other-place.true

pub returns-in_default : goal.returns-in_default
returns-in_default c =
    let new = c.args.new.now in
    let fields = c.args.fields.now in
    let place = c.args.place in
    elim c.in_default.branch [
      | in_default-via-in-Some+else-other-place w ↦ following-far new fields place w.in-Some.other c.requires.within (sym c.position.ensures ∙ w.in-Some.is) w.if-other-place.false
      | in_default-via-in_default w ↦ following-none new fields place c.requires.within (sym c.position.ensures ∙ w.in_default.is)
    ]

use Rattle.std.proofs.Common.{◌+◌, ◌<◌, ◌≤◌, length, ap, sym, subst, ◌∙◌, arith}
use Rattle.mlr_json.specs.declared.frame.Phase.TheVariants as phase
use Rattle.mlr_json.specs.Machine.{syntax, deep, outcome_of}
use Rattle.mlr_json.specs.Steps.{frames_of}
use Rattle.mlr_json.specs.Reading.{tokens_left}
use Rattle.mlr_json.specs.Turns.{outcome_at, IsTurn, IsTurnShorter, IsAnswer}
use Rattle.mlr_json.proofs.Turned.{tokens_left-all}
use Rattle.mlr_json.proofs.read.read_text.Goals as goal

pub loop-machine-init : goal.loop-machine-init
loop-machine-init c =
    let text = c.args.text.now in
    let end = length text + 1 in
    let machine = c.new-machine.result in
    record {
      shorter = omega arith;
      same = ap (outcome_of end) (tokens_left-all text)
          ∙ ap (λ frames. outcome_at end frames phase.Value (tokens_left end text)) (sym c.new-machine.ensures.frames_are)
          ∙ ap (λ at. outcome_at end (frames_of machine) at (tokens_left end text)) (sym c.new-machine.ensures.phase_is);
    }

pub loop-machine-preserved : goal.loop-machine-preserved
loop-machine-preserved c =
    let end = length c.args.text.now + 1 in
    let left = c.loop-machine.left.now in
    let machine = c.loop-machine.machine in
    let following = c.in-On.following.now in
    let fits : length left ≤ end = omega arith in
    let shorter : length following < length left = subst (IsTurnShorter (length left)) c.in-On.is c.in_ok-following.ensures.shorter in
    let rest_fits : length following ≤ end = omega (arith, shorter) in
    record {
      shorter = omega (arith, shorter, c.loop-machine.invariant.shorter, c.after_blank-left.ensures.shorter);
      same = c.loop-machine.invariant.same
          ∙ subst (IsTurn end (outcome_at end (frames_of machine) machine.phase (tokens_left end left)) c.next_turn.new.machine) c.in-On.is (c.in_ok-following.ensures.outcome end fits)
          ∙ ap (outcome_at end (frames_of c.next_turn.new.machine) c.next_turn.new.machine.phase) (sym (c.after_blank-left.ensures.same end rest_fits));
    }

pub returns-in-Whole : goal.returns-in-Whole
returns-in-Whole c =
    let end = length c.args.text.now + 1 in
    let left = c.loop-machine.left.now in
    let machine = c.loop-machine.machine in
    let fits : length left ≤ end = omega arith in
    subst (λ o. IsAnswer o c.whole.result)
    (sym (c.loop-machine.invariant.same
    ∙ subst (IsTurn end (outcome_at end (frames_of machine) machine.phase (tokens_left end left)) c.next_turn.new.machine) c.in-Whole.is (c.in_ok-following.ensures.outcome end fits)))
    c.whole.ensures

pub returns-in-Syntax : goal.returns-in-Syntax
returns-in-Syntax c =
    let end = length c.args.text.now + 1 in
    let left = c.loop-machine.left.now in
    let machine = c.loop-machine.machine in
    let fits : length left ≤ end = omega arith in
    c.loop-machine.invariant.same
    ∙ subst (IsTurn end (outcome_at end (frames_of machine) machine.phase (tokens_left end left)) c.next_turn.new.machine) c.in-Syntax.is (c.in_ok-following.ensures.outcome end fits)
    ∙ ap syntax (sym c.place.ensures)

pub returns-in-Deep : goal.returns-in-Deep
returns-in-Deep c =
    let end = length c.args.text.now + 1 in
    let left = c.loop-machine.left.now in
    let machine = c.loop-machine.machine in
    let fits : length left ≤ end = omega arith in
    c.loop-machine.invariant.same
    ∙ subst (IsTurn end (outcome_at end (frames_of machine) machine.phase (tokens_left end left)) c.next_turn.new.machine) c.in-Deep.is (c.in_ok-following.ensures.outcome end fits)
    ∙ ap deep (sym c.place-in-Deep.ensures)

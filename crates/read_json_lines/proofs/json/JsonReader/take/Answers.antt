use Rattle.std.proofs.Common.{◌≡◌, ◌⊎◌, inl, inr, ◌+◌, ◌≤◌, ◌++◌, true, false, [], length, refl, sym, ◌∙◌, arith, is_some}
use Rattle.std.proofs.lemmas.Bool.{true≢false}
use Rattle.std.proofs.lemmas.Result.{on_ok_weaker}
use Rattle.read_json_lines.specs.Json.{json_fed}
use Rattle.read_json_lines.specs.Streams.{count_of}
use Rattle.read_json_lines.proofs.Moving.{nothing-left, represents-start, moves-none, moves-both, moves-fed, taken}
use Rattle.read_json_lines.proofs.json.JsonReader.take.Goals as goal
use Rattle.read_json_lines.proofs.json.JsonReader.take.Goals.{then-loop-self-test+else-is_some, else-loop-self-test, then-is_empty-via-then-is_empty, then-is_empty-via-else-is_empty+then-self}

pub loop-self-init : goal.loop-self-init
loop-self-init c = record {
  moves = λ opts file start all put represents. moves-none opts file start all c.args.self.now.mark c.args.self.now.stream c.args.piece.now put c.args.out.now represents;
  room = omega arith;
  stage = refl;
}

pub take_mark-requires-clause-room : goal.take_mark-requires-clause-room
take_mark-requires-clause-room c = omega (arith, c.loop-self.invariant.room, c.requires)

pub returns-in_err-left-clause-stage : goal.returns-in_err-left-clause-stage
returns-in_err-left-clause-stage c = c.in_err-left.ensures.stage ∙ c.loop-self.invariant.stage

pub loop-self-smaller : goal.loop-self-smaller
loop-self-smaller c = c.in_ok-left.ensures.falls

pub loop-self-preserved : goal.loop-self-preserved
loop-self-preserved c = record {
  moves = λ opts file start all put represents.
      moves-both opts file start all c.loop-self.self.mark c.take_mark.new.self.mark c.loop-self.self.stream c.take_mark.new.self.stream c.loop-self.left.now c.in_ok-left.left.now put c.args.out.now c.loop-self.out c.take_mark.new.out
      (c.loop-self.invariant.moves opts file start all put represents) (λ p here. c.in_ok-left.ensures.moves opts file start all p here);
  room = omega (arith, c.loop-self.invariant.room, c.in_ok-left.ensures.room);
  stage = c.in_ok-left.ensures.stage ∙ c.loop-self.invariant.stage;
}

pub returns-then-is_empty-clause-represents : goal.returns-then-is_empty-clause-represents
returns-then-is_empty-clause-represents c = λ opts file start bytes represents.
    let ends : (c.loop-self.left.now ≡ []) ⊎ (c.loop-self.self.stream.stopped ≡ true) = elim c.then-is_empty.branch [
      | then-is_empty-via-then-is_empty w ↦ inl (nothing-left c.loop-self.left.now (sym c.is_empty-2.ensures ∙ w.if-is_empty.true))
      | then-is_empty-via-else-is_empty+then-self w ↦ inr w.if-self.true
    ] in
    (taken opts file start c.loop-self.self.mark c.loop-self.self.stream bytes c.args.piece.now c.loop-self.left.now c.args.out.now c.loop-self.out ends
    (c.loop-self.invariant.moves opts file start (bytes ++ c.args.piece.now) (json_fed opts file start bytes) (represents-start opts file start c.args.self.now.mark c.args.self.now.stream bytes c.args.piece.now represents))).represents

pub returns-then-is_empty-clause-adds : goal.returns-then-is_empty-clause-adds
returns-then-is_empty-clause-adds c = λ opts file start bytes represents.
    let ends : (c.loop-self.left.now ≡ []) ⊎ (c.loop-self.self.stream.stopped ≡ true) = elim c.then-is_empty.branch [
      | then-is_empty-via-then-is_empty w ↦ inl (nothing-left c.loop-self.left.now (sym c.is_empty-2.ensures ∙ w.if-is_empty.true))
      | then-is_empty-via-else-is_empty+then-self w ↦ inr w.if-self.true
    ] in
    (taken opts file start c.loop-self.self.mark c.loop-self.self.stream bytes c.args.piece.now c.loop-self.left.now c.args.out.now c.loop-self.out ends
    (c.loop-self.invariant.moves opts file start (bytes ++ c.args.piece.now) (json_fed opts file start bytes) (represents-start opts file start c.args.self.now.mark c.args.self.now.stream bytes c.args.piece.now represents))).adds

pub returns-then-is_empty-clause-room : goal.returns-then-is_empty-clause-room
returns-then-is_empty-clause-room c = omega (arith, c.loop-self.invariant.room)

pub returns-then-is_empty-clause-stage : goal.returns-then-is_empty-clause-stage
returns-then-is_empty-clause-stage c = c.loop-self.invariant.stage

pub feed-requires-clause-room : goal.feed-requires-clause-room
feed-requires-clause-room c = omega (arith, c.loop-self.invariant.room, c.requires)

pub returns-clause-represents : goal.returns-clause-represents
returns-clause-represents c =
    let none : is_some c.loop-self.self.mark ≡ false = elim c.loop-self-test.branch [
      | then-loop-self-test+else-is_some w ↦ sym w.is_some.ensures ∙ w.if-is_some.false
      | else-loop-self-test w ↦ absurd (true≢false (sym (sym c.is_empty.ensures ∙ w.loop-self-test.false) ∙ (sym c.is_empty-2.ensures ∙ c.if-is_empty.false)))
    ] in
    on_ok_weaker c.feed.result
    (λ turned opts file start bytes represents.
    let all = bytes ++ c.args.piece.now in
    (taken opts file start c.loop-self.self.mark c.feed.new.self bytes c.args.piece.now [] c.args.out.now c.feed.new.out (inl refl)
    (moves-both opts file start all c.loop-self.self.mark c.loop-self.self.mark c.loop-self.self.stream c.feed.new.self c.loop-self.left.now [] (json_fed opts file start bytes) c.args.out.now c.loop-self.out c.feed.new.out
    (c.loop-self.invariant.moves opts file start all (json_fed opts file start bytes) (represents-start opts file start c.args.self.now.mark c.args.self.now.stream bytes c.args.piece.now represents))
    (λ p here. moves-fed opts file start all c.loop-self.self.mark c.loop-self.self.stream c.feed.new.self c.loop-self.left.now p c.loop-self.out c.feed.new.out none c.if-self.false turned here))).represents)
    c.feed.ensures.turned

pub returns-clause-adds : goal.returns-clause-adds
returns-clause-adds c =
    let none : is_some c.loop-self.self.mark ≡ false = elim c.loop-self-test.branch [
      | then-loop-self-test+else-is_some w ↦ sym w.is_some.ensures ∙ w.if-is_some.false
      | else-loop-self-test w ↦ absurd (true≢false (sym (sym c.is_empty.ensures ∙ w.loop-self-test.false) ∙ (sym c.is_empty-2.ensures ∙ c.if-is_empty.false)))
    ] in
    on_ok_weaker c.feed.result
    (λ turned opts file start bytes represents.
    let all = bytes ++ c.args.piece.now in
    (taken opts file start c.loop-self.self.mark c.feed.new.self bytes c.args.piece.now [] c.args.out.now c.feed.new.out (inl refl)
    (moves-both opts file start all c.loop-self.self.mark c.loop-self.self.mark c.loop-self.self.stream c.feed.new.self c.loop-self.left.now [] (json_fed opts file start bytes) c.args.out.now c.loop-self.out c.feed.new.out
    (c.loop-self.invariant.moves opts file start all (json_fed opts file start bytes) (represents-start opts file start c.args.self.now.mark c.args.self.now.stream bytes c.args.piece.now represents))
    (λ p here. moves-fed opts file start all c.loop-self.self.mark c.loop-self.self.stream c.feed.new.self c.loop-self.left.now p c.loop-self.out c.feed.new.out none c.if-self.false turned here))).adds)
    c.feed.ensures.turned

pub returns-clause-room : goal.returns-clause-room
returns-clause-room c =
    on_ok_weaker c.feed.result (λ (room : count_of c.feed.new.self ≤ count_of c.loop-self.self.stream + length c.loop-self.left.now). omega (arith, room, c.loop-self.invariant.room)) c.feed.ensures.room

pub returns-clause-stage : goal.returns-clause-stage
returns-clause-stage c = c.loop-self.invariant.stage

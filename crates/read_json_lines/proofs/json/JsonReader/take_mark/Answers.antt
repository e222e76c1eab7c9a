use Rattle.std.proofs.Common.{◌≡◌, ℕ, slice_index_or, ◌<◌, None, sym, subst, arith, take, drop, length, ◌-◌}
use Rattle.mlr_event.specs.declared.events.Events.{Events}
use Rattle.read_json_lines.specs.declared.json.JsonReader.{JsonReader}
use Rattle.read_json_lines.specs.Represents.{Moves, byte_order_mark}
use Rattle.read_json_lines.proofs.Marking.{mark-more, mark-last, mark-none, mark-cut}
use Rattle.read_json_lines.proofs.json.JsonReader.take_mark.Goals as goal
use Rattle.read_json_lines.proofs.json.JsonReader.take_mark.Goals.{then-marked-lt3-2, else-marked-lt3-2, else-marked-lt3-via-then-marked-lt3+else-text-marked, else-marked-lt3-via-else-marked-lt3, then-marked-gt0+in_ok-fail, else-marked-gt0}

pub returns-then-text-marked-clause-moves : goal.returns-then-text-marked-clause-moves
returns-then-text-marked-clause-moves c = λ opts file start all put represents.
    let old = c.args.self.now in
    let text = c.args.text.now in
    let m = c.unwrap_or-marked.result in
    let out = c.args.out.now in
    let left = take (length text - 1) (drop 1 text) in
    elim c.if-marked-lt3-2.branch [
      | then-marked-lt3-2 w ↦
          subst (λ (r : JsonReader). Moves opts file start r.mark r.stream all left put out out) (sym w.self-is)
          (mark-more opts file start old.stream all put out old.mark m text c.unwrap_or-marked.ensures c.requires.marked c.requires.bytes c.if-text-marked.true w.if-marked-lt3-2.true represents)
      | else-marked-lt3-2 w ↦
          subst (λ (r : JsonReader). Moves opts file start r.mark r.stream all left put out out) (sym w.self-is)
          (mark-last opts file start old.stream all put out old.mark m text c.unwrap_or-marked.ensures c.requires.marked c.requires.bytes c.if-text-marked.true c.if-marked-lt3.true w.if-marked-lt3-2.false represents)
    ]

pub returns-clause-moves : goal.returns-clause-moves
returns-clause-moves c = λ opts file start all put represents.
    let old = c.args.self.now in
    let text = c.args.text.now in
    let m = c.unwrap_or-marked.result in
    let out = c.args.out.now in
    let is_other : m < 3 → slice_index_or text 0 0 ≡ slice_index_or {A = ℕ} byte_order_mark m 0 → ⊥ = elim c.else-marked-lt3.branch [
      | else-marked-lt3-via-then-marked-lt3+else-text-marked w ↦ λ small next. absurd (w.if-text-marked.false next)
      | else-marked-lt3-via-else-marked-lt3 w ↦ λ small next. absurd (omega (arith, small, w.if-marked-lt3.false))
    ] in
    elim c.if-marked-gt0.branch [
      | then-marked-gt0+in_ok-fail w ↦
          subst (λ (r : JsonReader). Moves opts file start r.mark r.stream all text put out c.if-marked-gt0.out) (sym w.self-is)
          (subst (λ (o : Events). Moves opts file start None w.fail.new.self all text put out o) (sym w.out-is)
          (mark-cut opts file start old.stream all put out old.mark m text c.unwrap_or-marked.ensures c.requires.marked c.requires.bytes w.fail.new.self w.fail.new.out is_other w.if-marked-gt0.true w.in_ok-fail.ensures represents))
      | else-marked-gt0 w ↦
          subst (λ (r : JsonReader). Moves opts file start r.mark r.stream all text put out c.if-marked-gt0.out) (sym w.self-is)
          (subst (λ (o : Events). Moves opts file start None old.stream all text put out o) (sym w.out-is)
          (mark-none opts file start old.stream all put out old.mark m text c.unwrap_or-marked.ensures c.requires.marked c.requires.bytes is_other w.if-marked-gt0.false represents))
    ]

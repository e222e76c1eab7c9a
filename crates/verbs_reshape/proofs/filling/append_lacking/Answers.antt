use Rattle.std.proofs.Common.{◌≡◌, ℕ, List, ◌++◌, ◌∷◌, [], false, Some, length, get_or, slice_get, sym, ap, ◌∙◌, arith}
use Rattle.std.proofs.lemmas.List.{length-map}
use Rattle.mlr_event.specs.Reading.{is_among}
use Rattle.mlr_spec.specs.Pairs.{keys_of, value_at}
use Rattle.mlr_spec.specs.Tree.{empty}
use Rattle.verbs_reshape.proofs.Marks.{key-at, key-free, mark-at, next-had, next-lacking}
use Rattle.verbs_reshape.proofs.filling.append_lacking.Goals as goal
use Rattle.verbs_reshape.proofs.filling.append_lacking.Goals.{then-not-had-place+in_ok-push, else-not-had-place}

pub push-requires : goal.push-requires
push-requires c =
    let fields = c.args.made.now in
    let keys = c.args.keys.now in
    let place = c.loop-place.place in
    let key = c.key_at.result.now in
    let absent : is_among (keys_of fields) key ≡ false =
    sym (mark-at (is_among (keys_of fields)) keys place false key c.key_at.ensures) ∙ ap (λ had. get_or had place false) (sym c.requires.marked) ∙ c.if-not-had-place.true in
    ap (value_at key) c.loop-place.invariant ∙ key-free fields keys place key c.key_at.ensures c.requires.distinct absent

pub loop-place-preserved : goal.loop-place-preserved
loop-place-preserved c =
    let fields = c.args.made.now in
    let keys = c.args.keys.now in
    let place = c.loop-place.place in
    let told = λ (key : List ℕ) (at : slice_get keys place ≡ Some key). sym (mark-at (is_among (keys_of fields)) keys place false key at) ∙ ap (λ had. get_or had place false) (sym c.requires.marked) in
    elim c.if-not-had-place.branch [
      | then-not-had-place+in_ok-push w ↦
          let key = w.key_at.result.now in
          let at = w.key_at.ensures in
          w.made-is ∙ w.in_ok-push.ensures ∙ ap (λ made. made ++ (key, empty) ∷ []) c.loop-place.invariant ∙ next-lacking fields keys place key at (told key at ∙ w.if-not-had-place.true)
      | else-not-had-place w ↦
          let key = key-at keys place (omega (arith, c.loop-place-test.true, c.loop-place.auto.place-end, ap length c.requires.marked, length-map keys (is_among (keys_of fields)))) in
          w.made-is ∙ c.loop-place.invariant ∙ next-had fields keys place key.0 key.1 (told key.0 key.1 ∙ w.if-not-had-place.false)
    ]

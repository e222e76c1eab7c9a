use Rattle.std.proofs.Common.{◌≡◌, ◌∷◌, ◌+◌, ◌-◌, [], length, drop, take, MatchOption, length-drop, ap, sym, subst, ◌∙◌, arith}
use Rattle.std.proofs.lemmas.List.{take_all}
use Rattle.std.proofs.lemmas.Bool.{eqb-false}
use Rattle.verbs_nest.specs.Pieces.{pieces_of}
use Rattle.verbs_nest.proofs.Cutting.{pieces-none, pieces-some}
use Rattle.verbs_nest.proofs.pieces.split_once.Goals as goal

pub returns-in_err-place-clause-pieces : goal.returns-in_err-place-clause-pieces
returns-in_err-place-clause-pieces c =
    let separator = c.args.separator.now in
    let text = c.args.text.now in
    subst (λ result. MatchOption result (pieces_of separator text ≡ text ∷ []) (λ parts. pieces_of separator text ≡ parts.0.now ∷ pieces_of separator parts.1.now)) (sym c.from_residual.ensures)
    (pieces-none separator text (omega (arith, eqb-false (length separator) 0 (sym c.is_empty.ensures ∙ c.if-is_empty.false))) (sym c.in_err-place.ensures.place))

pub returns-clause-pieces : goal.returns-clause-pieces
returns-clause-pieces c =
    let separator = c.args.separator.now in
    let text = c.args.text.now in
    let place = c.in_ok-place.place in
    let rest = drop (place + length separator) text in
    pieces-some separator text place (omega (arith, eqb-false (length separator) 0 (sym c.is_empty.ensures ∙ c.if-is_empty.false))) (sym c.in_ok-place.ensures.place)
    ∙ ap (λ left. take place text ∷ pieces_of separator left) (sym (take_all (length text - (place + length separator)) rest (omega (arith, length-drop (place + length separator) text))))

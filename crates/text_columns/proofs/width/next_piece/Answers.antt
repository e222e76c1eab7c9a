use Rattle.std.proofs.Common.{◌≡◌, ◌+◌, drop, length, ap, ap₂, ◌∙◌, sym, arith}
use Rattle.std.proofs.lemmas.List.{length-drop}
use Rattle.bstr.specs.Utf8.{decoded}
use Rattle.text_columns.specs.Width.{code_points, points_of}
use Rattle.text_columns.proofs.CodePoints.{points-step, points-bounds}
use Rattle.text_columns.proofs.width.next_piece.Goals as goal

pub following-requires : goal.following-requires
following-requires c = omega (arith, c.decode-found.ensures.size, points-bounds c.args.text.now c.requires)

pub returns-clause-points : goal.returns-clause-points
returns-clause-points c =
    let text = c.args.text.now in
    let points : c.points_of.result ≡ points_of (decoded text) = c.points_of.ensures ∙ ap₂ (λ char size. points_of (record { char = char; size = size })) c.decode-found.ensures.char c.decode-found.ensures.size in
    points-step text c.requires ∙ ap₂ (λ n rest. n + code_points rest) (sym points) (sym (c.following.ensures ∙ ap (λ n. drop n text) c.decode-found.ensures.size))

pub returns-clause-few : goal.returns-clause-few
returns-clause-few c =
    let text = c.args.text.now in
    let points : c.points_of.result ≡ points_of (decoded text) = c.points_of.ensures ∙ ap₂ (λ char size. points_of (record { char = char; size = size })) c.decode-found.ensures.char c.decode-found.ensures.size in
    omega (arith, points, c.decode-found.ensures.size, points-bounds text c.requires, ap length c.following.ensures, length-drop c.decode-found.result.1 text)

pub returns-clause-some : goal.returns-clause-some
returns-clause-some c =
    let text = c.args.text.now in
    omega (arith, c.decode-found.ensures.size, points-bounds text c.requires, ap length c.following.ensures, length-drop c.decode-found.result.1 text)

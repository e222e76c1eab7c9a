use Rattle.std.proofs.Common.{ℕ, List, ◌+◌, drop, length, ap, sym, subst, arith}
use Rattle.std.proofs.lemmas.List.{length-drop}
use Rattle.std.proofs.lemmas.List.Sums.{prefix_len-le-length}
use Rattle.mlr_spec.specs.JsonTokens.{is_blank}
use Rattle.read_json_lines.specs.Streams.{Turned}
use Rattle.read_json_lines.proofs.Turning.{turned-blanks}
use Rattle.read_json_lines.proofs.stream.Stream.pass_blanks.Goals as goal

pub overflow_add-self : goal.overflow_add-self
overflow_add-self c = omega (arith, c.blank_len-len.ensures, prefix_len-le-length is_blank c.args.text.now, c.requires.room)

pub following-requires : goal.following-requires
following-requires c = omega (arith, c.blank_len-len.ensures, prefix_len-le-length is_blank c.args.text.now)

pub returns-clause-turned : goal.returns-clause-turned
returns-clause-turned c = λ out.
    let old = c.args.self.now in
    let text = c.args.text.now in
    subst (λ (rest : List ℕ). Turned old (record old { place = old.place + c.blank_len-len.result }) text rest out out) (sym c.following.ensures)
    (subst (λ len. Turned old (record old { place = old.place + len }) text (drop len text) out out) (sym c.blank_len-len.ensures)
    (turned-blanks old out text c.requires.goes_on c.requires.text c.requires.begun))

pub returns-clause-room : goal.returns-clause-room
returns-clause-room c =
    omega (arith, c.blank_len-len.ensures, prefix_len-le-length is_blank c.args.text.now, ap length c.following.ensures, length-drop c.blank_len-len.result c.args.text.now)

pub returns-clause-shorter : goal.returns-clause-shorter
returns-clause-shorter c = omega (arith, ap length c.following.ensures, length-drop c.blank_len-len.result c.args.text.now)

use Rattle.std.proofs.Common.{◌≡◌, ◌<◌, ◌++◌, ◌∙◌, ap, length, arith, rules}
use Rattle.std.specs.List.{flat_map}
use Rattle.text_columns.specs.Chunks.{lines_in}
use Rattle.text_columns.specs.Pprint.{pprint_line}
use Rattle.text_columns.proofs.Coded.{after-shorter}
use Rattle.text_columns.proofs.Written.{lines-done, lines-next}
use Rattle.text_columns.proofs.pprint.append_lines.Goals as goal

pub loop-rest-smaller : goal.loop-rest-smaller
loop-rest-smaller c =
    let some : 0 < length c.loop-rest.rest.now = search rules in
    omega (arith, ap length c.in_ok-rest.ensures.rest, after-shorter c.loop-rest.rest.now some)

pub loop-rest-preserved : goal.loop-rest-preserved
loop-rest-preserved c =
    let some : 0 < length c.loop-rest.rest.now = search rules in
    lines-next (pprint_line c.args.barred c.args.widths.now) c.loop-rest.rest.now c.in_ok-rest.rest.now c.loop-rest.out c.append_line.new.out some c.in_ok-rest.ensures.rest c.in_ok-rest.ensures.text
    ∙ c.loop-rest.invariant

pub returns : goal.returns
returns c =
    let none : length c.loop-rest.rest.now ≡ 0 = search rules in
    let f = pprint_line c.args.barred c.args.widths.now in
    lines-done f c.loop-rest.rest.now c.loop-rest.out (c.args.out.now ++ flat_map f (lines_in c.args.bytes.now)) none c.loop-rest.invariant

use Rattle.std.proofs.Common.{◌≡◌, List, ℕ, None, Some, Bor, ap, sym, ◌∙◌}
use Rattle.std.specs.Option.{option_map}
use Rattle.read_csv.specs.OpenRow.{after_row_field, csv_reading, row_with}
use Rattle.read_csv.proofs.Readings.{field-more, field-last, field-closed}
use Rattle.read_csv.proofs.csv.take_fields.Goals as goal

pub loop-rest-preserved : goal.loop-rest-preserved
loop-rest-preserved c =
    let opts = c.args.opts.now in
    let row = c.loop-rest.row in
    let left = c.loop-rest.left.now in
    let rest = c.in-Some.rest.now in
    let is : after_row_field opts.ifs left ≡ Some rest = sym c.in_ok-rest.ensures.following ∙ ap (option_map (λ (r : Bor (List ℕ)). r.now)) c.in-Some.is in
    record {
      row = ap (λ r. row_with opts.infer r (csv_reading opts.ifs rest)) c.in_ok-rest.ensures.row
          ∙ field-more opts row left c.requires.ifs c.loop-rest.invariant.closed rest is ∙ c.loop-rest.invariant.row;
      closed = ap (λ r. r.quotes) c.in_ok-rest.ensures.row ∙ field-closed opts row left c.requires.ifs c.loop-rest.invariant.closed rest is;
    }

pub returns : goal.returns
returns c =
    let opts = c.args.opts.now in
    let row = c.loop-rest.row in
    let left = c.loop-rest.left.now in
    let is : after_row_field opts.ifs left ≡ None = sym c.in_ok-rest.ensures.following ∙ ap (option_map (λ (r : Bor (List ℕ)). r.now)) c.in_default.is in
    c.in_ok-rest.ensures.row ∙ field-last opts row left c.requires.ifs c.loop-rest.invariant.closed is ∙ c.loop-rest.invariant.row

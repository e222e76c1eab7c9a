use Rattle.std.proofs.Common.{◌≡◌, true, List, ℕ, None, Some, Bor, ap, sym, ◌∙◌}
use Rattle.std.specs.Option.{option_map, is_some}
use Rattle.std.proofs.lemmas.Result.{on_ok_weaker}
use Rattle.read_csv.specs.OpenRow.{after_quoted, csv_reading, row_with}
use Rattle.read_csv.proofs.Readings.{quoted-more, quoted-last, taken-open}
use Rattle.read_csv.proofs.fields.take_text.Goals as goal

pub returns-in-Some : goal.returns-in-Some
returns-in-Some c =
    let opts = c.args.opts.now in
    let row = c.args.row.now in
    let text = c.args.text.now in
    let rest = c.in-Some.rest.now in
    let is : after_quoted opts.ifs text ≡ Some rest = sym c.in_ok-rest.ensures.following ∙ ap (option_map (λ (r : Bor (List ℕ)). r.now)) c.in-Some.is in
    let is_open : is_some row.quotes ≡ true = sym c.is_open.ensures ∙ c.if-is_open.true in
    on_ok_weaker c.take_fields.result
    (λ e. e ∙ ap (λ r. row_with opts.infer r (csv_reading opts.ifs rest)) c.in_ok-rest.ensures.row ∙ quoted-more opts row text c.requires rest is ∙ sym (taken-open opts row text is_open))
    c.take_fields.ensures

pub returns-in-None : goal.returns-in-None
returns-in-None c =
    let opts = c.args.opts.now in
    let row = c.args.row.now in
    let text = c.args.text.now in
    let is : after_quoted opts.ifs text ≡ None = sym c.in_ok-rest.ensures.following ∙ ap (option_map (λ (r : Bor (List ℕ)). r.now)) c.in-None.is in
    let is_open : is_some row.quotes ≡ true = sym c.is_open.ensures ∙ c.if-is_open.true in
    c.in_ok-rest.ensures.row ∙ quoted-last opts row text c.requires is ∙ sym (taken-open opts row text is_open)

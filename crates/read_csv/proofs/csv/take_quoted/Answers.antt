use Rattle.std.proofs.Common.{◌≡◌, List, ℕ, Some, Bor, ap, sym, ◌∙◌}
use Rattle.std.specs.Option.{option_map}
use Rattle.mlr_record.specs.Parts.{first_part, after_first}
use Rattle.read_csv.specs.OpenRow.{after_quotes, with_text}
use Rattle.read_csv.proofs.Readings.{closed-row-is, closed-following-is, part-is, following-is}
use Rattle.read_csv.proofs.csv.take_quoted.Goals as goal

pub returns-in_ok-close-in-Some-clause-row : goal.returns-in_ok-close-in-Some-clause-row
returns-in_ok-close-in-Some-clause-row c =
    let separator = c.args.opts.now.ifs in
    let row = c.args.row.now in
    let text = c.args.text.now in
    let following = c.in-Some.following.now in
    let is : after_quotes text ≡ Some following = sym c.in_ok-unquote.ensures.following ∙ ap (option_map (λ (r : Bor (List ℕ)). r.now)) c.in-Some.is in
    let tail = c.next_part.ensures.part ∙ ap (λ s. first_part s following) c.as_slice.ensures ∙ part-is separator following in
    closed-row-is separator row text following is c.unquote.new.row c.append.new.self c.close.new.self c.in_ok-unquote.ensures.row (c.in_ok-append-in-Some.ensures ∙ ap (with_text c.unquote.new.row) tail) c.in_ok-close-in-Some.ensures

pub returns-in_ok-close-in-Some-clause-following : goal.returns-in_ok-close-in-Some-clause-following
returns-in_ok-close-in-Some-clause-following c =
    let separator = c.args.opts.now.ifs in
    let text = c.args.text.now in
    let following = c.in-Some.following.now in
    let is : after_quotes text ≡ Some following = sym c.in_ok-unquote.ensures.following ∙ ap (option_map (λ (r : Bor (List ℕ)). r.now)) c.in-Some.is in
    c.next_part.ensures.rest ∙ ap (λ s. after_first s following) c.as_slice.ensures ∙ following-is separator following ∙ closed-following-is separator c.args.row.now text following is

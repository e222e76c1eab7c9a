use Rattle.std.proofs.Common.{Some, ap, sym, ◌∙◌}
use Rattle.std.proofs.lemmas.Option.{slice_get-get_or}
use Rattle.std.proofs.lemmas.Slice.Eq.{bytes_eq-Decides}
use Rattle.verbs_hold.proofs.by_place.place_of.Goals as goal

pub returns-in-Some-clause-place : goal.returns-in-Some-clause-place
returns-in-Some-clause-place c =
    let other = c.in-Some.other.now in
    let lookup = c.in-Some.ensures.lookup in
    slice_get-get_or c.args.names.now c.args.expected other lookup.3.0
    ∙ ap Some (sym lookup.1 ∙ (bytes_eq-Decides other c.args.name.now).0 (sym c.if-is.ensures))

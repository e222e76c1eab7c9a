use Rattle.std.proofs.Common.{sym, ◌∙◌}
use Rattle.std.proofs.lemmas.Slice.Eq.{bytes_eq-Decides, slice_eq-Decides}
use Rattle.read_csv.proofs.heading.Heading.new.Goals as goal

pub invariant_of-result : goal.invariant_of-result
invariant_of-result c = λ is.
    let same = (slice_eq-Decides bytes_eq-Decides c.keys.result.now c.names.result.now c.eq-distinct.result c.eq-distinct.ensures).0 is in
    sym c.keys.ensures ∙ same ∙ c.names.ensures

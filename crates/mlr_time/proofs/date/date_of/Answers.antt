use Rattle.std.proofs.Common.{◌≡◌, IfOk, subst, w64}
use Rattle.std.proofs.lemmas.Int.{to_z-of_z}
use Rattle.jiff_core.specs.Date.{epoch_day}
use Rattle.mlr_time.proofs.Dates.{date-parts}
use Rattle.mlr_time.proofs.date.date_of.Goals as goal

pub returns-clause-year : goal.returns-clause-year
returns-clause-year c =
    let read = subst (λ z. IfOk c.from_unix_epoch_day.result (λ d. epoch_day d ≡ z)) (to_z-of_z w64 c.args.day c.ranges.day) c.from_unix_epoch_day.ensures.value in
    let same = subst (λ r. IfOk r (λ d. epoch_day d ≡ c.args.day)) c.unwrap.ensures read in
    (date-parts c.unwrap.result c.args.day same c.requires).0

pub returns-clause-month : goal.returns-clause-month
returns-clause-month c =
    let read = subst (λ z. IfOk c.from_unix_epoch_day.result (λ d. epoch_day d ≡ z)) (to_z-of_z w64 c.args.day c.ranges.day) c.from_unix_epoch_day.ensures.value in
    let same = subst (λ r. IfOk r (λ d. epoch_day d ≡ c.args.day)) c.unwrap.ensures read in
    (date-parts c.unwrap.result c.args.day same c.requires).1

pub returns-clause-day : goal.returns-clause-day
returns-clause-day c =
    let read = subst (λ z. IfOk c.from_unix_epoch_day.result (λ d. epoch_day d ≡ z)) (to_z-of_z w64 c.args.day c.ranges.day) c.from_unix_epoch_day.ensures.value in
    let same = subst (λ r. IfOk r (λ d. epoch_day d ≡ c.args.day)) c.unwrap.ensures read in
    (date-parts c.unwrap.result c.args.day same c.requires).2

-- The date of a day number is the one that the calendar gives.
use Rattle.std.proofs.Common.{◌≡◌, ℕ, zero, suc, ◌+◌, ◌<◌, ◌≤◌, inl, inr, true, false, refl, sym, ap, ◌∙◌, arith, ℤ, pos, negsuc, neg_ℤ, ◌-ℤ◌, ◌<ℤ◌, ◌≤ℤ◌, int_le, unsigned_abs}
use Rattle.std.proofs.lemmas.Bool.{cond_both, cases_lt}
use Rattle.std.proofs.lemmas.Int.{by_lt_z}
use Rattle.jiff_core.specs.declared.civil.date.Date.{Date}
use Rattle.jiff_core.specs.Calendar.{days_from_civil, day_count, IsBetween}
use Rattle.jiff_core.specs.Date.{epoch_day}
use Rattle.jiff_core.proofs.SignedLemmas.{signed_arith}
use Rattle.jiff_core.proofs.CalendarLemmas.{days_from_civil-day_count, day_count-lt_year, day_count-lt_month, day_count-day_of_year, day_count-day}
use Rattle.jiff_core.proofs.MarchLemmas.{day_count-early}
use Rattle.jiff_core.proofs.DateLemmas.{civil, days_from_civil-day}
use Rattle.mlr_time.specs.Times.{year_begun, month_begun, year_of, month_of, day_of}
use borrow.Author.Differences.{up, down}

by_lt : {X : Type 0} (a b : ℕ) → (a < b → X) → (b ≤ a → X) → X
by_lt a b less more = elim (cases_lt a b) [ inl lt ↦ less lt | inr ge ↦ more ge ]

absolute : (z : ℤ) → pos 0 ≤ℤ z → z ≡ pos (unsigned_abs z)
absolute (pos n) positive = refl
absolute (negsuc n) positive = absurd (omega (arith, signed_arith))

distance : (a b : ℤ) → b ≤ℤ a → unsigned_abs (a -ℤ b) + up b + down a ≡ up a + down b
distance a b le = let z = absolute (a -ℤ b) (omega (arith, signed_arith)) in omega (arith, signed_arith)

le_true : (a b : ℤ) → int_le a b ≡ true → a ≤ℤ b
le_true a b h = omega (arith, signed_arith)

le_false : (a b : ℤ) → int_le a b ≡ false → b <ℤ a
le_false a b h = omega (arith, signed_arith)

-- the year of a date has begun on it, and a later one hasn't
has_begun : (d : Date) → days_from_civil d.year 1 1 ≤ℤ epoch_day d
has_begun d = omega (arith, signed_arith, days_from_civil-day_count, day_count-day_of_year d.year d.month d.day d.day_in.0)

has_not_begun : (d : Date) (y : ℤ) → d.year <ℤ y → epoch_day d <ℤ days_from_civil y 1 1
has_not_begun d y later = omega (arith, signed_arith, days_from_civil-day_count, day_count-lt_year d.year d.month d.day y 1 1 (civil d) (omega arith) later)

-- so the last year that has begun is the year of the date
pub year_begun-date : (d : Date) (y n : ℕ) → d.year ≡ pos y → y ≤ n → year_begun n (epoch_day d) ≡ y
unfolding year_begun
year_begun-date d y zero same le = omega arith
year_begun-date d y (suc n) same le =
    cond_both (int_le (days_from_civil (pos (suc n)) 1 1) (epoch_day d)) (suc n) (year_begun n (epoch_day d)) (λ found. found ≡ y)
    (λ begun. by_lt y (suc n) (λ later. let b = le_true (days_from_civil (pos (suc n)) 1 1) (epoch_day d) begun in let c = has_not_begun d (pos (suc n)) (rw same (omega (arith, signed_arith))) in absurd (omega (arith, signed_arith))) (λ ge. omega arith))
    (λ not_begun. year_begun-date d y n same (by_lt y (suc n) (λ lt. omega arith) (λ ge. let b = le_false (days_from_civil (pos (suc n)) 1 1) (epoch_day d) not_begun in let e : d.year ≡ pos (suc n) = same ∙ ap pos (omega arith) in let c : days_from_civil (pos (suc n)) 1 1 ≤ℤ epoch_day d = rw (← e) (has_begun d) in absurd (omega (arith, signed_arith)))))

-- the same of its month
month_has_begun : (d : Date) → days_from_civil d.year d.month 1 ≤ℤ epoch_day d
month_has_begun d = omega (arith, signed_arith, days_from_civil-day_count, day_count-day d.year d.month d.day 1 d.day_in.0 (omega arith), d.day_in.0)

month_has_not_begun : (d : Date) (m : ℕ) → d.month < m → epoch_day d <ℤ days_from_civil d.year m 1
month_has_not_begun d m later = omega (arith, signed_arith, days_from_civil-day_count, day_count-lt_month d.year d.month d.day m 1 (civil d) (omega arith) later)

pub month_begun-date : (d : Date) (y n : ℕ) → d.year ≡ pos y → d.month ≤ n → month_begun y n (epoch_day d) ≡ d.month
unfolding month_begun
month_begun-date d y zero same le = omega arith
month_begun-date d y (suc n) same le =
    cond_both (int_le (days_from_civil (pos y) (suc n) 1) (epoch_day d)) (suc n) (month_begun y n (epoch_day d)) (λ found. found ≡ d.month)
    (λ begun. by_lt d.month (suc n) (λ later. let c : epoch_day d <ℤ days_from_civil (pos y) (suc n) 1 = rw (← same) (month_has_not_begun d (suc n) later) in let b = le_true (days_from_civil (pos y) (suc n) 1) (epoch_day d) begun in absurd (omega (arith, signed_arith))) (λ ge. omega arith))
    (λ not_begun. month_begun-date d y n same (by_lt d.month (suc n) (λ lt. omega arith) (λ ge. let e : d.month ≡ suc n = omega arith in let c : days_from_civil (pos y) (suc n) 1 ≤ℤ epoch_day d = rw (← same, ← e) (month_has_begun d) in let b = le_false (days_from_civil (pos y) (suc n) 1) (epoch_day d) not_begun in absurd (omega (arith, signed_arith)))))

day_of-date : (d : Date) (y : ℕ) → d.year ≡ pos y → unsigned_abs (epoch_day d -ℤ days_from_civil (pos y) d.month 1) + 1 ≡ d.day
day_of-date d y same = rw (← same) (omega (arith, signed_arith, distance (epoch_day d) (days_from_civil d.year d.month 1) (month_has_begun d), days_from_civil-day d.year d.month d.day 1 d.day_in.0 (omega arith), d.day_in.0))

year_zero : day_count (pos 0) 1 1 ≡ 3_652_425
year_zero = day_count-early (pos 0) 9999 1 1 refl (omega arith) (omega arith) (omega arith)

-- a date from the year 0 on has no negative year
year_positive : (d : Date) → neg_ℤ (pos 719_528) ≤ℤ epoch_day d → pos 0 ≤ℤ d.year
year_positive d late = by_lt_z d.year (pos 0) (λ before. let c = has_not_begun d (pos 0) before in absurd (omega (arith, signed_arith, year_zero, days_from_civil-day_count))) (λ ge. ge)

pub date-parts : (d : Date) (day : ℤ) → epoch_day d ≡ day → IsBetween (neg_ℤ (pos 719_528)) (pos 2_932_896) day → (d.year ≡ pos (year_of day)) × (d.month ≡ month_of day) × (d.day ≡ day_of day)
date-parts d day same within =
    let late = year_positive d (rw same within.0) in
    let y = unsigned_abs d.year in
    let at = absolute d.year late in
    let year : year_of day ≡ y = rw (← same) (year_begun-date d y 9999 at (omega (arith, signed_arith, d.year_in))) in
    let month : month_begun y 12 day ≡ d.month = rw (← same) (month_begun-date d y 12 at d.month_in.1) in
    (rw year at, rw year (sym month), rw (year, month, ← same) (sym (day_of-date d y at)))

-- Whole seconds since 1970-01-01T00:00:00 in UTC as dates and times of day.
use Rattle.std.specs.Prelude.{ℕ, zero, suc, ◌+◌, ◌/◌, ◌%◌, Bool, ◌&&◌, if◌then◌else◌, ℤ, pos, neg_ℤ, ◌-ℤ◌, int_le, unsigned_abs, List, [], ◌∷◌, ◌++◌, Option, Some, None}
use Rattle.std.specs.Int.{int_div_euclid, int_rem_euclid}
use Rattle.mlr_spec.specs.Ascii.{dash, digit_zero, colon, letter_upper_t, letter_upper_z}
use Rattle.jiff_core.specs.Calendar.{days_from_civil}
use Rattle.mlr_spec.specs.Tree.{Tree, string, int}

-- the last of the years 1 to n that has begun on a day, which counts from 1970-01-01; 0 where none has
unfoldable pub year_begun : ℕ → ℤ → ℕ
year_begun zero day = 0
year_begun (suc n) day = if int_le (days_from_civil (pos (suc n)) 1 1) day then suc n else year_begun n day

-- the last of the months 1 to n of a year that has begun on a day; 0 where none has
unfoldable pub month_begun : ℕ → ℕ → ℤ → ℕ
month_begun year zero day = 0
month_begun year (suc n) day = if int_le (days_from_civil (pos year) (suc n) 1) day then suc n else month_begun year n day

-- the date of a day in the years 0 to 9999
abbrev pub year_of : ℤ → ℕ
year_of day = year_begun 9999 day

abbrev pub month_of : ℤ → ℕ
month_of day = month_begun (year_of day) 12 day

abbrev pub day_of : ℤ → ℕ
day_of day = unsigned_abs (day -ℤ days_from_civil (pos (year_of day)) (month_of day) 1) + 1

-- a number below 100 in two digits, one below 10000 in four
abbrev pub two_digits : ℕ → List ℕ
two_digits n = (digit_zero + n / 10) ∷ (digit_zero + n % 10) ∷ []

abbrev pub four_digits : ℕ → List ℕ
four_digits n = two_digits (n / 100) ++ two_digits (n % 100)

-- `2017-07-14`
abbrev pub date_text : ℤ → List ℕ
date_text day = four_digits (year_of day) ++ dash ∷ two_digits (month_of day) ++ dash ∷ two_digits (day_of day)

-- `02:40:00`, of the seconds since midnight
abbrev pub time_text : ℕ → List ℕ
time_text s = two_digits (s / 3600) ++ colon ∷ two_digits (s / 60 % 60) ++ colon ∷ two_digits (s % 60)

-- the day of a second, and the seconds since its midnight
abbrev pub day_at : ℤ → ℤ
day_at second = int_div_euclid second (pos 86_400)

abbrev pub seconds_at : ℤ → ℕ
seconds_at second = unsigned_abs (int_rem_euclid second (pos 86_400))

-- whether a second lies in the years 0 to 9999
abbrev pub has_date : ℤ → Bool
has_date second = int_le (neg_ℤ (pos 62_167_219_200)) second && int_le second (pos 253_402_300_799)

-- the second that a value represents: an int, whatever its spelling, in the years 0 to 9999
abbrev pub second_of : Tree → Option ℤ
second_of (int n spelling) = if has_date n then Some n else None
second_of _ = None

-- `2017-07-14T02:40:00Z`; a value that represents no second is left as it is
abbrev pub sec2gmt : Tree → Tree
sec2gmt value = elim (second_of value) [
  | None ↦ value
  | Some n ↦ string (date_text (day_at n) ++ letter_upper_t ∷ time_text (seconds_at n) ++ letter_upper_z ∷ [])
]

-- `2017-07-14`; a value that represents no second is left as it is
abbrev pub sec2gmtdate : Tree → Tree
sec2gmtdate value = elim (second_of value) [
  | None ↦ value
  | Some n ↦ string (date_text (day_at n))
]

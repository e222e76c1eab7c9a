-- Whole numbers in words.
use Rattle.std.specs.Prelude.{ℕ, ℤ, List, Option, Some, None, if◌then◌else◌, false}
use Rattle.mlr_spec.specs.Infer.{are_digits, kind_of, unsigned}
use Rattle.mlr_spec.specs.declared.infer.Kind.{Kind}
use Rattle.mlr_spec.specs.declared.infer.Kind.TheVariants.{Int}

abbrev pub int_of : Kind → Option ℤ
int_of (Int n) = Some n
int_of _ = None

-- a whole number of 64 bits: decimal digits with or without a sign
abbrev pub int_in : List ℕ → Option ℤ
int_in word = if are_digits 10 (unsigned word) then int_of (kind_of (record { none = false; octal = false }) word) else None

-- What was taken of left files, and of the main inputs after them.
use Rattle.std.proofs.Common.{◌≡◌, ℕ, zero, suc, ◌-◌, ◌<◌, ◌≤◌, ◌^◌, Bool, true, false, List, [], ◌∷◌, ◌++◌, length, take, drop, Option, Some, None, refl, ap, ap₂, sym, ◌∙◌, subst, arith}
use Rattle.std.specs.Prelude.{IfSome, if◌then◌else◌, nat_le}
use Rattle.std.proofs.lemmas.Bool.{le-leb, leb-true}
use Rattle.std.proofs.lemmas.List.{append-nil, length-append, length-take}
use Rattle.mlr_event.specs.declared.names.InputName.{InputName}
use Rattle.mlr_world.specs.Inputs.{Contents}
use Rattle.mlr_world.specs.Taken.{Take}
use Rattle.read_files.specs.Takes.{ArePrefixesTaken, GoesOn, InOrder, IsPrefixTaken, stops_at, taken_by, total}
use Rattle.read_files.specs.Represents.{AllRead}
use Rattle.left_files.specs.Represents.{open_bytes}
use Rattle.serial_core.specs.Meaning.{AreShort, counted}
use Rattle.serial_core.specs.Whole.{whole_of}

-- the order of inputs, by those before and those after
pub order-none : (names : List InputName) → InOrder names []
order-none [] = tt
order-none (name ∷ names) = tt

pub order-first : (names more : List InputName) (given : List Take) → InOrder (names ++ more) given → InOrder names (take (length names) given)
order-first [] more given order = tt
order-first (name ∷ names) more [] order = tt
order-first (name ∷ []) more (t ∷ []) order = order
order-first (name ∷ next ∷ names) more (t ∷ []) order = order
order-first (name ∷ []) more (t ∷ u ∷ given) order = order.0
order-first (name ∷ next ∷ names) more (t ∷ u ∷ given) order = (order.0, order.1, order-first (next ∷ names) more (u ∷ given) order.2)

pub order-rest : (names more : List InputName) (given : List Take) → InOrder (names ++ more) given → InOrder more (drop (length names) given)
order-rest [] more given order = order
order-rest (name ∷ names) more [] order = order-none more
order-rest (name ∷ []) more (t ∷ []) order = order-none more
order-rest (name ∷ next ∷ names) more (t ∷ []) order = order-none more
order-rest (name ∷ names) more (t ∷ u ∷ given) order = order-rest names more (u ∷ given) order.2

pub order-within : (names more : List InputName) (given : List Take) → InOrder names given → InOrder (names ++ more) given
order-within names more [] order = order-none (names ++ more)
order-within [] more (t ∷ given) order = absurd order
order-within (name ∷ names) more (t ∷ []) order = order
order-within (name ∷ names) more (t ∷ u ∷ given) order = (order.0, order.1, order-within names more (u ∷ given) order.2)

pub order-short : (names : List InputName) (given : List Take) → InOrder names given → length given ≤ length names
order-short names [] order = omega arith
order-short [] (t ∷ given) order = absurd order
order-short (name ∷ names) (t ∷ []) order = omega arith
order-short (name ∷ names) (t ∷ u ∷ given) order = omega (arith, order-short names (u ∷ given) order.2)

pub read-many : (names : List InputName) (given : List Take) → AllRead names given → length given ≡ length names
read-many [] [] read = refl
read-many [] (t ∷ given) read = absurd read
read-many (name ∷ names) [] read = absurd read
read-many (name ∷ names) (t ∷ given) read = ap suc (read-many names given read.2)

pub read-stops : (names : List InputName) (given : List Take) → AllRead names given → stops_at names given ≡ None
read-stops [] [] read = refl
read-stops [] (t ∷ given) read = absurd read
read-stops (name ∷ names) [] read = absurd read
read-stops (name ∷ names) (t ∷ given) read = ap (λ ended. if ended then stops_at names given else Some name) read.1 ∙ read-stops names given read.2

-- more was taken of each part
pub goes-first : (n : ℕ) (given longer : List Take) → GoesOn given longer → GoesOn (take n given) (take n longer)
goes-first zero given longer on = tt
goes-first (suc n) [] longer on = tt
goes-first (suc n) (t ∷ given) [] on = absurd on
goes-first (suc n) (t ∷ given) (u ∷ longer) on = (on.0, goes-first n given longer on.1)

pub goes-rest : (n : ℕ) (given longer : List Take) → GoesOn given longer → GoesOn (drop n given) (drop n longer)
goes-rest zero given longer on = on
goes-rest (suc n) [] longer on = tt
goes-rest (suc n) (t ∷ given) [] on = absurd on
goes-rest (suc n) (t ∷ given) (u ∷ longer) on = goes-rest n given longer on.1

-- what stops within the inputs before stops there among all
pub stops-within : (names more : List InputName) (given : List Take) (name : InputName) → stops_at names given ≡ Some name → stops_at (names ++ more) given ≡ Some name
stops-within [] more given name is = absurd (let e : None ≡ Some name = is in let f = e in cc)
stops-within (a ∷ names) more [] name is = is
stops-within (a ∷ names) more (t ∷ given) name is = by (stops-within names more given name) t.ended is
  where
    by : (stops_at names given ≡ Some name → stops_at (names ++ more) given ≡ Some name) → (ended : Bool) → (if ended then stops_at names given else Some a) ≡ Some name → (if ended then stops_at (names ++ more) given else Some a) ≡ Some name
    by next true is = next is
    by next false is = is

-- what the limit counts
pub counted-rest : (names : List InputName) (given main : List Take) → AllRead names given → counted (length names) (given ++ main) ≡ total main
counted-rest [] [] main read = refl
counted-rest [] (t ∷ given) main read = absurd read
counted-rest (name ∷ names) [] main read = absurd read
counted-rest (name ∷ []) (t ∷ []) [] read = ap {B = ℕ} (λ ended. if ended then 0 else length t.bytes) read.1
counted-rest (name ∷ next ∷ names) (t ∷ []) main read = absurd read.2
counted-rest (name ∷ []) (t ∷ []) (u ∷ main) read = refl
counted-rest (name ∷ names) (t ∷ u ∷ given) main read = counted-rest names (u ∷ given) main read.2

pub counted-first : (names : List InputName) (given : List Take) → InOrder names given → counted (length names) given ≡ open_bytes given
counted-first [] [] order = refl
counted-first [] (t ∷ given) order = absurd order
counted-first (name ∷ names) [] order = refl
counted-first (name ∷ names) (t ∷ []) order = refl
counted-first (name ∷ names) (t ∷ u ∷ given) order = counted-first names (u ∷ given) order.2

-- what inputs that were read whole hold
module _ (told : Contents) where
  holds-all : (name : InputName) (t : Take) → t.name ≡ name → t.ended ≡ true → IsPrefixTaken told t → told name ≡ Some t.bytes
  holds-all name t same ended taken = ap told (sym same) ∙ taken.1 ∙ ap (λ rest. Some (t.bytes ++ rest)) (taken.2 ended) ∙ ap Some (append-nil t.bytes)

  abbrev of : InputName → List ℕ → Take
  of name bytes = record { name = name; bytes = bytes; ended = true }

  is-whole : (name : InputName) (t : Take) → t.name ≡ name → t.ended ≡ true → of name t.bytes ≡ t
  is-whole name t same ended = ap₂ {C = Take} (λ n e. record { name = n; bytes = t.bytes; ended = e }) (sym same) (sym ended)

  pub whole-read : (names : List InputName) (given : List Take) → AllRead names given → ArePrefixesTaken told given → whole_of told names ≡ given
  whole-read [] [] read taken = refl
  whole-read [] (t ∷ given) read taken = absurd read
  whole-read (name ∷ names) [] read taken = absurd read
  whole-read (name ∷ names) (t ∷ given) read taken =
      ap (λ holds. elim holds [ None ↦ [] | Some bytes ↦ of name bytes ∷ whole_of told names ]) (holds-all name t read.0 read.1 taken.0)
      ∙ ap₂ (λ u us. u ∷ us) (is-whole name t read.0 read.1) (whole-read names given read.2 taken.1)

  -- and what is taken by more bytes
  abbrev next_by : InputName → List Take → Bool → ℕ → List ℕ → List Take
  next_by name rest within n bytes = if within then of name bytes ∷ rest else record { name = name; bytes = take n bytes; ended = false } ∷ []

  pub taken-past : (names more : List InputName) (given : List Take) (n : ℕ) → AllRead names given → ArePrefixesTaken told given → total given ≤ n → taken_by told (names ++ more) n ≡ given ++ taken_by told more (n - total given)
  taken-past [] more [] n read taken enough = ap (taken_by told more) (let e : n ≡ n - 0 = omega arith in e)
  taken-past [] more (t ∷ given) n read taken enough = absurd read
  taken-past (name ∷ names) more [] n read taken enough = absurd read
  taken-past (name ∷ names) more (t ∷ given) n read taken enough =
      let within : nat_le (length t.bytes) n ≡ true = le-leb (length t.bytes) n (omega (arith, enough)) in
      let rest = taken-past names more given (n - length t.bytes) read.2 taken.1 (omega (arith, enough)) in
      ap (λ holds. elim holds [ None ↦ [] | Some bytes ↦ next_by name (taken_by told (names ++ more) (n - length bytes)) (nat_le (length bytes) n) n bytes ]) (holds-all name t read.0 read.1 taken.0)
      ∙ ap (λ b. next_by name (taken_by told (names ++ more) (n - length t.bytes)) b n t.bytes) within
      ∙ ap₂ (λ u us. u ∷ us) (is-whole name t read.0 read.1) rest
      ∙ ap (λ k. t ∷ given ++ taken_by told more k) (let e : (n - length t.bytes) - total given ≡ n - total (t ∷ given) = omega (arith, enough) in e)

  take-none : (n : ℕ) → take {A = Take} n [] ≡ []
  take-none zero = refl
  take-none (suc n) = refl

  -- of the inputs before, the same is taken
  pub taken-first : (names more : List InputName) (n : ℕ) → take (length names) (taken_by told (names ++ more) n) ≡ taken_by told names n
  taken-first [] more n = refl
  taken-first (name ∷ names) more n = by (λ k. taken-first names more k) (told name)
    where
      within : ((k : ℕ) → take (length names) (taken_by told (names ++ more) k) ≡ taken_by told names k) → (bytes : List ℕ) (b : Bool) → take {A = Take} (suc (length names)) (next_by name (taken_by told (names ++ more) (n - length bytes)) b n bytes) ≡ next_by name (taken_by told names (n - length bytes)) b n bytes
      within next bytes true = ap (λ us. of name bytes ∷ us) (next (n - length bytes))
      within next bytes false = ap (λ us. record { name = name; bytes = take n bytes; ended = false } ∷ us) (take-none (length names))

      by : ((k : ℕ) → take (length names) (taken_by told (names ++ more) k) ≡ taken_by told names k) → (holds : Option (List ℕ)) → take {A = Take} (suc (length names)) (elim holds [ None ↦ [] | Some bytes ↦ next_by name (taken_by told (names ++ more) (n - length bytes)) (nat_le (length bytes) n) n bytes ])
          ≡ elim holds [ None ↦ [] | Some bytes ↦ next_by name (taken_by told names (n - length bytes)) (nat_le (length bytes) n) n bytes ]
      by next None = refl
      by next (Some bytes) = within next bytes (nat_le (length bytes) n)

  -- no more bytes are taken than these
  pub taken-most : (names : List InputName) (n : ℕ) → total (taken_by told names n) ≤ n
  taken-most [] n = omega arith
  taken-most (name ∷ names) n = by (λ k. taken-most names k) (told name)
    where
      within : ((k : ℕ) → total (taken_by told names k) ≤ k) → (bytes : List ℕ) (b : Bool) → nat_le (length bytes) n ≡ b → total (next_by name (taken_by told names (n - length bytes)) b n bytes) ≤ n
      within next bytes true is = omega (arith, leb-true (length bytes) n is, next (n - length bytes))
      within next bytes false is = omega (arith, length-take n bytes)

      by : ((k : ℕ) → total (taken_by told names k) ≤ k) → (holds : Option (List ℕ)) → total (elim holds [ None ↦ [] | Some bytes ↦ next_by name (taken_by told names (n - length bytes)) (nat_le (length bytes) n) n bytes ]) ≤ n
      by next None = omega arith
      by next (Some bytes) = within next bytes (nat_le (length bytes) n) refl

  -- where each input holds few bytes, few were taken of the open one
  either-few : (ended : Bool) (n : ℕ) → n < 2 ^ 60 → (if ended then 0 else n) < 2 ^ 60
  either-few true n few = omega arith
  either-few false n few = few

  pub few-open : (names : List InputName) (given : List Take) → InOrder names given → ArePrefixesTaken told given → AreShort told names → open_bytes given < 2 ^ 60
  few-open names [] order taken short = omega arith
  few-open [] (t ∷ given) order taken short = absurd order
  few-open (name ∷ names) (t ∷ []) order taken short =
      let holds : told name ≡ Some (t.bytes ++ taken.0.0) = ap told (sym order) ∙ taken.0.1 in
      let few : length (t.bytes ++ taken.0.0) < 2 ^ 60 = subst (λ held. IfSome held (λ bytes. length bytes < 2 ^ 60)) holds short.0 in
      either-few t.ended (length t.bytes) (omega (arith, few, length-append t.bytes taken.0.0))
  few-open (name ∷ names) (t ∷ u ∷ given) order taken short = few-open names (u ∷ given) order.2 taken.1 short.1

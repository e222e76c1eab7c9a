-- Texts without escapes, and the bytes that put a text in quotes.
use Rattle.std.proofs.Common.{◌≡◌, ℕ, ◌+◌, ◌==◌, ◌||◌, ◌&&◌, not, Bool, true, false, if◌then◌else◌, List, [], ◌∷◌, ◌++◌, length, get_or, Option, Some, None, is_some, refl, ap, ap₂, sym, ◌∙◌, arith}
use Rattle.std.specs.List.{flat_map, list_any}
use Rattle.std.specs.Option.{option_map}
use Rattle.mlr_spec.specs.Split.{place_in}
use Rattle.mlr_value.specs.Stops.{has_stop, is_stop}
use Rattle.writers.specs.Csv.{csv_field, quoted, wants_quotes}
use Rattle.writers.specs.declared.options.WriteOpts.{WriteOpts}

neither : (a b : Bool) → (a || b) ≡ false → (a ≡ false) × (b ≡ false)
neither true b none = absurd (let e : true ≡ false = none in cc)
neither false b none = (refl, none)

pub none-from-not : (b : Bool) → not b ≡ true → b ≡ false
none-from-not true is = sym is
none-from-not false is = refl

-- a text without a byte that is escaped is written as it is
pub plain-text : (escaped : ℕ → List ℕ) (stops : List ℕ) → ((b : ℕ) → is_stop stops b ≡ false → escaped b ≡ b ∷ [])
    → (text : List ℕ) → has_stop stops text ≡ false → flat_map escaped text ≡ text
plain-text escaped stops plain [] none = refl
plain-text escaped stops plain (b ∷ text) none =
    let parts = neither (is_stop stops b) (has_stop stops text) none in
    ap₂ (λ x y. x ++ y) (plain b parts.0) (plain-text escaped stops plain text parts.1)

still-some : (found : Option ℕ) → is_some (option_map (λ place. place + 1) found) ≡ is_some found
still-some None = refl
still-some (Some place) = refl

-- a byte among others, at the start of a text or later
among-all : (here special later following : Bool) (found : Option ℕ) → following ≡ (later || is_some found)
    → ((special || here) || following) ≡ ((special || later) || is_some (if here && true then Some 0 else option_map (λ place. place + 1) found))
among-all true true later following found is = refl
among-all true false true following found is = refl
among-all true false false following found is = refl
among-all false true later following found is = refl
among-all false false later following found is = is ∙ ap (λ t. later || t) (sym (still-some found))

-- the three bytes and another
one-of-them : (a b c d : Bool) → (a || (b || (c || (d || false)))) ≡ (((a || b) || c) || d)
one-of-them true b c d = refl
one-of-them false true c d = refl
one-of-them false false true d = refl
one-of-them false false false true = refl
one-of-them false false false false = refl

-- a separator of one byte is where the byte is
one-byte : (s : ℕ) (text : List ℕ) → has_stop (34 ∷ 10 ∷ 13 ∷ s ∷ []) text ≡ (list_any wants_quotes text || is_some (place_in (s ∷ []) text))
one-byte s [] = refl
one-byte s (b ∷ text) =
    ap (λ t. t || has_stop (34 ∷ 10 ∷ 13 ∷ s ∷ []) text) (one-of-them (b == 34) (b == 10) (b == 13) (b == s))
    ∙ among-all (b == s) (wants_quotes b) (list_any wants_quotes text) (has_stop (34 ∷ 10 ∷ 13 ∷ s ∷ []) text) (place_in (s ∷ []) text) (one-byte s text)

pub one-item : (xs : List ℕ) (d : ℕ) → length xs ≡ 1 → xs ≡ get_or xs 0 d ∷ []
one-item [] d one = absurd (omega (arith, one))
one-item (x ∷ []) d one = refl
one-item (x ∷ y ∷ xs) d one = absurd (omega (arith, one))

-- a field of CSV, where the separator is one byte and not all fields are in quotes
pub csv-stops : (opts : WriteOpts) → opts.quote_all ≡ false → length opts.ofs ≡ 1 → (text : List ℕ)
    → csv_field opts text ≡ (if has_stop (34 ∷ 10 ∷ 13 ∷ get_or opts.ofs 0 0 ∷ []) text then quoted text else text)
csv-stops opts none one text =
    let s = get_or opts.ofs 0 0 in
    ap (λ all. if (all || list_any wants_quotes text) || is_some (place_in opts.ofs text) then quoted text else text) none
    ∙ ap (λ ofs. if list_any wants_quotes text || is_some (place_in ofs text) then quoted text else text) (one-item opts.ofs 0 one)
    ∙ sym (ap (λ test. if test then quoted text else text) (one-byte s text))

-- The key of a list of texts determines the texts.
use Rattle.std.proofs.Common.{◌≡◌, ℕ, zero, suc, cond, ◌||◌, List, [], ◌∷◌, ◌++◌, map, refl, ap, ap₂, sym, ◌∙◌, None, arith}
use Rattle.std.proofs.Math.Dec.{eqb-suc-zero}
use Rattle.std.proofs.lemmas.Bool.{eq-eqb}
use Rattle.memchr.specs.Find.{IsFirstByte, is_byte}
use Rattle.std.specs.List.{list_any}
use Rattle.std.specs.Str.{bytes_eq}
use Rattle.std.specs.Bool.{Decides}
use Rattle.std.proofs.lemmas.Bool.Decides.{same_from_decides}
use Rattle.std.proofs.lemmas.Slice.Eq.{bytes_eq-Decides, slice_eq-Decides}
use Rattle.mlr_event.specs.Reading.{is_among}
use Rattle.mlr_groups.specs.Grouping.{texts_eq}
use Rattle.mlr_groups.specs.Keys.{escaped, key_of}

-- a byte that isn't 0 is unchanged in the key
escaped-plain : (n : ℕ) (text : List ℕ) → escaped (suc n ∷ text) ≡ suc n ∷ escaped text
escaped-plain n text = ap (λ t. cond t (0 ∷ 1 ∷ escaped text) (suc n ∷ escaped text)) (eqb-suc-zero n)

-- so it is when more texts follow
plain-before : (n : ℕ) (text following : List ℕ) → escaped (suc n ∷ text) ++ 0 ∷ 0 ∷ following ≡ suc n ∷ escaped text ++ 0 ∷ 0 ∷ following
plain-before n text following = ap (λ t. t ++ 0 ∷ 0 ∷ following) (escaped-plain n text)

-- the first text of a key ends at one place, so that equal keys have equal first texts and equal rests
split : (text other following rest : List ℕ) → escaped text ++ 0 ∷ 0 ∷ following ≡ escaped other ++ 0 ∷ 0 ∷ rest → (text ≡ other) × (following ≡ rest)
split [] [] following rest same = (refl, (let e : following ≡ rest = cc in e))
split [] (zero ∷ other) following rest same = absurd (let e : zero ≡ suc zero = cc in cc)
split [] (suc n ∷ other) following rest same =
    let opened : 0 ∷ 0 ∷ following ≡ suc n ∷ escaped other ++ 0 ∷ 0 ∷ rest = same ∙ plain-before n other rest in
    absurd (let e : zero ≡ suc n = cc in cc)
split (zero ∷ text) [] following rest same = absurd (let e : suc zero ≡ zero = cc in cc)
split (suc n ∷ text) [] following rest same =
    let opened : suc n ∷ escaped text ++ 0 ∷ 0 ∷ following ≡ 0 ∷ 0 ∷ rest = sym (plain-before n text following) ∙ same in
    absurd (let e : suc n ≡ zero = cc in cc)
split (zero ∷ text) (zero ∷ other) following rest same =
    let parts = split text other following rest (let e : escaped text ++ 0 ∷ 0 ∷ following ≡ escaped other ++ 0 ∷ 0 ∷ rest = cc in e) in
    (ap (λ t. zero ∷ t) parts.0, parts.1)
split (zero ∷ text) (suc n ∷ other) following rest same =
    let opened : 0 ∷ 1 ∷ escaped text ++ 0 ∷ 0 ∷ following ≡ suc n ∷ escaped other ++ 0 ∷ 0 ∷ rest = same ∙ plain-before n other rest in
    absurd (let e : zero ≡ suc n = cc in cc)
split (suc n ∷ text) (zero ∷ other) following rest same =
    let opened : suc n ∷ escaped text ++ 0 ∷ 0 ∷ following ≡ 0 ∷ 1 ∷ escaped other ++ 0 ∷ 0 ∷ rest = sym (plain-before n text following) ∙ same in
    absurd (let e : suc n ≡ zero = cc in cc)
split (suc n ∷ text) (suc m ∷ other) following rest same =
    let opened : suc n ∷ escaped text ++ 0 ∷ 0 ∷ following ≡ suc m ∷ escaped other ++ 0 ∷ 0 ∷ rest =
    sym (plain-before n text following) ∙ same ∙ plain-before m other rest in
    let first : suc n ≡ suc m = cc in
    let parts = split text other following rest (let e : escaped text ++ 0 ∷ 0 ∷ following ≡ escaped other ++ 0 ∷ 0 ∷ rest = cc in e) in
    (ap₂ (λ b t. b ∷ t) first parts.0, parts.1)

not-empty : (text following : List ℕ) → escaped text ++ 0 ∷ 0 ∷ following ≡ [] → ⊥
not-empty [] following same = let e : 0 ∷ 0 ∷ following ≡ [] = same in cc
not-empty (zero ∷ text) following same = let e : 0 ∷ 1 ∷ escaped text ++ 0 ∷ 0 ∷ following ≡ [] = same in cc
not-empty (suc n ∷ text) following same = let e : suc n ∷ escaped text ++ 0 ∷ 0 ∷ following ≡ [] = sym (plain-before n text following) ∙ same in cc

-- Lists of texts with equal keys are equal.
pub key-injective : (texts other : List (List ℕ)) → key_of texts ≡ key_of other → texts ≡ other
key-injective [] [] same = refl
key-injective [] (text ∷ other) same = absurd (not-empty text (key_of other) (sym same))
key-injective (text ∷ texts) [] same = absurd (not-empty text (key_of texts) same)
key-injective (text ∷ texts) (first ∷ other) same =
    let parts = split text first (key_of texts) (key_of other) same in
    ap₂ (λ t ts. t ∷ ts) parts.0 (key-injective texts other parts.1)

pub texts_eq-Decides : (texts other : List (List ℕ)) → Decides (texts_eq texts other) (texts ≡ other)
texts_eq-Decides texts other = slice_eq-Decides bytes_eq-Decides texts other (texts_eq texts other) refl

-- keys are equal exactly if the texts are
pub key-eq : (texts other : List (List ℕ)) → bytes_eq (key_of texts) (key_of other) ≡ texts_eq texts other
key-eq texts other =
    let keys = bytes_eq-Decides (key_of texts) (key_of other) in
    same_from_decides (bytes_eq (key_of texts) (key_of other)) (texts_eq texts other)
    (λ same. key-injective texts other (keys.0 same), λ same. keys.1 (ap key_of same)) (texts_eq-Decides texts other)

pub among-keys : (texts : List (List ℕ)) (groups : List (List (List ℕ))) → is_among (map key_of groups) (key_of texts) ≡ list_any (texts_eq texts) groups
among-keys texts [] = refl
among-keys texts (group ∷ groups) = ap₂ (λ a b. a || b) (key-eq texts group) (among-keys texts groups)

-- a text without a byte 0 is unchanged in a key
pub escaped-none : (text : List ℕ) → IsFirstByte (is_byte 0) text None → escaped text ≡ text
escaped-none [] nowhere = refl
escaped-none (zero ∷ text) nowhere = absurd (nowhere 0 (omega arith) (omega arith) (eq-eqb 0 0 refl))
escaped-none (suc n ∷ text) nowhere =
    escaped-plain n text ∙ ap (λ t. suc n ∷ t) (escaped-none text (λ k low below. nowhere (suc k) (omega arith) (omega arith)))

-- A message that is written text by text.
use Rattle.std.proofs.Common.{◌≡◌, ℕ, Bor, zero, suc, ◌+◌, ◌<◌, List, [], ◌∷◌, ◌++◌, length, drop, get_or, map, Option, refl, ap, sym, ◌∙◌, append_assoc, arith}
use Rattle.std.proofs.lemmas.List.{append-nil, get_or-map, length-map}
use Rattle.mlr_event.specs.declared.names.Target.{Target}
use Rattle.mlr_world.specs.Outputs.{Held, ChangesAt, IsPrefixOf, with_bytes}
use Rattle.mlr_world.proofs.Changes.{ChangesAt-map, ChangesAt-then, with_bytes-twice}
use Rattle.cli_run.specs.Message.{with_values}

drop-none : {A : Type 0} (i : ℕ) → drop {A = A} i [] ≡ []
drop-none zero = refl
drop-none (suc i) = refl

-- a text with the value after it, and what follows them
pub with_values-next : (texts values : List (List ℕ)) (i : ℕ) (value : List ℕ) → i < length texts
    → (i + 1 < length texts → value ≡ get_or values i []) → (i + 1 ≡ length texts → value ≡ [])
    → with_values (drop i texts) (drop i values) ≡ (get_or texts i [] ++ value) ++ with_values (drop (suc i) texts) (drop (suc i) values)
with_values-next [] values i value below between last = absurd (omega (arith, below))
with_values-next (text ∷ []) values zero value below between last =
    sym (append-nil text) ∙ ap (λ v. text ++ v) (sym (last refl)) ∙ sym (append-nil (text ++ value))
with_values-next (text ∷ next ∷ texts) [] zero value below between last =
    ap (λ t. t ++ with_values (next ∷ texts) []) (sym (append-nil text)) ∙ ap (λ v. (text ++ v) ++ with_values (next ∷ texts) []) (sym (between (omega (arith))))
with_values-next (text ∷ next ∷ texts) (first ∷ values) zero value below between last =
    ap (λ v. (text ++ v) ++ with_values (next ∷ texts) values) (sym (between (omega (arith))))
with_values-next (text ∷ texts) [] (suc i) value below between last =
    ap (with_values (drop i texts)) (sym (drop-none i))
    ∙ with_values-next texts [] i value (omega (arith, below)) (λ more. between (omega (arith, more))) (λ end. last (omega (arith, end)))
with_values-next (text ∷ texts) (first ∷ values) (suc i) value below between last =
    with_values-next texts values i value (omega (arith, below)) (λ more. between (omega (arith, more))) (λ end. last (omega (arith, end)))

-- the same, of texts and values that are borrowed
pub borrowed-next : (texts values : List (Bor (List ℕ))) (i : ℕ) (d : Bor (List ℕ)) (value : List ℕ) → i < length texts
    → (i + 1 < length texts → value ≡ get_or (map (λ (v : Bor (List ℕ)). v.now) values) i []) → (i + 1 ≡ length texts → value ≡ [])
    → with_values (drop i (map (λ (t : Bor (List ℕ)). t.now) texts)) (drop i (map (λ (v : Bor (List ℕ)). v.now) values))
    ≡ ((get_or texts i d).now ++ value) ++ with_values (drop (i + 1) (map (λ (t : Bor (List ℕ)). t.now) texts)) (drop (i + 1) (map (λ (v : Bor (List ℕ)). v.now) values))
borrowed-next texts values i d value below between last =
    let now : Bor (List ℕ) → List ℕ = λ text. text.now in
    let all = length-map texts now in
    let next : suc i ≡ i + 1 = omega (arith) in
    with_values-next (map now texts) (map now values) i value (omega (arith, below, all)) (λ more. between (omega (arith, more, all))) (λ end. last (omega (arith, end, all)))
    ∙ ap (λ text. (text ++ value) ++ with_values (drop (suc i) (map now texts)) (drop (suc i) (map now values))) (get_or-map now texts i d [] below)
    ∙ ap (λ n. ((get_or texts i d).now ++ value) ++ with_values (drop n (map now texts)) (drop n (map now values))) next

abbrev pub Prefixes : List ℕ → Option (List ℕ) → Option (List ℕ) → Type 0
Prefixes text before now = (prefix : List ℕ) × IsPrefixOf text prefix × (now ≡ with_bytes prefix before)

-- a prefix of the first of two texts
pub stopped-first : (text rest : List ℕ) (target : Target) (before now : Option Held) → ChangesAt target (Prefixes text) before now → ChangesAt target (Prefixes (text ++ rest)) before now
stopped-first text rest target before now =
    ChangesAt-map target (Prefixes text) (Prefixes (text ++ rest))
    (λ b n told. (told.0, (told.1.0 ++ rest, ap (λ t. t ++ rest) told.1.1 ∙ append_assoc told.0 told.1.0 rest), told.2)) before now

-- a text, and then a prefix of the next
pub stopped : (written part rest whole : List ℕ) → whole ≡ written ++ (part ++ rest) → (target : Target) (before now later : Option Held)
    → ChangesAt target (λ b n. n ≡ with_bytes written b) before now
    → ChangesAt target (Prefixes part) now later
    → ChangesAt target (Prefixes whole) before later
stopped written part rest whole is target before now later =
    ChangesAt-then target (λ b n. n ≡ with_bytes written b) (Prefixes part) (Prefixes whole)
    (λ a b c first second. (
      written ++ second.0,
      (
        second.1.0 ++ rest,
        is ∙ ap (λ p. written ++ (p ++ rest)) second.1.1
            ∙ ap (λ t. written ++ t) (append_assoc second.0 second.1.0 rest) ∙ sym (append_assoc written second.0 (second.1.0 ++ rest)),
      ),
      second.2 ∙ ap (with_bytes second.0) first ∙ with_bytes-twice written second.0 a,
    ))
    before now later

-- what was written so far, and then a text more
pub advanced : (written part rest whole remaining : List ℕ) → written ++ remaining ≡ whole → remaining ≡ part ++ rest → (target : Target) (before now later : Option Held)
    → ChangesAt target (λ b n. n ≡ with_bytes written b) before now
    → ChangesAt target (λ b n. n ≡ with_bytes part b) now later
    → (all : List ℕ) × (all ++ rest ≡ whole) × ChangesAt target (λ b n. n ≡ with_bytes all b) before later
advanced written part rest whole remaining is next target before now later first second = (
  written ++ part,
  append_assoc written part rest ∙ ap (λ t. written ++ t) (sym next) ∙ is,
  ChangesAt-then target (λ b n. n ≡ with_bytes written b) (λ b n. n ≡ with_bytes part b) (λ b n. n ≡ with_bytes (written ++ part) b)
      (λ a b c first second. second ∙ ap (with_bytes part) first ∙ with_bytes-twice written part a)
      before now later first second,
)

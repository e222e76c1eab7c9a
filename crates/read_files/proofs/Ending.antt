-- The last of some events, where a fault is.
use Rattle.std.proofs.Common.{◌≡◌, ℕ, ◌+◌, ◌<◌, ◌≤◌, Bool, true, false, not, ◌||◌, List, [], ◌∷◌, ◌++◌, length, Some, None, refl, ap, sym, ◌∙◌, append_assoc, arith, length-append}
use Rattle.std.specs.List.{list_any, slice_get}
use Rattle.std.proofs.Common.{get_or}
use Rattle.std.proofs.lemmas.Bool.{and_parts, not-true, or_parts}
use Rattle.std.proofs.lemmas.List.{append-nil}
use Rattle.std.proofs.lemmas.Option.{get_or_from_slice_get, slice_get-get_or}
use Rattle.std.proofs.Math.Seq.{get_or-append_seam}
use Rattle.mlr_event.specs.declared.event.Event.{Event}
use Rattle.mlr_event.specs.Verb.{is_end, is_fault, is_last, is_list, is_part}
use Rattle.read_files.proofs.Events.{open-clear}

or-false : (b : Bool) → (b || false) ≡ b
or-false true = refl
or-false false = refl

-- a fault is the last event
fault-last : (x : Event) (xs : List Event) → is_list (x ∷ xs) ≡ true → (prefix : List Event) × (e : Event) × (x ∷ xs ≡ prefix ++ e ∷ []) × (list_any is_fault (x ∷ xs) ≡ is_fault e)
fault-last x [] list = ([], x, refl, or-false (is_fault x))
fault-last x (y ∷ xs) list =
    let parts = and_parts (not (is_last x)) (is_list (y ∷ xs)) list in
    let rest = fault-last y xs parts.1 in
    let none = open-clear (x ∷ []) (ap (λ b. not (b || false)) (not-true (is_last x) parts.0)) in
    (x ∷ rest.0, rest.1, ap (λ l. x ∷ l) rest.2, ap (λ b. b || list_any is_fault (y ∷ xs)) (or_parts (is_fault x) false none).0 ∙ rest.3)

-- the last of all events shows whether a fault is among those after others
pub last-tells : (events known more : List Event) (i : ℕ) (e : Event) → events ≡ known ++ more → length known < length events → i + 1 ≡ length events → is_part more ≡ true → slice_get events i ≡ Some e
    → is_fault e ≡ list_any is_fault more
last-tells events known [] i e are some last part at = absurd (let none = ap length (are ∙ append-nil known) in omega (arith, none, some))
last-tells events known (x ∷ xs) i e are some last part at =
    let found = fault-last x xs (and_parts (not (list_any is_end (x ∷ xs))) (is_list (x ∷ xs)) part).1 in
    let prefix = known ++ found.0 in
    let all : events ≡ prefix ++ found.1 ∷ [] = are ∙ ap (λ l. known ++ l) found.2 ∙ sym (append_assoc known found.0 (found.1 ∷ [])) in
    let place : i ≡ length prefix = omega (arith, last, ap length all, length-append prefix (found.1 ∷ [])) in
    let same : found.1 ≡ e =
    sym (get_or-append_seam prefix found.1 [] e) ∙ ap (λ n. get_or (prefix ++ found.1 ∷ []) n e) (sym place) ∙ ap (λ l. get_or l i e) (sym all) ∙ get_or_from_slice_get events i e e at in
    ap is_fault (sym same) ∙ sym found.3

-- and there is none where there are no more
pub none-more : (events known more : List Event) → events ≡ known ++ more → length events ≤ length known → false ≡ list_any is_fault more
none-more events known [] are few = refl
none-more events known (x ∷ xs) are few = absurd (omega (arith, few, ap length are, length-append known (x ∷ xs)))

-- within a list there is an element
pub some-within : (xs : List Event) (i : ℕ) → i < length xs → None ≡ slice_get xs i → ⊥
some-within [] i within none = absurd (omega (arith, within))
some-within (x ∷ xs) i within none = absurd (let e : None ≡ Some (get_or (x ∷ xs) i x) = none ∙ slice_get-get_or (x ∷ xs) i x within in cc)

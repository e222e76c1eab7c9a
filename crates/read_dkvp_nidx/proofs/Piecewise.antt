-- Records that are built field by field.
use Rattle.std.proofs.Common.{◌≡◌, ℕ, ◌+◌, ◌^◌, ◌<◌, ◌≤◌, Bool, true, false, cond, not, ◌||◌, eqb, Bor, List, [], ◌∷◌, ◌++◌, length, Option, Some, None, IfSome, refl, ap, sym, subst, ◌∙◌, append_assoc, arith, inl, inr}
use Rattle.std.specs.Fmt.{decimal}
use Rattle.std.specs.List.{filter}
use Rattle.std.specs.Option.{option_map}
use Rattle.std.specs.Str.{bytes_eq}
use Rattle.std.proofs.lemmas.Bool.{cases_Bool}
use Rattle.std.proofs.lemmas.Bool.Decides.{nat_tests}
use Rattle.std.proofs.lemmas.Fmt.{decimal_injective}
use Rattle.std.proofs.lemmas.List.{length-append, map-append}
use Rattle.std.proofs.lemmas.List.Folds.{list_any-append}
use Rattle.std.proofs.lemmas.Slice.Eq.{bytes_eq-Decides}
use Rattle.mlr_spec.specs.Infer.{tree_of_data}
use Rattle.mlr_spec.specs.Pairs.{put_at, keys_of, value_at}
use Rattle.mlr_spec.specs.Split.{split_by}
use Rattle.mlr_spec.specs.Tree.{Tree}
use Rattle.mlr_record.specs.Parts.{parts_of_rest}
use Rattle.mlr_event.specs.declared.options.ReadOpts.{ReadOpts}
use Rattle.mlr_event.specs.Reading.{free_name, is_among}
use Rattle.mlr_event.specs.Rows.{with_field, with_fields}
use Rattle.mlr_event.proofs.Putting.{with_fields-more, value_at-free}
use Rattle.read_dkvp_nidx.specs.Dkvp.{key_of, value_of, keys_from, values_from}
use Rattle.read_dkvp_nidx.specs.Nidx.{by_position}
use Rattle.read_dkvp_nidx.specs.Pieces.{with_piece, with_word, position_after}

-- a text that was cut at its first separator: the rest has the remaining parts
pub parts-more : (separator left part : List ℕ) (found : Option (Bor (List ℕ))) (rest : Bor (List ℕ)) → found ≡ Some rest
    → split_by separator left ≡ part ∷ parts_of_rest separator (option_map (λ r. r.now) found) → split_by separator left ≡ part ∷ split_by separator rest.now
parts-more separator left part found rest is parts = parts ∙ ap (λ f. part ∷ parts_of_rest separator (option_map (λ (r : Bor (List ℕ)). r.now) f)) is

pub rest-shorter : (left : List ℕ) (found : Option (Bor (List ℕ))) (rest : Bor (List ℕ)) → found ≡ Some rest → IfSome found (λ r. length r.now < length left) → length rest.now < length left
rest-shorter left found rest is shorter = subst (λ f. IfSome f (λ (r : Bor (List ℕ)). length r.now < length left)) is shorter

-- a field makes a record longer by at most one
length-put_at : (key : List ℕ) (value : Tree) (pairs : List (List ℕ × Tree)) → length (put_at key value pairs) ≤ length pairs + 1
length-put_at key value [] = omega arith
length-put_at key value (pair ∷ pairs) =
    elim (cases_Bool (bytes_eq pair.0 key)) as (λ _. length (put_at key value (pair ∷ pairs)) ≤ length (pair ∷ pairs) + 1) [
      | inl here ↦ rw here (omega arith)
      | inr other ↦ rw other (omega (arith, length-put_at key value pairs))
    ]

pub length-with_field : (dedupe : Bool) (key : List ℕ) (value : Tree) (pairs : List (List ℕ × Tree)) → length (with_field dedupe key value pairs) ≤ length pairs + 1
length-with_field true key value pairs = omega (arith, length-append pairs ((free_name (keys_of pairs) key, value) ∷ []))
length-with_field false key value pairs = length-put_at key value pairs

pub length-with_piece : (opts : ReadOpts) (position : ℕ) (piece : List ℕ) (pairs : List (List ℕ × Tree)) → length (with_piece opts position piece pairs) ≤ length pairs + 1
length-with_piece opts position [] pairs = omega arith
length-with_piece opts position (b ∷ piece) pairs =
    length-with_field opts.dedupe (key_of opts.ips position (b ∷ piece)) (tree_of_data opts.infer (value_of opts.ips (b ∷ piece))) pairs

pub with_piece-more : (opts : ReadOpts) (position : ℕ) (piece : List ℕ) (pieces : List (List ℕ)) (pairs : List (List ℕ × Tree))
    → with_fields opts.dedupe (with_piece opts position piece pairs) (keys_from opts.ips (position + 1) pieces) (values_from opts pieces)
    ≡ with_fields opts.dedupe pairs (keys_from opts.ips position (piece ∷ pieces)) (values_from opts (piece ∷ pieces))
with_piece-more opts position [] pieces pairs = refl
with_piece-more opts position (b ∷ piece) pieces pairs =
    with_fields-more opts.dedupe pairs (key_of opts.ips position (b ∷ piece)) (keys_from opts.ips (position + 1) pieces)
    (tree_of_data opts.infer (value_of opts.ips (b ∷ piece))) (values_from opts pieces)

-- words that aren't empty
abbrev pub is_word : List ℕ → Bool
is_word part = not (eqb (length part) 0)

never-empty : (b : ℕ) (word : List ℕ) → eqb (length (b ∷ word)) 0 ≡ false
never-empty b word = grind (arith, nat_tests)

word-kept : (b : ℕ) (word : List ℕ) (more : List (List ℕ)) → cond (is_word (b ∷ word)) ((b ∷ word) ∷ more) more ≡ (b ∷ word) ∷ more
word-kept b word more = ap (λ t. cond (not t) ((b ∷ word) ∷ more) more) (never-empty b word)

pub with_word-more : (opts : ReadOpts) (position : ℕ) (word : List ℕ) (words : List (List ℕ)) (pairs : List (List ℕ × Tree))
    → with_word opts position word pairs ++ by_position opts (position_after position word) (filter is_word words) ≡ pairs ++ by_position opts position (filter is_word (word ∷ words))
with_word-more opts position [] words pairs = refl
with_word-more opts position (b ∷ word) words pairs =
    append_assoc pairs ((decimal position, tree_of_data opts.infer (b ∷ word)) ∷ []) (by_position opts (position + 1) (filter is_word words))
    ∙ ap (λ kept. pairs ++ by_position opts position kept) (sym (word-kept b word (filter is_word words)))

-- the record has no key that is this position or a later one
abbrev pub AreFree : ℕ → List (List ℕ × Tree) → Type 0
AreFree position pairs = (k : ℕ) → position ≤ k → k < 2 ^ 64 → is_among (keys_of pairs) (decimal k) ≡ false

decimal-apart : (j k : ℕ) → j < k → k < 2 ^ 64 → bytes_eq (decimal k) (decimal j) ≡ false
decimal-apart j k less small =
    elim (cases_Bool (bytes_eq (decimal k) (decimal j))) as (λ _. bytes_eq (decimal k) (decimal j) ≡ false) [
      | inl same ↦ absurd (omega (arith, decimal_injective k j small (omega arith) ((bytes_eq-Decides (decimal k) (decimal j)).0 same)))
      | inr apart ↦ apart
    ]

pub AreFree-more : (opts : ReadOpts) (position : ℕ) (word : List ℕ) (pairs : List (List ℕ × Tree)) → AreFree position pairs → AreFree (position_after position word) (with_word opts position word pairs)
AreFree-more opts position [] pairs free = free
AreFree-more opts position (b ∷ word) pairs free = λ k low small.
    let pair : List ℕ × Tree = (decimal position, tree_of_data opts.infer (b ∷ word)) in
    ap (λ keys. is_among keys (decimal k)) (map-append (λ (p : List ℕ × Tree). p.0) pairs (pair ∷ []))
    ∙ list_any-append (bytes_eq (decimal k)) (keys_of pairs) (decimal position ∷ [])
    ∙ ap (λ t. t || (bytes_eq (decimal k) (decimal position) || false)) (free k (omega arith) small)
    ∙ ap (λ t. t || false) (decimal-apart position k (omega arith) small)

pub AreFree-now : (position : ℕ) (pairs : List (List ℕ × Tree)) → position < 2 ^ 64 → AreFree position pairs → value_at (decimal position) pairs ≡ None
AreFree-now position pairs small free = value_at-free (decimal position) pairs (free position (omega arith) small)

pub position-small : (position : ℕ) (word : List ℕ) → position_after position word ≤ position + 1
position-small position [] = omega arith
position-small position (b ∷ word) = omega arith

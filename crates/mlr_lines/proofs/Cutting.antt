-- Texts cut at line endings: the lines that a text adds to those before it, and the byte order mark.
use Rattle.std.proofs.Common.{◌≡◌, ℕ, zero, suc, ◌+◌, ◌-◌, ◌<◌, Bool, true, false, cond, eqb, ◌&&◌, List, [], ◌∷◌, ◌++◌, length, take, drop, get_or, Some, None, refl, ap, ap₂, sym, ◌∙◌, append_assoc, arith, inl, inr, add-one, length-drop, length-take}
use Rattle.std.proofs.Math.Seq.{take-length}
use Rattle.std.specs.Str.{bytes_eq}
use Rattle.std.proofs.lemmas.Bool.{cases_Bool, true≢false, false_from_ne_true}
use Rattle.std.proofs.lemmas.List.{append-nil, take-append-drop}
use Rattle.std.proofs.lemmas.Slice.Eq.{bytes_eq-Decides}
use Rattle.memchr.specs.Find.{IsFirstByte, is_byte}
use Rattle.mlr_lines.specs.Lines.{without_mark, ended_after, begun_after, ended_lines, begun_line}
use Rattle.mlr_lines.specs.Steps.{are_none, unmarked_line, unmarked_lines, EndsNoLine, EndsLine}

-- a byte that isn't LF, and a byte that is LF
ended-other : (begun : List ℕ) (b : ℕ) (text : List ℕ) → eqb b 10 ≡ false → ended_after begun (b ∷ text) ≡ ended_after (begun ++ b ∷ []) text
ended-other begun b text other = rw other refl

begun-other : (begun : List ℕ) (b : ℕ) (text : List ℕ) → eqb b 10 ≡ false → begun_after begun (b ∷ text) ≡ begun_after (begun ++ b ∷ []) text
begun-other begun b text other = rw other refl

ended-feed : (begun : List ℕ) (b : ℕ) (text : List ℕ) → eqb b 10 ≡ true → ended_after begun (b ∷ text) ≡ begun ∷ ended_after [] text
ended-feed begun b text feed = rw feed refl

begun-feed : (begun : List ℕ) (b : ℕ) (text : List ℕ) → eqb b 10 ≡ true → begun_after begun (b ∷ text) ≡ begun_after [] text
begun-feed begun b text feed = rw feed refl

ended-none : (text : List ℕ) → ((k : ℕ) → k < length text → eqb (get_or text k 0) 10 ≡ false) → (begun : List ℕ) → ended_after begun text ≡ []
ended-none [] none begun = refl
ended-none (b ∷ text) none begun =
    ended-other begun b text (none 0 (omega arith)) ∙ ended-none text (λ k below. none (suc k) (omega arith)) (begun ++ b ∷ [])

begun-none : (text : List ℕ) → ((k : ℕ) → k < length text → eqb (get_or text k 0) 10 ≡ false) → (begun : List ℕ) → begun_after begun text ≡ begun ++ text
begun-none [] none begun = sym (append-nil begun)
begun-none (b ∷ text) none begun =
    begun-other begun b text (none 0 (omega arith)) ∙ begun-none text (λ k below. none (suc k) (omega arith)) (begun ++ b ∷ [])
    ∙ append_assoc begun (b ∷ []) text

ended-at : (text : List ℕ) (place : ℕ) → place < length text → eqb (get_or text place 0) 10 ≡ true → ((k : ℕ) → k < place → eqb (get_or text k 0) 10 ≡ false)
    → (begun : List ℕ) → ended_after begun text ≡ (begun ++ take place text) ∷ ended_after [] (drop (suc place) text)
ended-at [] place below here before begun = absurd (omega arith)
ended-at (b ∷ text) zero below here before begun = ended-feed begun b text here ∙ ap (λ line. line ∷ ended_after [] text) (sym (append-nil begun))
ended-at (b ∷ text) (suc place) below here before begun =
    ended-other begun b text (before 0 (omega arith)) ∙ ended-at text place (omega arith) here (λ k less. before (suc k) (omega arith)) (begun ++ b ∷ [])
    ∙ ap (λ line. line ∷ ended_after [] (drop (suc place) text)) (append_assoc begun (b ∷ []) (take place text))

begun-at : (text : List ℕ) (place : ℕ) → place < length text → eqb (get_or text place 0) 10 ≡ true → ((k : ℕ) → k < place → eqb (get_or text k 0) 10 ≡ false)
    → (begun : List ℕ) → begun_after begun text ≡ begun_after [] (drop (suc place) text)
begun-at [] place below here before begun = absurd (omega arith)
begun-at (b ∷ text) zero below here before begun = begun-feed begun b text here
begun-at (b ∷ text) (suc place) below here before begun =
    begun-other begun b text (before 0 (omega arith)) ∙ begun-at text place (omega arith) here (λ k less. before (suc k) (omega arith)) (begun ++ b ∷ [])

-- a text and more: the second text continues the line that the first has begun
pub ended-append : (begun text more : List ℕ) → ended_after begun (text ++ more) ≡ ended_after begun text ++ ended_after (begun_after begun text) more
ended-append begun [] more = refl
ended-append begun (b ∷ text) more =
    elim (cases_Bool (eqb b 10)) as (λ _. ended_after begun (b ∷ text ++ more) ≡ ended_after begun (b ∷ text) ++ ended_after (begun_after begun (b ∷ text)) more) [
      | inl feed ↦ rw feed (ap (λ lines. begun ∷ lines) (ended-append [] text more))
      | inr other ↦ rw other (ended-append (begun ++ b ∷ []) text more)
    ]

pub begun-append : (begun text more : List ℕ) → begun_after begun (text ++ more) ≡ begun_after (begun_after begun text) more
begun-append begun [] more = refl
begun-append begun (b ∷ text) more =
    elim (cases_Bool (eqb b 10)) as (λ _. begun_after begun (b ∷ text ++ more) ≡ begun_after (begun_after begun (b ∷ text)) more) [
      | inl feed ↦ rw feed (begun-append [] text more)
      | inr other ↦ rw other (begun-append (begun ++ b ∷ []) text more)
    ]

-- the result of a search for LF says whether the text ends a line
pub EndsNoLine-from : (text : List ℕ) → IsFirstByte (is_byte 10) text None → EndsNoLine text
EndsNoLine-from text nowhere =
    let none : (k : ℕ) → k < length text → eqb (get_or text k 0) 10 ≡ false = λ k below. false_from_ne_true _ (nowhere k (omega arith) below) in
    record { ended = ended-none text none; begun = begun-none text none }

pub EndsLine-from : (text : List ℕ) (place : ℕ) → IsFirstByte (is_byte 10) text (Some place) → EndsLine text (take place text) (take (length text - (place + 1)) (drop (place + 1) text))
EndsLine-from text place found =
    let below : place < length text = found.0.high in
    let before : (k : ℕ) → k < place → eqb (get_or text k 0) 10 ≡ false = λ k less. false_from_ne_true _ (found.0.before k (omega arith) less) in
    let rest : drop (suc place) text ≡ take (length text - (place + 1)) (drop (place + 1) text) =
    ap (λ n. drop n text) (sym (add-one place)) ∙ sym (ap (λ n. take n (drop (place + 1) text)) (sym (length-drop (place + 1) text)) ∙ take-length (drop (place + 1) text)) in
    record {
      ended = λ begun. ended-at text place below found.1 before begun ∙ ap (λ t. (begun ++ take place text) ∷ ended_after [] t) rest;
      begun = λ begun. begun-at text place below found.1 before begun ∙ ap (begun_after []) rest;
      parts = omega (arith, length-take place text, ap length rest, length-drop (suc place) text);
    }

-- a text with the mark, and a text without it
abbrev has_mark : List ℕ → Bool
has_mark text = bytes_eq (take 3 text) (239 ∷ 187 ∷ 191 ∷ [])

unmarked-is : (text : List ℕ) → has_mark text ≡ false → without_mark text ≡ text
unmarked-is text none = ap (λ t. cond t (drop 3 text) text) none

marked-is : (text : List ℕ) → has_mark text ≡ true → text ≡ 239 ∷ 187 ∷ 191 ∷ drop 3 text
marked-is text mark = sym (take-append-drop 3 text) ∙ ap (λ prefix. prefix ++ drop 3 text) ((bytes_eq-Decides (take 3 text) (239 ∷ 187 ∷ 191 ∷ [])).0 mark)

no_mark-prefix : (text more : List ℕ) → has_mark (text ++ more) ≡ false → has_mark text ≡ false
no_mark-prefix text more none =
    elim (cases_Bool (has_mark text)) as (λ _. has_mark text ≡ false) [
      | inl mark ↦ absurd (true≢false (sym (ap (λ t. has_mark (t ++ more)) (marked-is text mark)) ∙ none))
      | inr other ↦ other
    ]

-- a text after a byte order mark
ended-marked : (begun text : List ℕ) → unmarked_lines true (ended_after (239 ∷ 187 ∷ 191 ∷ begun) text) ≡ ended_after begun text
ended-marked begun [] = refl
ended-marked begun (b ∷ text) =
    elim (cases_Bool (eqb b 10)) as (λ _. unmarked_lines true (ended_after (239 ∷ 187 ∷ 191 ∷ begun) (b ∷ text)) ≡ ended_after begun (b ∷ text)) [
      | inl feed ↦ rw feed refl
      | inr other ↦ rw other (ended-marked (begun ++ b ∷ []) text)
    ]

begun-marked : (begun text : List ℕ) → unmarked_line (are_none (ended_after begun text)) (begun_after (239 ∷ 187 ∷ 191 ∷ begun) text) ≡ begun_after begun text
begun-marked begun [] = refl
begun-marked begun (b ∷ text) =
    elim (cases_Bool (eqb b 10)) as (λ _. unmarked_line (are_none (ended_after begun (b ∷ text))) (begun_after (239 ∷ 187 ∷ 191 ∷ begun) (b ∷ text)) ≡ begun_after begun (b ∷ text)) [
      | inl feed ↦ rw feed refl
      | inr other ↦ rw other (begun-marked (begun ++ b ∷ []) text)
    ]

-- a text without a byte order mark
ended-unmarked : (begun text : List ℕ) → has_mark (begun ++ text) ≡ false → unmarked_lines true (ended_after begun text) ≡ ended_after begun text
ended-unmarked begun [] none = refl
ended-unmarked begun (b ∷ text) none =
    elim (cases_Bool (eqb b 10)) as (λ _. unmarked_lines true (ended_after begun (b ∷ text)) ≡ ended_after begun (b ∷ text)) [
      | inl feed ↦ rw feed (ap (λ line. line ∷ ended_after [] text) (unmarked-is begun (no_mark-prefix begun (b ∷ text) none)))
      | inr other ↦ rw other (ended-unmarked (begun ++ b ∷ []) text (ap has_mark (append_assoc begun (b ∷ []) text) ∙ none))
    ]

begun-unmarked : (begun text : List ℕ) → has_mark (begun ++ text) ≡ false → unmarked_line (are_none (ended_after begun text)) (begun_after begun text) ≡ begun_after begun text
begun-unmarked begun [] none = unmarked-is begun (no_mark-prefix begun [] none)
begun-unmarked begun (b ∷ text) none =
    elim (cases_Bool (eqb b 10)) as (λ _. unmarked_line (are_none (ended_after begun (b ∷ text))) (begun_after begun (b ∷ text)) ≡ begun_after begun (b ∷ text)) [
      | inl feed ↦ rw feed refl
      | inr other ↦ rw other (begun-unmarked (begun ++ b ∷ []) text (ap has_mark (append_assoc begun (b ∷ []) text) ∙ none))
    ]

-- The byte order mark is dropped from the first line of the file, whether that line has ended or not.
pub ended_lines-is : (bytes : List ℕ) → ended_lines bytes ≡ unmarked_lines true (ended_after [] bytes)
ended_lines-is bytes =
    elim (cases_Bool (has_mark bytes)) as (λ _. ended_lines bytes ≡ unmarked_lines true (ended_after [] bytes)) [
      | inl mark ↦ ap (λ t. ended_after [] (cond t (drop 3 bytes) bytes)) mark ∙ sym (ended-marked [] (drop 3 bytes))
          ∙ ap (λ t. unmarked_lines true (ended_after [] t)) (sym (marked-is bytes mark))
      | inr none ↦ ap (ended_after []) (unmarked-is bytes none) ∙ sym (ended-unmarked [] bytes none)
    ]

pub begun_line-is : (bytes : List ℕ) → begun_line bytes ≡ unmarked_line (are_none (ended_lines bytes)) (begun_after [] bytes)
begun_line-is bytes =
    elim (cases_Bool (has_mark bytes)) as (λ _. begun_line bytes ≡ unmarked_line (are_none (ended_lines bytes)) (begun_after [] bytes)) [
      | inl mark ↦
          let left : without_mark bytes ≡ drop 3 bytes = ap (λ t. cond t (drop 3 bytes) bytes) mark in
          ap (begun_after []) left ∙ sym (begun-marked [] (drop 3 bytes))
          ∙ ap₂ (λ t u. unmarked_line (are_none (ended_after [] t)) (begun_after [] u)) (sym left) (sym (marked-is bytes mark))
      | inr none ↦
          let left = unmarked-is bytes none in
          ap (begun_after []) left ∙ sym (begun-unmarked [] bytes none)
          ∙ ap (λ t. unmarked_line (are_none (ended_after [] t)) (begun_after [] bytes)) (sym left)
    ]

none-unmarked : (first : Bool) (lines : List (List ℕ)) → are_none (unmarked_lines first lines) ≡ are_none lines
none-unmarked first [] = refl
none-unmarked first (line ∷ lines) = refl

unmarked-later : (lines : List (List ℕ)) → unmarked_lines false lines ≡ lines
unmarked-later [] = refl
unmarked-later (line ∷ lines) = refl

unmarked-append : (first : Bool) (lines more : List (List ℕ)) → unmarked_lines first (lines ++ more) ≡ unmarked_lines first lines ++ unmarked_lines (first && are_none lines) more
unmarked-append true [] more = refl
unmarked-append false [] more = refl
unmarked-append true (line ∷ lines) more = ap (λ m. without_mark line ∷ (lines ++ m)) (sym (unmarked-later more))
unmarked-append false (line ∷ lines) more = ap (λ m. line ∷ (lines ++ m)) (sym (unmarked-later more))

-- The ended lines of a text and more are those of the text, then those that the second text ends.
pub ended_lines-append : (bytes more : List ℕ) → ended_lines (bytes ++ more) ≡ ended_lines bytes ++ unmarked_lines (are_none (ended_lines bytes)) (ended_after (begun_after [] bytes) more)
ended_lines-append bytes more =
    let raw = ended_after [] bytes in
    let later_lines = ended_after (begun_after [] bytes) more in
    let lines : ended_lines bytes ≡ unmarked_lines true raw = ended_lines-is bytes in
    let none : are_none (ended_lines bytes) ≡ are_none raw = ap are_none lines ∙ none-unmarked true raw in
    ended_lines-is (bytes ++ more) ∙ ap (unmarked_lines true) (ended-append [] bytes more) ∙ unmarked-append true raw later_lines
    ∙ ap₂ (λ prefix none. prefix ++ unmarked_lines none later_lines) (sym lines) (sym none)

none_of : (lines more : List (List ℕ)) → (are_none lines && are_none more) ≡ are_none (lines ++ more)
none_of [] more = refl
none_of (line ∷ lines) more = refl

pub first-append : (bytes more : List ℕ) → (are_none (ended_lines bytes) && are_none (ended_after (begun_after [] bytes) more)) ≡ are_none (ended_lines (bytes ++ more))
first-append bytes more =
    let later_lines = ended_after (begun_after [] bytes) more in
    ap (λ none. are_none (ended_lines bytes) && none) (sym (none-unmarked (are_none (ended_lines bytes)) later_lines))
    ∙ none_of (ended_lines bytes) (unmarked_lines (are_none (ended_lines bytes)) later_lines)
    ∙ ap are_none (sym (ended_lines-append bytes more))

-- The start of a file: with a byte order mark, with a part of one, or without.
use Rattle.std.proofs.Common.{◌≡◌, ℕ, zero, suc, ◌+◌, ◌<◌, nat_lt, Bool, true, false, not, ◌&&◌, ◌==◌, cond, if◌then◌else◌, List, [], ◌∷◌, length, take, refl, ap, sym, ◌∙◌, arith, is_some}
use Rattle.std.proofs.lemmas.Bool.{lt-ltb}
use Rattle.mlr_spec.specs.declared.infer.InferOpts.{InferOpts}
use Rattle.mlr_json.specs.Reading.{lexemes_left}
use Rattle.mlr_lines.specs.Lines.{without_mark}
use Rattle.mlr_event.specs.declared.event.Ctx.{Ctx}
use Rattle.mlr_event.specs.declared.names.FileRef.{FileRef}
use Rattle.mlr_event.specs.Reading as reading
use Rattle.mlr_event.specs.Reading.{Item}
use Rattle.read_json_lines.specs.declared.listing.Trouble.TheVariants.{Syntax}
use Rattle.read_json_lines.specs.declared.stream.Stream.{Stream}
use Rattle.read_json_lines.specs.Records.{start_state, fault_of}
use Rattle.read_json_lines.specs.Json.{known, items_in, tokens_known, is_mark_begun, mark_part, file_items}
use Rattle.read_json_lines.specs.Turns.{state_of}
use Rattle.read_json_lines.specs.Streams.{outside, future, Starts}
use Rattle.read_json_lines.proofs.Taking.{all-following}
use Rattle.read_json_lines.proofs.Turning.{future-outside}

-- a stream at its start gives the items of the bytes from there on
pub starts-future : (s : Stream) (infer : InferOpts) (file : FileRef) (start : Ctx) (place : ℕ) → Starts s infer file start place → (whole : Bool) (text : List ℕ)
    → future s whole text ≡ items_in file start_state (outside whole infer (place + length text) text)
starts-future s infer file start place starts whole text =
    let end = s.place + length text in
    future-outside s whole text (ap is_some starts.text_is) starts.begun_is
    ∙ all-following s (outside whole s.infer end text) starts.goes_on
    ∙ ap (λ i. items_in s.file (state_of s.record_state) (outside whole i end text)) starts.infer_is
    ∙ ap (λ f. items_in f (state_of s.record_state) (outside whole infer end text)) starts.file_is
    ∙ ap (λ x. items_in file x (outside whole infer end text)) starts.state_is
    ∙ ap (λ p. items_in file start_state (outside whole infer (p + length text) text)) starts.place_is

module _ (whole : Bool) (infer : InferOpts) (file : FileRef) where
  -- the items of bytes, by their byte order mark
  abbrev text_items : List ℕ → List Item
  text_items bytes = items_in file start_state (tokens_known infer (known whole (length bytes + 1) (lexemes_left false (length bytes + 1) (without_mark bytes))))

  abbrev by_part : List ℕ → ℕ → List Item
  by_part bytes n = if nat_lt 0 n then reading.fault (fault_of file Syntax (n + 1)) ∷ [] else text_items bytes

  -- bytes that don't end within a mark, and those that don't begin with a part of one
  not-ended : (bytes : List ℕ) → (not whole && is_mark_begun bytes) ≡ false → file_items whole infer file bytes ≡ by_part bytes (mark_part bytes)
  not-ended bytes none = ap (λ b. cond b [] (by_part bytes (mark_part bytes))) none

  pub unmarked : (bytes text : List ℕ) → (not whole && is_mark_begun bytes) ≡ false → mark_part bytes ≡ 0 → without_mark bytes ≡ text
      → file_items whole infer file bytes ≡ items_in file start_state (outside whole infer (length bytes + 1) text)
  unmarked bytes text none no_part is =
      not-ended bytes none ∙ ap (by_part bytes) no_part
      ∙ ap (λ t. items_in file start_state (outside whole infer (length bytes + 1) t)) is

  not-begun : (bytes : List ℕ) → is_mark_begun bytes ≡ false → (not whole && is_mark_begun bytes) ≡ false
  not-begun bytes none = by whole
    where
      by : (w : Bool) → (not w && is_mark_begun bytes) ≡ false
      by true = refl
      by false = none

  -- the first bytes of a mark, followed by another byte
  mark-fault : (bytes : List ℕ) (n : ℕ) → 0 < n → (not whole && is_mark_begun bytes) ≡ false → mark_part bytes ≡ n → file_items whole infer file bytes ≡ reading.fault (fault_of file Syntax (n + 1)) ∷ []
  mark-fault bytes n some none part =
      not-ended bytes none ∙ ap (by_part bytes) part
      ∙ ap (λ b. cond b (reading.fault (fault_of file Syntax (n + 1)) ∷ []) (text_items bytes)) (lt-ltb 0 n some)

  -- no mark
  pub first-other : (b : ℕ) (text : List ℕ) → (b == 239) ≡ false → file_items whole infer file (b ∷ text) ≡ items_in file start_state (outside whole infer (length (b ∷ text) + 1) (b ∷ text))
  first-other b text other = unmarked (b ∷ text) (b ∷ text) (not-begun (b ∷ text) (rw other refl)) (rw other refl) (rw other refl)

  pub second-other : (b : ℕ) (text : List ℕ) → (b == 187) ≡ false → file_items whole infer file (239 ∷ b ∷ text) ≡ reading.fault (fault_of file Syntax 2) ∷ []
  second-other b text other = mark-fault (239 ∷ b ∷ text) 1 (omega arith) (not-begun (239 ∷ b ∷ text) (rw other refl)) (rw other refl)

  pub third-other : (b : ℕ) (text : List ℕ) → (b == 191) ≡ false → file_items whole infer file (239 ∷ 187 ∷ b ∷ text) ≡ reading.fault (fault_of file Syntax 3) ∷ []
  third-other b text other = mark-fault (239 ∷ 187 ∷ b ∷ text) 2 (omega arith) (not-begun (239 ∷ 187 ∷ b ∷ text) refl) (rw other refl)

  -- a complete mark
  pub marked : (text : List ℕ) → file_items whole infer file (239 ∷ 187 ∷ 191 ∷ text) ≡ items_in file start_state (outside whole infer (4 + length text) text)
  marked text =
      let end : length (239 ∷ 187 ∷ 191 ∷ text) + 1 ≡ 4 + length text = omega arith in
      unmarked (239 ∷ 187 ∷ 191 ∷ text) text (not-begun (239 ∷ 187 ∷ 191 ∷ text) refl) refl refl
      ∙ ap (λ e. items_in file start_state (outside whole infer e text)) end

-- a file that ends within a mark, and an empty file
pub part-fault : (infer : InferOpts) (file : FileRef) (n : ℕ) → n < 3 → 0 < n → file_items true infer file (take n (239 ∷ 187 ∷ 191 ∷ [])) ≡ reading.fault (fault_of file Syntax (n + 1)) ∷ []
part-fault infer file zero small some = absurd (omega (arith, some))
part-fault infer file (suc zero) small some = mark-fault true infer file (239 ∷ []) 1 some refl refl
part-fault infer file (suc (suc zero)) small some = mark-fault true infer file (239 ∷ 187 ∷ []) 2 some refl refl
part-fault infer file (suc (suc (suc n))) small some = absurd (omega (arith, small))

pub empty-whole : (s : Stream) (infer : InferOpts) (file : FileRef) (start : Ctx) → Starts s infer file start 1 → file_items true infer file [] ≡ future s true []
empty-whole s infer file start starts = unmarked true infer file [] [] refl refl refl ∙ sym (starts-future s infer file start 1 starts true [])

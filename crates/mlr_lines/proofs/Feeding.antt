-- What a piece of a file adds to the lines, state and events of the bytes before it.
use Rattle.std.proofs.Common.{◌≡◌, ℕ, ◌+◌, ◌≤◌, eqb, ◌&&◌, List, [], ◌∷◌, ◌++◌, length, take, refl, ap, ap₂, sym, ◌∙◌, append_assoc, arith, inl, inr, length-drop}
use Rattle.std.specs.Str.{bytes_eq}
use Rattle.std.proofs.lemmas.Bool.{cases_Bool}
use Rattle.std.proofs.lemmas.List.Sums.{fold-append}
use Rattle.mlr_event.specs.declared.event.Event.{Event}
use Rattle.mlr_lines.specs.declared.lines.Lines.{Lines}
use Rattle.mlr_lines.specs.Lines.{without_mark, ended_lines, begun_line, ended_after, begun_after}
use Rattle.mlr_lines.specs.Steps.{are_none, unmarked_line, unmarked_lines}
use Rattle.mlr_event.specs.Adding.{Adds}
use Rattle.mlr_lines.specs.Represents.{Represents, Takes, format_after, given}
use Rattle.mlr_lines.proofs.Cutting.{ended_lines-append, begun-append, first-append, begun_line-is}

module _ {F : Type 0} (after : F → List ℕ → F) (gives : F → List ℕ → List Event) where
  pub given-append : (format : F) (lines more : List (List ℕ)) → given after gives format (lines ++ more) ≡ given after gives format lines ++ given after gives (format_after after format lines) more
  given-append format [] more = refl
  given-append format (line ∷ lines) more =
      ap (λ events. gives format line ++ events) (given-append (after format line) lines more)
      ∙ sym (append_assoc (gives format line) (given after gives (after format line) lines) (given after gives (format_after after (after format line) lines) more))

  module _ (old new : Lines F) (piece : List ℕ) (before_it after_it : List Event) (takes : Takes after gives old new piece before_it after_it) (format : F) (bytes : List ℕ) (represents : Represents after old format bytes) where
    -- the lines that the piece ends
    abbrev more_lines : List (List ℕ)
    more_lines = unmarked_lines (are_none (ended_lines bytes)) (ended_after (begun_after [] bytes) piece)

    more-is : unmarked_lines old.first (ended_after old.begun.items piece) ≡ more_lines
    more-is = ap₂ (λ first begun. unmarked_lines first (ended_after begun piece)) represents.first represents.begun

    pub Represents-more : Represents after new format (bytes ++ piece)
    Represents-more = record {
      state = takes.state ∙ ap₂ (format_after after) represents.state more-is ∙ sym (fold-append after format (ended_lines bytes) more_lines)
          ∙ ap (format_after after format) (sym (ended_lines-append bytes piece));
      begun = takes.begun ∙ ap (λ begun. begun_after begun piece) represents.begun ∙ sym (begun-append [] bytes piece);
      first = takes.first ∙ ap₂ (λ first begun. first && are_none (ended_after begun piece)) represents.first represents.begun ∙ first-append bytes piece;
    }

    pub Adds-more : Adds before_it after_it (given after gives format (ended_lines bytes)) (given after gives format (ended_lines (bytes ++ piece)))
    Adds-more = (
      given after gives (format_after after format (ended_lines bytes)) more_lines,
      ap (given after gives format) (ended_lines-append bytes piece) ∙ given-append format (ended_lines bytes) more_lines,
      takes.events ∙ ap₂ (λ f lines. before_it ++ given after gives f lines) represents.state more-is,
    )

-- the buffer, without the byte order mark, is the rest of the file
pub left-is : {F : Type 0} (after : F → List ℕ → F) (lines : Lines F) (format : F) (bytes : List ℕ) → Represents after lines format bytes → unmarked_line lines.first lines.begun.items ≡ begun_line bytes
left-is after lines format bytes represents = ap₂ unmarked_line represents.first represents.begun ∙ sym (begun_line-is bytes)

-- A text ends at most one line for each byte, and each line raises the bound by at most one.
length-ended : (begun text : List ℕ) → length (ended_after begun text) ≤ length text
length-ended begun [] = omega arith
length-ended begun (b ∷ text) =
    elim (cases_Bool (eqb b 10)) as (λ _. length (ended_after begun (b ∷ text)) ≤ length (b ∷ text)) [
      | inl feed ↦ rw feed (omega (arith, length-ended [] text))
      | inr other ↦ rw other (omega (arith, length-ended (begun ++ b ∷ []) text))
    ]

length-without_mark : (bytes : List ℕ) → length (without_mark bytes) ≤ length bytes
length-without_mark bytes =
    elim (cases_Bool (bytes_eq (take 3 bytes) (239 ∷ 187 ∷ 191 ∷ []))) as (λ _. length (without_mark bytes) ≤ length bytes) [
      | inl mark ↦ rw mark (omega (arith, length-drop 3 bytes))
      | inr none ↦ rw none (omega arith)
    ]

module _ {F : Type 0} (after : F → List ℕ → F) (count : F → ℕ) (counts : (format : F) (line : List ℕ) → count (after format line) ≤ count format + 1) where
  count-format_after : (format : F) (lines : List (List ℕ)) → count (format_after after format lines) ≤ count format + length lines
  count-format_after format [] = omega arith
  count-format_after format (line ∷ lines) = omega (arith, count-format_after (after format line) lines, counts format line)

  pub count-represents : (lines : Lines F) (format : F) (bytes : List ℕ) → Represents after lines format bytes → count lines.format ≤ count format + length bytes
  count-represents lines format bytes represents =
      omega (arith, ap count represents.state, count-format_after format (ended_lines bytes), length-ended [] (without_mark bytes), length-without_mark bytes)

use Rattle.std.proofs.Common.{◌≡◌, ℕ, List, [], ◌∷◌, ◌++◌, map, refl, ap, ap₂, sym, ◌∙◌}
use Rattle.mlr_event.specs.declared.event.Ctx.{Ctx}
use Rattle.mlr_event.specs.declared.event.Event.TheVariants as event
use Rattle.mlr_event.specs.Reading.{comment, ctx_after, events_of}
use Rattle.mlr_lines.specs.Lines.{begun_line, ended_lines}
use Rattle.mlr_lines.specs.Represents.{format_after, given}
use Rattle.mlr_lines.specs.declared.lines_tests.Echo.{Echo}
use Rattle.mlr_lines.proofs.lines_tests.EchoLineFormat.laws.Goals as goal

gives-all : (echo : Echo) (start : Ctx) (lines : List (List ℕ)) → given (λ e line. e) (λ e line. event.Text line ∷ []) echo lines ≡ events_of start (map comment lines)
gives-all echo start [] = refl
gives-all echo start (line ∷ lines) = ap (λ events. event.Text line ∷ events) (gives-all echo start lines)

gives-last : (start : Ctx) (lines : List (List ℕ)) (last : List ℕ) → events_of start (map comment lines) ++ event.Text last ∷ [] ≡ events_of start (map comment (lines ++ last ∷ []))
gives-last start [] last = refl
gives-last start (line ∷ lines) last = ap (λ events. event.Text line ∷ events) (gives-last start lines last)

stays : (echo : Echo) (lines : List (List ℕ)) → format_after (λ e line. e) echo lines ≡ echo
stays echo [] = refl
stays echo (line ∷ lines) = stays echo lines

stays-at : (start : Ctx) (lines : List (List ℕ)) → ctx_after start (map comment lines) ≡ start
stays-at start [] = refl
stays-at start (line ∷ lines) = stays-at start lines

pub returns-clause-fed : goal.returns-clause-fed
returns-clause-fed c = λ echo opts file start begins bytes. gives-all echo start (ended_lines bytes)

pub returns-clause-whole : goal.returns-clause-whole
returns-clause-whole c = λ echo opts file start begins bytes. gives-last start (ended_lines bytes) (begun_line bytes)

pub returns-clause-fed_at : goal.returns-clause-fed_at
returns-clause-fed_at c = λ echo opts file start begins bytes.
    ap (λ e. e.at) (stays echo (ended_lines bytes)) ∙ begins ∙ sym (stays-at start (ended_lines bytes))

pub returns-clause-whole_at : goal.returns-clause-whole_at
returns-clause-whole_at c = λ echo opts file start begins bytes.
    ap (λ e. e.at) (stays echo (ended_lines bytes)) ∙ begins ∙ sym (stays-at start (ended_lines bytes ++ begun_line bytes ∷ []))

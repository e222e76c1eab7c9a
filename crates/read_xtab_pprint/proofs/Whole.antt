-- Reading line by line gives the events of the file.
use Rattle.std.proofs.Common.{◌≡◌, ℕ, List, [], ◌∷◌, ◌++◌, map, refl, ap, ap₂, sym, ◌∙◌, append_assoc}
use Rattle.std.proofs.lemmas.List.Sums.{fold-append}
use Rattle.mlr_lines.specs.Lines.{ended_lines, begun_line, fixed_lines, whole_lines, last_line, without_return}
use Rattle.mlr_lines.specs.Represents.{format_after, given}
use Rattle.mlr_lines.proofs.Feeding.{given-append}
use Rattle.mlr_event.specs.declared.event.Ctx.{Ctx}
use Rattle.mlr_event.specs.declared.names.FileRef.{FileRef}
use Rattle.mlr_event.specs.declared.options.ReadOpts.{ReadOpts}
use Rattle.mlr_event.specs.Reading.{ctx_after, events_of}
use Rattle.read_xtab_pprint.specs.declared.rules.BlockRules.{BlockRules}
use Rattle.read_xtab_pprint.specs.declared.rules.BlockRules.TheVariants as by
use Rattle.read_xtab_pprint.specs.declared.rules.PprintRules.{PprintRules}
use Rattle.read_xtab_pprint.specs.declared.rules.XtabRules.{XtabRules}
use Rattle.read_xtab_pprint.specs.Blocks.{block_fed, block_read, ctx_fed, ctx_read, items_fixed, items_whole}
use Rattle.read_xtab_pprint.specs.PprintRules.{pprint_after, pprint_events}
use Rattle.read_xtab_pprint.specs.Rules.{Begins, after_last, after_line, at_of, gives_last, gives_line}
use Rattle.read_xtab_pprint.specs.XtabRules.{after_gap, gap_events, xtab_after, xtab_events}
use Rattle.read_xtab_pprint.proofs.Pprinting.{pprint-after-last, pprint-give, pprint-gives-last, pprint-represent}
use Rattle.read_xtab_pprint.proofs.Xtabbing.{xtab-after-last, xtab-give, xtab-gives-last, xtab-last, xtab-last-at, xtab-represent}

-- lines with their CR
given-pprint : (lines : List (List ℕ)) (rules : PprintRules) → given after_line gives_line (by.Pprint rules) lines ≡ given pprint_after pprint_events rules (map without_return lines)
given-pprint [] rules = refl
given-pprint (line ∷ lines) rules = ap (λ events. pprint_events rules (without_return line) ++ events) (given-pprint lines (pprint_after rules (without_return line)))

format_after-pprint : (lines : List (List ℕ)) (rules : PprintRules) → format_after after_line (by.Pprint rules) lines ≡ by.Pprint (format_after pprint_after rules (map without_return lines))
format_after-pprint [] rules = refl
format_after-pprint (line ∷ lines) rules = format_after-pprint lines (pprint_after rules (without_return line))

given-xtab : (lines : List (List ℕ)) (rules : XtabRules) → given after_line gives_line (by.Xtab rules) lines ≡ given xtab_after xtab_events rules (map without_return lines)
given-xtab [] rules = refl
given-xtab (line ∷ lines) rules = ap (λ events. xtab_events rules (without_return line) ++ events) (given-xtab lines (xtab_after rules (without_return line)))

format_after-xtab : (lines : List (List ℕ)) (rules : XtabRules) → format_after after_line (by.Xtab rules) lines ≡ by.Xtab (format_after xtab_after rules (map without_return lines))
format_after-xtab [] rules = refl
format_after-xtab (line ∷ lines) rules = format_after-xtab lines (xtab_after rules (without_return line))

pub fed-is : (opts : ReadOpts) (file : FileRef) (start : Ctx) (rules : BlockRules) → Begins rules opts file start → (bytes : List ℕ)
    → given after_line gives_line rules (ended_lines bytes) ≡ block_fed opts file start bytes
fed-is opts file start (by.Pprint rules) begins bytes =
    let fixed = fixed_lines bytes in
    given-pprint (ended_lines bytes) rules ∙ pprint-give opts file start rules begins fixed ∙ ap (λ f. events_of start (items_fixed opts file f fixed)) (sym begins.format_is)
fed-is opts file start (by.Xtab rules) begins bytes =
    let fixed = fixed_lines bytes in
    given-xtab (ended_lines bytes) rules ∙ xtab-give opts start rules begins fixed ∙ ap (λ f. events_of start (items_fixed opts file f fixed)) (sym begins.format_is)

pub ctx_fed-is : (opts : ReadOpts) (file : FileRef) (start : Ctx) (rules : BlockRules) → Begins rules opts file start → (bytes : List ℕ)
    → at_of (format_after after_line rules (ended_lines bytes)) ≡ ctx_fed opts file start bytes
ctx_fed-is opts file start (by.Pprint rules) begins bytes =
    let fixed = fixed_lines bytes in
    ap at_of (format_after-pprint (ended_lines bytes) rules) ∙ pprint-represent opts file start rules begins fixed ∙ ap (λ f. ctx_after start (items_fixed opts file f fixed)) (sym begins.format_is)
ctx_fed-is opts file start (by.Xtab rules) begins bytes =
    let fixed = fixed_lines bytes in
    ap at_of (format_after-xtab (ended_lines bytes) rules) ∙ xtab-represent opts start rules begins fixed ∙ ap (λ f. ctx_after start (items_fixed opts file f fixed)) (sym begins.format_is)

pub read-is : (opts : ReadOpts) (file : FileRef) (start : Ctx) (rules : BlockRules) → Begins rules opts file start → (bytes : List ℕ)
    → block_fed opts file start bytes ++ gives_last (format_after after_line rules (ended_lines bytes)) (begun_line bytes) ≡ block_read opts file start bytes
read-is opts file start (by.Pprint rules) begins bytes =
    let fixed = fixed_lines bytes in
    let begun = begun_line bytes in
    let last = last_line begun in
    ap₂ (λ events b. events ++ gives_last b begun) (sym (fed-is opts file start (by.Pprint rules) begins bytes) ∙ given-pprint (ended_lines bytes) rules) (format_after-pprint (ended_lines bytes) rules)
    ∙ ap (λ events. given pprint_after pprint_events rules fixed ++ events) (pprint-gives-last begun (format_after pprint_after rules fixed))
    ∙ sym (given-append pprint_after pprint_events rules fixed last) ∙ pprint-give opts file start rules begins (whole_lines bytes)
    ∙ ap (λ f. events_of start (items_whole opts file f (whole_lines bytes))) (sym begins.format_is)
read-is opts file start (by.Xtab rules) begins bytes =
    let fixed = fixed_lines bytes in
    let begun = begun_line bytes in
    let last = last_line begun in
    let whole = whole_lines bytes in
    let ended = format_after xtab_after rules fixed in
    ap₂ (λ events b. events ++ gives_last b begun) (sym (fed-is opts file start (by.Xtab rules) begins bytes) ∙ given-xtab (ended_lines bytes) rules) (format_after-xtab (ended_lines bytes) rules)
    ∙ ap (λ events. given xtab_after xtab_events rules fixed ++ events) (xtab-gives-last begun ended)
    ∙ sym (append_assoc (given xtab_after xtab_events rules fixed) (given xtab_after xtab_events ended last) (gap_events (format_after xtab_after ended last)))
    ∙ ap₂ (λ events b. events ++ gap_events b) (sym (given-append xtab_after xtab_events rules fixed last)) (sym (fold-append xtab_after rules fixed last))
    ∙ ap (λ events. events ++ gap_events (format_after xtab_after rules whole)) (xtab-give opts start rules begins whole) ∙ xtab-last opts start rules begins whole
    ∙ ap (λ f. events_of start (items_whole opts file f whole)) (sym begins.format_is)

pub ctx_read-is : (opts : ReadOpts) (file : FileRef) (start : Ctx) (rules : BlockRules) → Begins rules opts file start → (bytes : List ℕ)
    → at_of (after_last (format_after after_line rules (ended_lines bytes)) (begun_line bytes)) ≡ ctx_read opts file start bytes
ctx_read-is opts file start (by.Pprint rules) begins bytes =
    let fixed = fixed_lines bytes in
    let begun = begun_line bytes in
    ap (λ b. at_of (after_last b begun)) (format_after-pprint (ended_lines bytes) rules)
    ∙ ap (λ (r : PprintRules). r.at) (pprint-after-last begun (format_after pprint_after rules fixed) ∙ sym (fold-append pprint_after rules fixed (last_line begun)))
    ∙ pprint-represent opts file start rules begins (whole_lines bytes) ∙ ap (λ f. ctx_after start (items_whole opts file f (whole_lines bytes))) (sym begins.format_is)
ctx_read-is opts file start (by.Xtab rules) begins bytes =
    let fixed = fixed_lines bytes in
    let begun = begun_line bytes in
    ap (λ b. at_of (after_last b begun)) (format_after-xtab (ended_lines bytes) rules)
    ∙ ap (λ (r : XtabRules). r.at) (xtab-after-last begun (format_after xtab_after rules fixed) ∙ ap after_gap (sym (fold-append xtab_after rules fixed (last_line begun))))
    ∙ xtab-last-at opts start rules begins (whole_lines bytes) ∙ ap (λ f. ctx_after start (items_whole opts file f (whole_lines bytes))) (sym begins.format_is)

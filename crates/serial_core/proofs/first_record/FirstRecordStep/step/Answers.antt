use Rattle.std.proofs.Common.{◌≡◌, true, false, ◌&&◌, [], ◌∷◌, ◌++◌, ap, ap₂, refl, sym, ◌∙◌}
use Rattle.std.specs.Prelude.{if◌then◌else◌}
use Rattle.std.proofs.lemmas.List.{append-nil}
use Rattle.mlr_event.specs.Verb.{is_record, made}
use Rattle.mlr_event.proofs.Making.{made-next}
use Rattle.serial_core.specs.Models.{first_record, first-gives, first-quiet, has_record}
use Rattle.serial_core.proofs.first_record.FirstRecordStep.step.Goals as goal
use Rattle.serial_core.proofs.first_record.FirstRecordStep.step.Goals.{else-is_record-via-then-is_record+else-self, else-is_record-via-else-is_record}

pub returns-then-self-clause-adds : goal.returns-then-self-clause-adds
returns-then-self-clause-adds c given represents open_is =
    let following : (is_record c.args.event && has_record given) ≡ true = ap₂ (λ r m. r && m) (sym c.is_record-is_record.ensures ∙ c.if-is_record.true) (sym represents.1 ∙ c.if-self.true) in (
      [],
      made-next first_record first-quiet refl given c.args.event open_is
          ∙ ap (λ t. made first_record given ++ t) (first-gives given c.args.event ∙ ap (λ b. if b then [] else c.args.event ∷ []) following),
      sym (append-nil c.args.out.now),
    )

pub returns-clause-adds : goal.returns-clause-adds
returns-clause-adds c given represents open_is =
    let apart : (is_record c.args.event && has_record given) ≡ false =
    ap₂ (λ r m. r && m) (sym c.is_record-is_record.ensures) (sym represents.1)
    ∙ elim c.else-is_record.branch [
      | else-is_record-via-then-is_record+else-self w ↦ ap₂ (λ r m. r && m) w.if-is_record.true w.if-self.false
      | else-is_record-via-else-is_record w ↦ ap (λ r. r && c.args.self.now.met) w.if-is_record.false
    ] in (
      c.args.event ∷ [],
      made-next first_record first-quiet refl given c.args.event open_is
          ∙ ap (λ t. made first_record given ++ t) (first-gives given c.args.event ∙ ap (λ b. if b then [] else c.args.event ∷ []) apart),
      c.in_default.ensures,
    )

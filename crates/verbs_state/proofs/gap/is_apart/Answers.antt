use Rattle.std.proofs.Common.{◌≡◌, ◌++◌, not, ap, sym, ◌∙◌}
use Rattle.std.specs.Str.{bytes_eq}
use Rattle.mlr_groups.specs.Grouping.{texts_of}
use Rattle.mlr_groups.specs.Keys.{key_of}
use Rattle.verbs_state.specs.Gap.{is_apart}
use Rattle.verbs_state.proofs.Gaps.{apart-changed, last_key-push}
use Rattle.verbs_state.proofs.gap.is_apart.Goals as goal

pub returns-then-count-gt0-2-clause-apart : goal.returns-then-count-gt0-2-clause-apart
returns-then-count-gt0-2-clause-apart c before represents =
    let names = c.in-Groups.names in
    let fields = c.args.fields.now in
    let key : c.swap.new.x ≡ key_of (texts_of names fields) = c.swap.ensures.x_after ∙ c.in_ok-append_texts-in-Groups.ensures ∙ ap (λ prefix. prefix ++ key_of (texts_of names fields)) c.clear.ensures in
    c.ne.ensures
    ∙ ap (λ old. not (bytes_eq old c.swap.new.x)) c.swap.ensures.y_after
    ∙ apart-changed names fields c.swap.new.x key before c.args.count c.args.key.now (rw c.in-Groups.is at represents) c.if-count-gt0-2.true
    ∙ sym (ap (λ options. is_apart options before fields) c.in-Groups.is)

pub returns-then-count-gt0-2-clause-key : goal.returns-then-count-gt0-2-clause-key
returns-then-count-gt0-2-clause-key c before =
    let names = c.in-Groups.names in
    let fields = c.args.fields.now in
    let key : c.swap.new.x ≡ key_of (texts_of names fields) = c.swap.ensures.x_after ∙ c.in_ok-append_texts-in-Groups.ensures ∙ ap (λ prefix. prefix ++ key_of (texts_of names fields)) c.clear.ensures in
    rw c.in-Groups.is (last_key-push names fields c.swap.new.x key before)

pub returns-else-count-gt0-2-clause-key : goal.returns-else-count-gt0-2-clause-key
returns-else-count-gt0-2-clause-key c before =
    let names = c.in-Groups.names in
    let fields = c.args.fields.now in
    let key : c.swap.new.x ≡ key_of (texts_of names fields) = c.swap.ensures.x_after ∙ c.in_ok-append_texts-in-Groups.ensures ∙ ap (λ prefix. prefix ++ key_of (texts_of names fields)) c.clear.ensures in
    rw c.in-Groups.is (last_key-push names fields c.swap.new.x key before)

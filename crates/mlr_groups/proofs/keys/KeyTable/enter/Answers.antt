use Rattle.std.proofs.Common.{◌≡◌, true, false, Some, slice_get, sym, ap, subst, ◌∙◌, is_ok, if◌then◌else◌}
use Rattle.std.proofs.lemmas.Bool.{true≢false}
use Rattle.mlr_keys.proofs.Sets.{IsAt-position}
use Rattle.mlr_event.specs.Reading.{is_among}
use Rattle.mlr_groups.proofs.Tables.{among-texts, among-at, text-at, entered-known, entered-new}
use Rattle.mlr_groups.proofs.keys.KeyTable.enter.Goals as goal
use Rattle.mlr_groups.proofs.keys.KeyTable.enter.Goals.{In-None}

-- the key is new
absent : (c : In-None) → is_among c.args.self.now c.args.key.now ≡ false
absent c =
    subst (λ texts. is_among texts c.args.key.now ≡ false) c.self.view_is
    (among-texts c.args.key.now c.self.inside.keys.keys ∙ sym c.in-None.ensures.found)

pub push-requires : goal.push-requires
push-requires c = absent (goal.at.push-requires c).In-None

pub returns-in-Some-clause-entered : goal.returns-in-Some-clause-entered
returns-in-Some-clause-entered c =
    let key = c.args.key.now in
    let keys = c.self.inside.keys.keys in
    sym (entered-known c.args.self.now key (subst (λ texts. is_among texts key ≡ true) c.self.view_is (among-at key keys c.in-Some.place (IsAt-position key keys c.in-Some.place c.in-Some.ensures.index))))

pub returns-in-Some-clause-place : goal.returns-in-Some-clause-place
returns-in-Some-clause-place c =
    let key = c.args.key.now in
    let keys = c.self.inside.keys.keys in
    subst (λ texts. slice_get texts c.in-Some.place ≡ Some key) c.self.view_is (text-at key keys c.in-Some.place (IsAt-position key keys c.in-Some.place c.in-Some.ensures.index))

pub returns-in-None-clause-entered : goal.returns-in-None-clause-entered
returns-in-None-clause-entered c =
    c.push.ensures.pushed
    ∙ ap (λ keys. if is_ok c.push.result then keys else c.args.self.now) (sym (entered-new c.args.self.now c.args.key.now (absent (goal.at.returns-in-None-clause-entered c).In-None)))

pub returns-in-None-clause-known : goal.returns-in-None-clause-known
returns-in-None-clause-known c = λ is. absurd (true≢false (sym is ∙ absent (goal.at.returns-in-None-clause-known c).In-None))

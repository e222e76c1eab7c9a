use Rattle.std.proofs.Common.{◌≡◌, ◌++◌, ◌∷◌, [], false, ap, sym, subst, ◌∙◌}
use Rattle.mlr_keys.specs.Keys.{texts_in}
use Rattle.mlr_event.specs.Reading.{is_among}
use Rattle.mlr_fields.specs.Suffixes.{AreKnown}
use Rattle.mlr_fields.proofs.Suffixing.{known-pushed}
use Rattle.mlr_fields.proofs.Texts.{texts-pushed}
use Rattle.mlr_fields.proofs.name_index.NameIndex.push.Goals as goal
use Rattle.mlr_fields.proofs.name_index.NameIndex.push.Goals.{After-push_reserved}

abbrev texts : (c : After-push_reserved) → texts_in c.insert.new.self.keys ≡ texts_in c.self.inside.names.keys ++ c.args.name.now ∷ []
texts c =
    let keys = c.self.inside.names.keys in
    let items = c.in_ok-name.ensures.items in
    let new : is_among (texts_in keys) c.in_ok-name.name.items ≡ false =
    ap (is_among (texts_in keys)) items ∙ ap (λ names. is_among names c.args.name.now) c.self.view_is ∙ c.requires in
    ap texts_in c.in_ok-insert.ensures.keys ∙ texts-pushed keys c.in_ok-name.name new ∙ ap (λ text. texts_in keys ++ text ∷ []) items

pub invariant_of-self-2 : goal.invariant_of-self-2
invariant_of-self-2 c =
    let d = (goal.at.invariant_of-self-2 c).After-push_reserved in
    let names = texts_in c.self.inside.names.keys in
    let numbers = c.push_reserved.ensures.items ∙ ap (λ items. items ++ 2 ∷ []) c.in_ok-reserve.ensures.items in
    subst (λ all. AreKnown all all c.push_reserved.new.self.items) (sym (texts d)) (
    subst (AreKnown (names ++ c.args.name.now ∷ []) (names ++ c.args.name.now ∷ [])) (sym numbers) (known-pushed names c.self.inside.numbers.items c.args.name.now c.self.invariant)
    )

pub returns : goal.returns
returns c = texts (goal.at.returns c).After-push_reserved ∙ ap (λ names. names ++ c.args.name.now ∷ []) c.self.view_is

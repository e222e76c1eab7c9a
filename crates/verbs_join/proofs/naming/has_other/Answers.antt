use Rattle.std.proofs.Common.{◌≡◌, not, ◌&&◌, Option, Some, None, refl, ap, sym, ◌∙◌}
use Rattle.std.specs.Option.{is_some, option_map}
use Rattle.mlr_event.specs.Reading.{is_among}
use Rattle.mlr_spec.specs.Pairs.{value_at}
use Rattle.verbs_join.proofs.Among.{among-others}
use Rattle.verbs_join.proofs.naming.has_other.Goals as goal
use Rattle.verbs_join.proofs.naming.has_other.Goals.{After-is_some}

map-some : {A B : Type 0} (f : A → B) (found : Option A) → is_some (option_map f found) ≡ is_some found
map-some f None = refl
map-some f (Some x) = refl

-- whether the record has a field of the name
has : (c : After-is_some) → is_some (value_at c.args.name.now c.args.record.now) ≡ c.is_some.result
has c =
    ap (λ name. is_some (value_at name c.args.record.now)) (sym c.as_slice.ensures) ∙ ap is_some (sym c.get.ensures)
    ∙ map-some _ c.get.result ∙ sym c.is_some.ensures

pub returns-then-is_some : goal.returns-then-is_some
returns-then-is_some c =
    let names = c.args.join.now in
    sym
    (among-others names c.args.record.now c.args.name.now
    ∙ ap (λ t. t && not (is_among names c.args.name.now)) (has (goal.at.returns-then-is_some c).After-is_some ∙ c.if-is_some.true)
    ∙ ap not (sym c.is_named.ensures))

pub returns-else-is_some : goal.returns-else-is_some
returns-else-is_some c =
    let names = c.args.join.now in
    c.if-is_some.false
    ∙ sym
    (among-others names c.args.record.now c.args.name.now
    ∙ ap (λ t. t && not (is_among names c.args.name.now)) (has (goal.at.returns-else-is_some c).After-is_some ∙ c.if-is_some.false))

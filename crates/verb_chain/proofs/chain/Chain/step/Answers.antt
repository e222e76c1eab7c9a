use Rattle.std.proofs.Common.{◌≡◌, ◌++◌, ◌∷◌, [], true, ap, sym, ◌∙◌, subst, refl}
use Rattle.std.specs.Vec.{with_items}
use Rattle.std.proofs.lemmas.List.{with_items_is}
use Rattle.mlr_event.specs.Verb.{is_list}
use Rattle.mlr_event.proofs.Ordered.{open-list}
use Rattle.verb_chain.specs.Chain.{chain_from}
use Rattle.verb_chain.specs.Represents.{StagesRepresent, all_quiet, verbs_of}
use Rattle.verb_chain.proofs.chain.Chain.step.Goals as goal

pub pass-requires : goal.pass-requires
pass-requires g c =
    let given = c.requires.0 in (
      true,
      given,
      subst (StagesRepresent g.S.Step.verb g.S.Step.represents true given) (sym c.deref_mut.ensures.value) c.requires.1.stages,
      ap (λ t. is_list (given ++ t)) (c.in_ok-push.ensures ∙ ap (λ t. t ++ c.args.event ∷ []) c.requires.1.room) ∙ open-list given (c.args.event ∷ []) c.requires.2 refl,
    )

pub returns-clause-represents : goal.returns-clause-represents
returns-clause-represents g c given at open_is =
    let room : c.push.new.self ≡ c.args.event ∷ [] = c.in_ok-push.ensures ∙ ap (λ t. t ++ c.args.event ∷ []) at.room in
    let list : is_list (given ++ c.push.new.self) ≡ true = ap (λ t. is_list (given ++ t)) room ∙ open-list given (c.args.event ∷ []) open_is refl in
    let stood = subst (StagesRepresent g.S.Step.verb g.S.Step.represents true given) (sym c.deref_mut.ensures.value) at.stages in
    let items : (with_items c.args.self.now.stages c.pass.new.stages).items ≡ c.pass.new.stages = with_items_is c.args.self.now.stages c.pass.new.stages (c.pass.auto.stages ∙ c.deref_mut.ensures.len) in
    record {
      stages =
          subst (StagesRepresent g.S.Step.verb g.S.Step.represents true (given ++ c.args.event ∷ [])) (sym items)
          (subst (λ t. StagesRepresent g.S.Step.verb g.S.Step.represents true (given ++ t) c.pass.new.stages) room (c.in_ok-pass.ensures.represents true given stood list));
      quiet = at.quiet ∙ ap all_quiet (sym (ap (verbs_of g.S.Step.verb) items ∙ c.in_ok-pass.ensures.same ∙ ap (verbs_of g.S.Step.verb) c.deref_mut.ensures.value));
      room = c.in_ok-append.ensures.other;
    }

pub returns-clause-adds : goal.returns-clause-adds
returns-clause-adds g c given at open_is =
    let room : c.push.new.self ≡ c.args.event ∷ [] = c.in_ok-push.ensures ∙ ap (λ t. t ++ c.args.event ∷ []) at.room in
    let list : is_list (given ++ c.push.new.self) ≡ true = ap (λ t. is_list (given ++ t)) room ∙ open-list given (c.args.event ∷ []) open_is refl in
    let stood = subst (StagesRepresent g.S.Step.verb g.S.Step.represents true given) (sym c.deref_mut.ensures.value) at.stages in
    let made = c.in_ok-pass.ensures.made true given stood list in (
      c.pass.new.events,
      subst (λ xs. chain_from true (verbs_of g.S.Step.verb xs) (given ++ c.args.event ∷ []) ≡ chain_from true (verbs_of g.S.Step.verb xs) given ++ c.pass.new.events) c.deref_mut.ensures.value
          (subst (λ t. chain_from true (verbs_of g.S.Step.verb c.deref_mut.result.now) (given ++ t) ≡ chain_from true (verbs_of g.S.Step.verb c.deref_mut.result.now) given ++ c.pass.new.events) room made),
      c.in_ok-append.ensures.events,
    )

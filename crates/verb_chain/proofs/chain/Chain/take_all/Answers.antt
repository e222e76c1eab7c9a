use Rattle.std.proofs.Common.{◌≡◌, ◌++◌, true, ap, sym, ◌∙◌, subst}
use Rattle.std.specs.Vec.{with_items}
use Rattle.std.proofs.lemmas.List.{with_items_is}
use Rattle.verb_chain.specs.Chain.{chain_from}
use Rattle.verb_chain.specs.Represents.{StagesRepresent, all_quiet, verbs_of}
use Rattle.verb_chain.proofs.chain.Chain.take_all.Goals as goal

pub pass-requires : goal.pass-requires
pass-requires g c =
    let given = c.requires.0 in
    (true, given, subst (StagesRepresent g.S.Step.verb g.S.Step.represents true given) (sym c.deref_mut.ensures.value) c.requires.1.stages, c.requires.2)

pub returns-clause-represents : goal.returns-clause-represents
returns-clause-represents g c given at list =
    let stood = subst (StagesRepresent g.S.Step.verb g.S.Step.represents true given) (sym c.deref_mut.ensures.value) at.stages in
    let items : (with_items c.args.self.now.stages c.pass.new.stages).items ≡ c.pass.new.stages = with_items_is c.args.self.now.stages c.pass.new.stages (c.pass.auto.stages ∙ c.deref_mut.ensures.len) in
    record {
      stages = subst (StagesRepresent g.S.Step.verb g.S.Step.represents true (given ++ c.args.events.now)) (sym items) (c.in_ok-pass.ensures.represents true given stood list);
      quiet = at.quiet ∙ ap all_quiet (sym (ap (verbs_of g.S.Step.verb) items ∙ c.in_ok-pass.ensures.same ∙ ap (verbs_of g.S.Step.verb) c.deref_mut.ensures.value));
      room = at.room;
    }

pub returns-clause-made : goal.returns-clause-made
returns-clause-made g c given at list =
    let stood = subst (StagesRepresent g.S.Step.verb g.S.Step.represents true given) (sym c.deref_mut.ensures.value) at.stages in
    subst (λ xs. chain_from true (verbs_of g.S.Step.verb xs) (given ++ c.args.events.now) ≡ chain_from true (verbs_of g.S.Step.verb xs) given ++ c.pass.new.events) c.deref_mut.ensures.value (c.in_ok-pass.ensures.made true given stood list)

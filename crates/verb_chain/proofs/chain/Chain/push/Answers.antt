use Rattle.std.proofs.Common.{◌≡◌, ◌++◌, ◌∷◌, ◌&&◌, not, [], true, ap, ap₂, sym, ◌∙◌, subst, refl}
use Rattle.mlr_event.specs.Verb.{is_list}
use Rattle.verb_chain.specs.Chain.{chain_from}
use Rattle.verb_chain.specs.Represents.{GateRepresents, StagesRepresent, all_quiet, made_at, verbs_of}
use Rattle.verb_chain.proofs.Chains.{chain-list, quiet-all, quiet-last}
use Rattle.verb_chain.proofs.InOrder.{chain-append, quiet_after, represent-append, verbs-last}
use Rattle.verb_chain.proofs.chain.Chain.push.Goals as goal
use Rattle.verb_chain.proofs.chain.Chain.push.Goals.{then-self, else-self}

pub begun-requires-clause-list : goal.begun-requires-clause-list
begun-requires-clause-list g c = ap is_list c.requires.made ∙ chain-list g.S.Step.verb g.S.Step.represents g.met.S.Step.orderly true c.args.self.now.stages.items [] refl

pub returns-clause-represents : goal.returns-clause-represents
returns-clause-represents g c =
    let verbs = verbs_of g.S.Step.verb c.args.self.now.stages.items in
    let stage = c.in_ok-stage.stage in
    let quiet : c.args.self.now.quiet ≡ quiet_after true verbs = c.requires.chain.quiet ∙ sym (quiet-all true verbs) in
    record {
      stages =
          subst (StagesRepresent g.S.Step.verb g.S.Step.represents true []) (sym c.in_ok-push.ensures.items)
          (represent-append g.S.Step.verb g.S.Step.represents true [] c.args.self.now.stages.items stage c.requires.chain.stages (c.in_ok-stage.ensures.same.1 ∙ quiet)
          (subst (λ t. GateRepresents g.S.Step.verb g.S.Step.represents t stage.gate) c.requires.made c.in_ok-stage.ensures.represents)
          c.in_ok-stage.ensures.empty);
      quiet =
          (elim c.if-self.branch [
            | then-self w ↦
                w.self-is
                ∙ ap not c.has_effects-effects.ensures
                ∙ ap (λ v. not v.effects) (sym c.in_ok-stage.ensures.same.0)
                ∙ sym (ap (λ b. b && not (g.S.Step.verb stage.gate.verb).effects) (sym c.requires.chain.quiet ∙ w.if-self.true))
            | else-self w ↦ w.self-is ∙ w.if-self.false ∙ sym (ap (λ b. b && not (g.S.Step.verb stage.gate.verb).effects) (sym c.requires.chain.quiet ∙ w.if-self.false))
          ])
          ∙ sym (ap all_quiet (ap (verbs_of g.S.Step.verb) c.in_ok-push.ensures.items ∙ verbs-last g.S.Step.verb g.S.Step.represents c.args.self.now.stages.items stage) ∙ quiet-last verbs (g.S.Step.verb stage.gate.verb));
      room = c.requires.chain.room;
    }

pub returns-clause-made : goal.returns-clause-made
returns-clause-made g c =
    let verbs = verbs_of g.S.Step.verb c.args.self.now.stages.items in
    let quiet : c.args.self.now.quiet ≡ quiet_after true verbs = c.requires.chain.quiet ∙ sym (quiet-all true verbs) in
    let v = g.S.Step.verb c.args.verb in
    c.in_ok-stage.ensures.made
    ∙ ap₂ (λ q t. made_at q v t) quiet c.requires.made
    ∙ sym (chain-append true verbs (v ∷ []) [])
    ∙ ap (λ vs. chain_from true vs []) (sym (ap (verbs_of g.S.Step.verb) c.in_ok-push.ensures.items ∙ verbs-last g.S.Step.verb g.S.Step.represents c.args.self.now.stages.items c.in_ok-stage.stage ∙ ap (λ x. verbs ++ x ∷ []) c.in_ok-stage.ensures.same.0))

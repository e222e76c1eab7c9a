use Rattle.std.proofs.Common.{◌∷◌, [], ◌++◌, ap, sym, ◌∙◌, subst, append_assoc}
use Rattle.std.proofs.lemmas.List.{append-nil, nil_from_length}
use Rattle.verb_chain.specs.Represents.{verbs_in}
use Rattle.plan_verbs.specs.Verbs.{AreNew, meaning_in}
use Rattle.plan_verbs.proofs.New.{new-first, new-none}
use Rattle.plan_verbs.proofs.chain.begin_each.Goals as goal

pub begin_one-requires-clause-verb : goal.begin_one-requires-clause-verb
begin_one-requires-clause-verb c =
    let now = c.loop-verb.invariant.0 c.requires.waiting.0 c.requires.waiting.1 in
    let next = new-first now.0 c.in-Some.verb c.next.new.self.rest.items (subst (AreNew now.0) c.in-Some.ensures.steps.0 now.1) in
    (next.0, next.3)

pub loop-verb-preserved : goal.loop-verb-preserved
loop-verb-preserved c = (
  λ verbs are.
      let now = c.loop-verb.invariant.0 verbs are in
      let next = new-first now.0 c.in-Some.verb c.next.new.self.rest.items (subst (AreNew now.0) c.in-Some.ensures.steps.0 now.1) in
      let before = verbs_in meaning_in c.loop-verb.stages in (
        next.1,
        next.4,
        now.2 ∙ ap (λ rest. before ++ rest) next.2 ∙ sym (append_assoc before (next.0 ∷ []) next.1)
            ∙ ap (λ done. done ++ next.1) (sym (c.in_ok-begin_one.ensures.verbs next.0 next.3)),
      ),
  c.in_ok-begin_one.ensures.represents,
  c.in_ok-begin_one.ensures.made,
)

pub returns-clause-verbs : goal.returns-clause-verbs
returns-clause-verbs c verbs are =
    let now = c.loop-verb.invariant.0 verbs are in
    let before = verbs_in meaning_in c.loop-verb.stages in
    sym (now.2 ∙ ap (λ rest. before ++ rest) (new-none now.0 (subst (AreNew now.0) (nil_from_length c.loop-verb.verb-iterator.rest.items (sym c.loop-verb.verb-iterator.rest.ok.0 ∙ c.in-None.ensures.steps.0)) now.1)) ∙ append-nil before)

use Rattle.std.proofs.Common.{◌&&◌, List, [], ◌∷◌, ◌++◌, refl, ap, ap₂, sym, subst, ◌∙◌}
use Rattle.std.specs.List.{list_all}
use Rattle.std.proofs.lemmas.List.Folds.{list_all-append}
use Rattle.verbs_stream.specs.declared.spec.Spec.{Spec}
use Rattle.verbs_stream.specs.Meaning.{IsSound}
use Rattle.verb_specs.specs.declared.verb_spec.VerbSpec.{VerbSpec}
use Rattle.verb_specs.specs.declared.verb_spec.VerbSpec.TheVariants.{Stream, Retain, Shape, Stat, Seq}
use Rattle.verb_specs.specs.Verbs.{AreSound, AreVerbs}
use Rattle.plan_verbs.specs.Plans.{can_read_left}
use Rattle.chain_tests.proofs.plan_parts.push.Goals as goal

verbs-append : (specs : List VerbSpec) (spec : Spec) → AreVerbs specs → IsSound spec → AreVerbs (specs ++ Stream spec ∷ [])
verbs-append [] spec are sound = (sound, tt)
verbs-append (first ∷ specs) spec are sound = (are.0, verbs-append specs spec are.1 sound)

sound-append : (specs : List VerbSpec) (spec : Spec) → AreSound specs → IsSound spec → AreSound (specs ++ Stream spec ∷ [])
sound-append [] spec are sound = (sound, tt)
sound-append (Stream first ∷ specs) spec are sound = (are.0, verbs-append specs spec are.1 sound)
sound-append (Retain first ∷ specs) spec are sound = verbs-append specs spec are sound
sound-append (Shape first ∷ specs) spec are sound = verbs-append specs spec are sound
sound-append (Stat first ∷ specs) spec are sound = verbs-append specs spec are sound
sound-append (Seq first ∷ specs) spec are sound = (are.0, verbs-append specs spec are.1 sound)

pub returns : goal.returns
returns c = record {
  verbs = subst AreSound (sym c.in_ok-push.ensures) (sound-append c.args.verbs.now c.args.spec c.requires.verbs c.requires.options);
  lefts = λ before. ap (list_all can_read_left) c.in_ok-push.ensures ∙ list_all-append can_read_left c.args.verbs.now (Stream c.args.spec ∷ []) ∙ ap₂ (λ a b. a && b) before refl;
}

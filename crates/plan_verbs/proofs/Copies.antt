-- A copy of a plan that can be run can be run.
use Rattle.std.proofs.Common.{◌≡◌, true, ◌&&◌, List, [], ◌∷◌, Some, None, refl, ap, ap₂, sym, ◌∙◌, subst}
use Rattle.std.specs.List.{list_all}
use Rattle.read_files.specs.Represents.{can_read}
use Rattle.verbs_seq.specs.Seq.{IsSoundSeq}
use Rattle.plan_verbs.specs.declared.plan.Plan.{Plan}
use Rattle.verb_specs.specs.declared.verb_spec.VerbSpec.{VerbSpec}
use Rattle.verb_specs.specs.declared.verb_spec.VerbSpec.TheVariants.{Stream, Retain, Shape, Stat, Seq}
use Rattle.plan_verbs.specs.Plans.{IsCopy, IsSound, can_read_left}
use Rattle.verb_specs.specs.Verbs.{AreSame, AreSameVerbs, AreSound, AreVerbs, left_of}

verbs-copied : (specs copies : List VerbSpec) → AreSameVerbs specs copies → AreVerbs specs → AreVerbs copies
verbs-copied [] [] same are = tt
verbs-copied [] (copy ∷ copies) same are = absurd same
verbs-copied (spec ∷ specs) [] same are = absurd same
verbs-copied (Stream spec ∷ specs) (Stream copy ∷ copies) same are = (same.0.1 are.0, verbs-copied specs copies same.1 are.1)
verbs-copied (Stream spec ∷ specs) (Retain copy ∷ copies) same are = absurd same.0
verbs-copied (Stream spec ∷ specs) (Shape copy ∷ copies) same are = absurd same.0
verbs-copied (Stream spec ∷ specs) (Stat copy ∷ copies) same are = absurd same.0
verbs-copied (Stream spec ∷ specs) (Seq copy ∷ copies) same are = absurd same.0
verbs-copied (Retain spec ∷ specs) (Stream copy ∷ copies) same are = absurd same.0
verbs-copied (Retain spec ∷ specs) (Retain copy ∷ copies) same are = (tt, verbs-copied specs copies same.1 are.1)
verbs-copied (Retain spec ∷ specs) (Shape copy ∷ copies) same are = absurd same.0
verbs-copied (Retain spec ∷ specs) (Stat copy ∷ copies) same are = absurd same.0
verbs-copied (Retain spec ∷ specs) (Seq copy ∷ copies) same are = absurd same.0
verbs-copied (Shape spec ∷ specs) (Stream copy ∷ copies) same are = absurd same.0
verbs-copied (Shape spec ∷ specs) (Retain copy ∷ copies) same are = absurd same.0
verbs-copied (Shape spec ∷ specs) (Shape copy ∷ copies) same are = (tt, verbs-copied specs copies same.1 are.1)
verbs-copied (Shape spec ∷ specs) (Stat copy ∷ copies) same are = absurd same.0
verbs-copied (Shape spec ∷ specs) (Seq copy ∷ copies) same are = absurd same.0
verbs-copied (Stat spec ∷ specs) (Stream copy ∷ copies) same are = absurd same.0
verbs-copied (Stat spec ∷ specs) (Retain copy ∷ copies) same are = absurd same.0
verbs-copied (Stat spec ∷ specs) (Shape copy ∷ copies) same are = absurd same.0
verbs-copied (Stat spec ∷ specs) (Stat copy ∷ copies) same are = (tt, verbs-copied specs copies same.1 are.1)
verbs-copied (Stat spec ∷ specs) (Seq copy ∷ copies) same are = absurd same.0
verbs-copied (Seq spec ∷ specs) (copy ∷ copies) same are = absurd are.0

sound-copied : (specs copies : List VerbSpec) → AreSameVerbs specs copies → AreSound specs → AreSound copies
sound-copied [] [] same are = tt
sound-copied [] (copy ∷ copies) same are = absurd same
sound-copied (spec ∷ specs) [] same are = absurd same
sound-copied (Stream spec ∷ specs) (Stream copy ∷ copies) same are = (same.0.1 are.0, verbs-copied specs copies same.1 are.1)
sound-copied (Stream spec ∷ specs) (Retain copy ∷ copies) same are = absurd same.0
sound-copied (Stream spec ∷ specs) (Shape copy ∷ copies) same are = absurd same.0
sound-copied (Stream spec ∷ specs) (Stat copy ∷ copies) same are = absurd same.0
sound-copied (Stream spec ∷ specs) (Seq copy ∷ copies) same are = absurd same.0
sound-copied (Retain spec ∷ specs) (Stream copy ∷ copies) same are = absurd same.0
sound-copied (Retain spec ∷ specs) (Retain copy ∷ copies) same are = verbs-copied specs copies same.1 are
sound-copied (Retain spec ∷ specs) (Shape copy ∷ copies) same are = absurd same.0
sound-copied (Retain spec ∷ specs) (Stat copy ∷ copies) same are = absurd same.0
sound-copied (Retain spec ∷ specs) (Seq copy ∷ copies) same are = absurd same.0
sound-copied (Shape spec ∷ specs) (Stream copy ∷ copies) same are = absurd same.0
sound-copied (Shape spec ∷ specs) (Retain copy ∷ copies) same are = absurd same.0
sound-copied (Shape spec ∷ specs) (Shape copy ∷ copies) same are = verbs-copied specs copies same.1 are
sound-copied (Shape spec ∷ specs) (Stat copy ∷ copies) same are = absurd same.0
sound-copied (Shape spec ∷ specs) (Seq copy ∷ copies) same are = absurd same.0
sound-copied (Stat spec ∷ specs) (Stream copy ∷ copies) same are = absurd same.0
sound-copied (Stat spec ∷ specs) (Retain copy ∷ copies) same are = absurd same.0
sound-copied (Stat spec ∷ specs) (Shape copy ∷ copies) same are = absurd same.0
sound-copied (Stat spec ∷ specs) (Stat copy ∷ copies) same are = verbs-copied specs copies same.1 are
sound-copied (Stat spec ∷ specs) (Seq copy ∷ copies) same are = absurd same.0
sound-copied (Seq spec ∷ specs) (Stream copy ∷ copies) same are = absurd same.0
sound-copied (Seq spec ∷ specs) (Retain copy ∷ copies) same are = absurd same.0
sound-copied (Seq spec ∷ specs) (Shape copy ∷ copies) same are = absurd same.0
sound-copied (Seq spec ∷ specs) (Stat copy ∷ copies) same are = absurd same.0
sound-copied (Seq spec ∷ specs) (Seq copy ∷ copies) same are = (subst IsSoundSeq (sym same.0) are.0, verbs-copied specs copies same.1 are.1)

-- a copy has the left file of its source
same-left : (spec copy : VerbSpec) → AreSame spec copy → left_of copy ≡ left_of spec
same-left (Stream spec) (Stream copy) same = refl
same-left (Stream spec) (Retain copy) same = absurd same
same-left (Stream spec) (Shape copy) same = absurd same
same-left (Stream spec) (Stat copy) same = absurd same
same-left (Stream spec) (Seq copy) same = absurd same
same-left (Retain spec) (Stream copy) same = absurd same
same-left (Retain spec) (Retain copy) same = refl
same-left (Retain spec) (Shape copy) same = absurd same
same-left (Retain spec) (Stat copy) same = absurd same
same-left (Retain spec) (Seq copy) same = absurd same
same-left (Shape spec) (Stream copy) same = absurd same
same-left (Shape spec) (Retain copy) same = absurd same
same-left (Shape spec) (Shape copy) same = same.1
same-left (Shape spec) (Stat copy) same = absurd same
same-left (Shape spec) (Seq copy) same = absurd same
same-left (Stat spec) (Stream copy) same = absurd same
same-left (Stat spec) (Retain copy) same = absurd same
same-left (Stat spec) (Shape copy) same = absurd same
same-left (Stat spec) (Stat copy) same = refl
same-left (Stat spec) (Seq copy) same = absurd same
same-left (Seq spec) (Stream copy) same = absurd same
same-left (Seq spec) (Retain copy) same = absurd same
same-left (Seq spec) (Shape copy) same = absurd same
same-left (Seq spec) (Stat copy) same = absurd same
same-left (Seq spec) (Seq copy) same = refl

lefts-copied : (specs copies : List VerbSpec) → AreSameVerbs specs copies → list_all can_read_left copies ≡ list_all can_read_left specs
lefts-copied [] [] same = refl
lefts-copied [] (copy ∷ copies) same = absurd same
lefts-copied (spec ∷ specs) [] same = absurd same
lefts-copied (spec ∷ specs) (copy ∷ copies) same =
    ap₂ (λ a b. a && b) (ap (λ file. elim file [ Some file ↦ can_read file.1 | None ↦ true ]) (same-left spec copy same.0)) (lefts-copied specs copies same.1)

pub copy-is-sound : (plan copy : Plan) → IsCopy plan copy → IsSound plan → IsSound copy
copy-is-sound plan copy is sound = record {
  readable = ap can_read is.read ∙ sound.readable;
  verbs = sound-copied plan.verbs copy.verbs is.verbs sound.verbs;
  lefts = lefts-copied plan.verbs copy.verbs is.verbs ∙ sound.lefts;
  styled = λ none. sound.styled (sym is.styles ∙ none);
}

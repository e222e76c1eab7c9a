-- Verbs that haven't begun, one by one.
use Rattle.std.proofs.Common.{◌≡◌, ℕ, suc, ◌+◌, ◌<◌, List, [], ◌∷◌, ◌++◌, length, get_or, drop, refl, ap, sym, ◌∙◌, subst, append_assoc, arith}
use Rattle.std.proofs.Math.Seq.{drop-cons}
use Rattle.std.proofs.lemmas.List.{append-nil, drop_all}
use Rattle.mlr_event.specs.declared.event.Event.{Event}
use Rattle.mlr_event.specs.Verb as meaning
use Rattle.verbs_base.specs.Records.{verb_of}
use Rattle.verbs_join_nest.specs.Meaning as shape
use Rattle.verbs_retain.specs.Meaning as retain
use Rattle.verbs_stat.specs.Meaning as stat
use Rattle.verbs_seq.specs.declared.seq_spec.SeqSpec.{SeqSpec}
use Rattle.verbs_stream.specs.Meaning as stream
use Rattle.verb_specs.specs.declared.verb_spec.VerbSpec.{VerbSpec}
use Rattle.verb_specs.specs.declared.verb_spec.VerbSpec.TheVariants.{Stream, Retain, Shape, Stat, Seq}
use Rattle.verb_specs.specs.Verbs.{AreSound, AreVerbs, IsVerbOrSource, verb_with, verbs_with}
use Rattle.plan_verbs.specs.Verbs.{AreNew, IsNew, Verb}

abbrev pub AreVerbsOrSources : List VerbSpec → Type 0
AreVerbsOrSources [] = Unit {0}
AreVerbsOrSources (spec ∷ specs) = IsVerbOrSource spec × AreVerbsOrSources specs

verbs-too : (specs : List VerbSpec) → AreVerbs specs → AreVerbsOrSources specs
verbs-too [] are = tt
verbs-too (Stream spec ∷ specs) are = (are.0, verbs-too specs are.1)
verbs-too (Retain spec ∷ specs) are = (tt, verbs-too specs are.1)
verbs-too (Shape spec ∷ specs) are = (tt, verbs-too specs are.1)
verbs-too (Stat spec ∷ specs) are = (tt, verbs-too specs are.1)
verbs-too (Seq seq ∷ specs) are = absurd are.0

pub sound-too : (specs : List VerbSpec) → AreSound specs → AreVerbsOrSources specs
sound-too [] are = tt
sound-too (Stream spec ∷ specs) are = (are.0, verbs-too specs are.1)
sound-too (Retain spec ∷ specs) are = (tt, verbs-too specs are)
sound-too (Shape spec ∷ specs) are = (tt, verbs-too specs are)
sound-too (Stat spec ∷ specs) are = (tt, verbs-too specs are)
sound-too (Seq seq ∷ specs) are = (tt, verbs-too specs are.1)

-- a verb that is no source is one verb
pub one-verb : (spec : VerbSpec) (left : List Event) → ((seq : SeqSpec) → spec ≡ Seq seq → ⊥) → (verb : meaning.Verb) × (verb_with spec left ≡ verb ∷ [])
one-verb (Stream spec) left isnt = (verb_of (stream.meaning_of spec), refl)
one-verb (Retain spec) left isnt = (verb_of (retain.meaning_of spec), refl)
one-verb (Shape spec) left isnt = (verb_of (shape.meaning_of spec left), refl)
one-verb (Stat spec) left isnt = (verb_of (stat.meaning_of spec), refl)
one-verb (Seq seq) left isnt = absurd (isnt seq refl)

-- one more verb is new
pub new-following : (verbs : List meaning.Verb) (made : List Verb) (verb : meaning.Verb) (one : Verb) → AreNew verbs made → IsNew verb one → AreNew (verbs ++ verb ∷ []) (made ++ one ∷ [])
new-following [] [] verb one are is = (is, tt)
new-following [] (m ∷ made) verb one are is = absurd are
new-following (v ∷ verbs) [] verb one are is = absurd are
new-following (v ∷ verbs) (m ∷ made) verb one are is = (are.0, new-following verbs made verb one are.1 is)

-- the verbs of a list of new ones are those of the first and of the others
pub new-first : (verbs : List meaning.Verb) (one : Verb) (made : List Verb) → AreNew verbs (one ∷ made) → (verb : meaning.Verb) × (rest : List meaning.Verb) × (verbs ≡ verb ∷ rest) × IsNew verb one × AreNew rest made
new-first [] one made are = absurd are
new-first (verb ∷ verbs) one made are = (verb, verbs, refl, are.0, are.1)

pub new-none : (verbs : List meaning.Verb) → AreNew verbs [] → verbs ≡ []
new-none [] are = refl
new-none (verb ∷ verbs) are = absurd are

-- the verbs so far are new, and the others are to come
pub record Making (specs : List VerbSpec) (lefts : List (List Event)) (made : List Verb) (place : ℕ) (remaining : List (List Event)) : Type 0 where
  pub done : List meaning.Verb
  pub are_new : AreNew done made
  pub to_come : verbs_with specs lefts ≡ done ++ verbs_with (drop place specs) remaining
  pub sound : AreVerbsOrSources (drop place specs)
  pub count : place + length remaining ≡ length specs

pub making-first : (specs : List VerbSpec) (lefts : List (List Event)) → AreSound specs → length lefts ≡ length specs → Making specs lefts [] 0 lefts
making-first specs lefts sound count = record { done = []; are_new = tt; to_come = refl; sound = sound-too specs sound; count = omega (arith, count) }

module _ (specs : List VerbSpec) (lefts : List (List Event)) (made : List Verb) (place : ℕ) (spec : VerbSpec) (left : List Event) (remaining : List (List Event)) (now : Making specs lefts made place (left ∷ remaining))
    (at : spec ≡ get_or specs place spec) where
  pub within : place < length specs
  within = omega (arith, now.count)

  next : drop place specs ≡ spec ∷ drop (suc place) specs
  next = drop-cons specs place spec within ∙ ap (λ s. s ∷ drop (suc place) specs) (sym at)

  pub next-sound : IsVerbOrSource spec
  next-sound = (subst AreVerbsOrSources next now.sound).0

  pub making-next : (made' : List Verb) → AreNew (now.done ++ verb_with spec left) made' → Making specs lefts made' (place + 1) remaining
  making-next made' are_new = record {
    done = now.done ++ verb_with spec left;
    are_new = are_new;
    to_come =
        now.to_come
        ∙ ap (λ rest. now.done ++ verbs_with rest (left ∷ remaining)) next
        ∙ sym (append_assoc now.done (verb_with spec left) (verbs_with (drop (suc place) specs) remaining))
        ∙ ap (λ n. (now.done ++ verb_with spec left) ++ verbs_with (drop n specs) remaining) (let e : suc place ≡ place + 1 = omega arith in e);
    sound = subst (λ n. AreVerbsOrSources (drop n specs)) (let e : suc place ≡ place + 1 = omega arith in e) (subst AreVerbsOrSources next now.sound).1;
    count = omega (arith, now.count);
  }

pub making-last : (specs : List VerbSpec) (lefts : List (List Event)) (made : List Verb) (place : ℕ) → Making specs lefts made place [] → AreNew (verbs_with specs lefts) made
making-last specs lefts made place now =
    let none : drop place specs ≡ [] = drop_all place specs (omega (arith, now.count)) in
    subst (λ verbs. AreNew verbs made) (sym (now.to_come ∙ ap (λ rest. now.done ++ verbs_with rest []) none ∙ append-nil now.done)) now.are_new

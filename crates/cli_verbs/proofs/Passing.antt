-- Patterns that are read one after another.
use Rattle.std.proofs.Common.{◌≡◌, List, [], ◌∷◌, ◌++◌, inl, inr, subst, sym, ap, ◌∙◌, append_assoc, refl}
use Rattle.cli_grammar.specs.declared.given.Given.{Given}
use Rattle.mlr_event.specs.declared.refusal.Refusal.{Refusal}
use Rattle.cli_verbs.specs.declared.fault.Fault.{Fault}
use Rattle.cli_verbs.specs.declared.fault.Fault.TheVariants.{Refused, NoMemory}
use Rattle.cli_verbs.specs.Faults.{IfRefused}
use Rattle.cli_verbs.specs.HavingFields.{patterns_among, patterns_given, IsHavingBy, IsHavingIn}
use Rattle.cli_verbs.specs.PatternWords.{PatternWord, AreGoodPatterns, IsFirstRefused}
use Rattle.verbs_pattern.specs.declared.having_fields.HavingFields.{HavingFields}

pub good_append : (words more : List PatternWord) → AreGoodPatterns words → AreGoodPatterns more → AreGoodPatterns (words ++ more)
good_append [] more good h = h
good_append (word ∷ words) more good h = (good.0, good_append words more good.1 h)

pub refused_first : (words more : List PatternWord) (refusal : Refusal) → IsFirstRefused words refusal → IsFirstRefused (words ++ more) refusal
refused_first [] more refusal h = absurd h
refused_first (word ∷ words) more refusal (inl h) = inl h
refused_first (word ∷ words) more refusal (inr h) = inr (h.0, refused_first words more refusal h.1)

pub refused_after : (words more : List PatternWord) (refusal : Refusal) → AreGoodPatterns words → IsFirstRefused more refusal → IsFirstRefused (words ++ more) refusal
refused_after [] more refusal good h = h
refused_after (word ∷ words) more refusal good h = inr (good.0, refused_after words more refusal good.1 h)

-- Some of the words are patterns that regex reads, and these remain.
pub record Passing (all rest : List PatternWord) : Type 0 where
  pub good : AreGoodPatterns rest → AreGoodPatterns all
  pub refused : (refusal : Refusal) → IsFirstRefused rest refusal → IsFirstRefused all refusal

pub passing_begins : (all : List PatternWord) → Passing all all
passing_begins all = record { good = λ h. h; refused = λ refusal h. h }

pub passing_goes : (all words rest : List PatternWord) → Passing all (words ++ rest) → AreGoodPatterns words → Passing all rest
passing_goes all words rest p good = record {
  good = λ h. p.good (good_append words rest good h);
  refused = λ refusal h. p.refused refusal (refused_after words rest refusal good h);
}

pub passing_refused : (all words rest : List PatternWord) (fault : Fault) → Passing all (words ++ rest) → IfRefused (IsFirstRefused words) fault
    → IfRefused (IsFirstRefused all) fault
passing_refused all words rest (Refused refusal) p h = p.refused refusal (refused_first words rest refusal h)
passing_refused all words rest NoMemory p h = tt

-- the patterns of the last option follow those of the others
pub patterns_append : (before : List Given) (last : Given) → patterns_among (before ++ last ∷ []) ≡ patterns_among before ++ (patterns_given last ++ [])
patterns_append [] last = refl
patterns_append (given ∷ before) last =
    ap (λ words. patterns_given given ++ words) (patterns_append before last)
    ∙ sym (append_assoc (patterns_given given) (patterns_among before) (patterns_given last ++ []))

pub having_last : (before : List Given) (last : Given) (options : HavingFields) → IsHavingBy last options → IsHavingIn (before ++ last ∷ []) options
having_last [] last options h = h
having_last (given ∷ []) last options h = h
having_last (given ∷ other ∷ before) last options h = having_last (other ∷ before) last options h

-- the last option is good, too
pub last_good : (options before : List Given) (last : Given) → options ≡ before ++ last ∷ [] → AreGoodPatterns (patterns_among before) →
    AreGoodPatterns (patterns_given last) → AreGoodPatterns (patterns_among options)
last_good options before last is good h =
    subst AreGoodPatterns (sym (ap patterns_among is ∙ patterns_append before last))
    (good_append (patterns_among before) (patterns_given last ++ []) good (good_append (patterns_given last) [] h tt))

-- the last option is refused
pub last_refused : (options before : List Given) (last : Given) (fault : Fault) → options ≡ before ++ last ∷ [] → AreGoodPatterns (patterns_among before) →
    IfRefused (IsFirstRefused (patterns_given last)) fault → IfRefused (IsFirstRefused (patterns_among options)) fault
last_refused options before last (Refused refusal) is good h =
    subst (λ words. IsFirstRefused words refusal) (sym (ap patterns_among is ∙ patterns_append before last))
    (refused_after (patterns_among before) (patterns_given last ++ []) refusal good (refused_first (patterns_given last) [] refusal h))
last_refused options before last NoMemory is good h = tt

-- one of the others is refused
pub before_refused : (options before : List Given) (last : Given) (fault : Fault) → options ≡ before ++ last ∷ [] →
    IfRefused (IsFirstRefused (patterns_among before)) fault → IfRefused (IsFirstRefused (patterns_among options)) fault
before_refused options before last (Refused refusal) is h =
    subst (λ words. IsFirstRefused words refusal) (sym (ap patterns_among is ∙ patterns_append before last))
    (refused_first (patterns_among before) (patterns_given last ++ []) refusal h)
before_refused options before last NoMemory is h = tt

pub having_ends : (options before : List Given) (last : Given) (made : HavingFields) → options ≡ before ++ last ∷ [] → IsHavingBy last made → IsHavingIn options made
having_ends options before last made is h = subst (λ given. IsHavingIn given made) (sym is) (having_last before last made h)

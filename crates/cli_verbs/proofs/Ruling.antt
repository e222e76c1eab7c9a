-- Rules that are made one after another.
use Rattle.std.proofs.Common.{◌≡◌, ℕ, ◌≤◌, ◌-◌, get_or, take, drop, ◌<◌, false, List, [], ◌∷◌, ◌++◌, inl, inr, refl, subst, sym, append_assoc, append-nil, ◌∙◌, ap, length, arith}
use Rattle.std.proofs.lemmas.List.{map-append, take_rest}
use Rattle.std.specs.declared.sync.Arc.{Arc}
use Rattle.regex.specs.declared.bytes.regex.Regex.{Regex}
use Rattle.mlr_event.specs.declared.refusal.Refusal.{Refusal}
use Rattle.std.specs.Arc.{arc_value}
use Rattle.cli_verbs.specs.declared.fault.Fault.{Fault}
use Rattle.cli_verbs.specs.declared.fault.Fault.TheVariants.{Refused, NoMemory}
use Rattle.cli_verbs.specs.Compiled.{IsCompiled}
use Rattle.cli_verbs.specs.Faults.{IfRefused}
use Rattle.cli_verbs.specs.PatternWords.{PatternWord, pattern_in, AreGoodPatterns, IsFirstRefused, IsGoodPattern, IsRefusedPattern}
use Rattle.cli_verbs.specs.Rename.{compiled_rules, old_words, AreMoreRules, AreRulesOf, IsNextRule}

-- The rules of some of the names are made, and these names remain.
pub record Ruling (number : ℕ) (all left : List (List ℕ)) (before now : List (Regex × List ℕ)) : Type 0 where
  pub rules : (more : List (Regex × List ℕ)) → AreRulesOf number left more → AreMoreRules number all before (now ++ more)
  pub good : AreGoodPatterns (old_words number left) → AreGoodPatterns (old_words number all)
  pub refused : (refusal : Refusal) → IsFirstRefused (old_words number left) refusal → IsFirstRefused (old_words number all) refusal

pub ruling_begins : (number : ℕ) (all : List (List ℕ)) (before : List (Regex × List ℕ)) → Ruling number all all before before
ruling_begins number all before = record {
  rules = λ more h. record { more = more; rules = h; appended = refl };
  good = λ h. h;
  refused = λ refusal h. h;
}

pub ruling_goes : (number : ℕ) (all rest : List (List ℕ)) (old new : List ℕ) (before now next : List (Regex × List ℕ)) →
    Ruling number all (old ∷ new ∷ rest) before now → IsNextRule (pattern_in number false old) new now next → IsGoodPattern (pattern_in number false old) →
    Ruling number all rest before next
ruling_goes number all rest old new before now next r n good = record {
  rules = λ more h. subst (λ rules. AreMoreRules number all before rules)
      (sym (append_assoc now ((n.pattern, new) ∷ []) more) ∙ ap (λ rules. rules ++ more) (sym n.appended))
      (r.rules ((n.pattern, new) ∷ more) (n.compiled, refl, h));
  good = λ h. r.good (good, h);
  refused = λ refusal h. r.refused refusal (inr (good, h));
}

pub ruling_ends : (number : ℕ) (all left : List (List ℕ)) (before now : List (Regex × List ℕ)) → length left < 2 →
    Ruling number all left before now → AreMoreRules number all before now × AreGoodPatterns (old_words number all)
ruling_ends number all [] before now short r = (subst (λ rules. AreMoreRules number all before rules) (append-nil now) (r.rules [] refl), r.good tt)
ruling_ends number all (name ∷ []) before now short r = (subst (λ rules. AreMoreRules number all before rules) (append-nil now) (r.rules [] refl), r.good tt)
ruling_ends number all (name ∷ other ∷ names) before now short r = absurd (let no : ⊥ = omega (arith, short) in no)

pub rules_append : {Z : Type 0} → (rules more : List (Arc Regex Z × List ℕ)) → compiled_rules (rules ++ more) ≡ compiled_rules rules ++ compiled_rules more
rules_append rules more = map-append _ rules more

pub next_rule : {Z : Type 0} → (word : PatternWord) (new : List ℕ) (pattern : Arc Regex Z) (before after : List (Regex × List ℕ)) →
    IsCompiled word (arc_value pattern) → after ≡ before ++ (arc_value pattern, new) ∷ [] → IsNextRule word new before after
next_rule word new pattern before after compiled appended = record { pattern = arc_value pattern; compiled = compiled; appended = appended }

pub ruling_refused : (number : ℕ) (all rest : List (List ℕ)) (old new : List ℕ) (before now : List (Regex × List ℕ)) (fault : Fault) →
    Ruling number all (old ∷ new ∷ rest) before now → IfRefused (IsRefusedPattern (pattern_in number false old)) fault →
    IfRefused (IsFirstRefused (old_words number all)) fault
ruling_refused number all rest old new before now (Refused refusal) r h = r.refused refusal (inl h)
ruling_refused number all rest old new before now NoMemory r h = tt

-- a list of two names or more, by its first two
pub two_first : (left : List (List ℕ)) (one other : List ℕ) → 2 ≤ length left → one ≡ get_or left 0 one → other ≡ get_or left 1 other →
    left ≡ one ∷ other ∷ take (length left - 2) (drop 2 left)
two_first [] one other long first second = absurd (let no : ⊥ = omega (arith, long) in no)
two_first (x ∷ []) one other long first second = absurd (let no : ⊥ = omega (arith, long) in no)
two_first (x ∷ y ∷ rest) one other long first second = cc (first, second, take_rest (x ∷ y ∷ rest) 2)

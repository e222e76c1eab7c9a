-- Patterns that are compiled one after another.
use Rattle.std.proofs.Common.{List, [], ◌∷◌, ◌++◌, inl, inr, refl, subst, sym, append_assoc, append-nil, ◌∙◌, ap}
use Rattle.regex.specs.Patterns.{Re}
use Rattle.mlr_event.specs.declared.refusal.Refusal.{Refusal}
use Rattle.cli_verbs.specs.Compiled.{AreCompiled, AreMoreCompiled, IsNextCompiled}
use Rattle.cli_verbs.specs.PatternWords.{PatternWord, AreGoodPatterns, IsFirstRefused, IsGoodPattern, IsRefusedPattern}

-- Some of the words are compiled, and these remain.
pub record Compiling (all rest : List PatternWord) (before now : List Re) : Type 0 where
  pub compiled : (more : List Re) → AreCompiled rest more → AreMoreCompiled all before (now ++ more)
  pub good : AreGoodPatterns rest → AreGoodPatterns all
  pub refused : (refusal : Refusal) → IsFirstRefused rest refusal → IsFirstRefused all refusal

pub compiling-begins : (all : List PatternWord) (before : List Re) → Compiling all all before before
compiling-begins all before = record {
  compiled = λ more h. record { more = more; compiled = h; appended = refl };
  good = λ h. h;
  refused = λ refusal h. h;
}

pub compiling-goes : (all rest : List PatternWord) (word : PatternWord) (before now next : List Re) →
    Compiling all (word ∷ rest) before now → IsNextCompiled word now next → IsGoodPattern word → Compiling all rest before next
compiling-goes all rest word before now next c n good = record {
  compiled = λ more h. subst (λ res. AreMoreCompiled all before res)
      (sym (append_assoc now (n.next ∷ []) more) ∙ ap (λ res. res ++ more) (sym n.appended))
      (c.compiled (n.next ∷ more) (n.compiled, h));
  good = λ h. c.good (good, h);
  refused = λ refusal h. c.refused refusal (inr (good, h));
}

pub compiling-ends : (all : List PatternWord) (before now : List Re) → Compiling all [] before now → AreMoreCompiled all before now
compiling-ends all before now c = subst (λ res. AreMoreCompiled all before res) (append-nil now) (c.compiled [] tt)

pub compiling-good : (all : List PatternWord) (before now : List Re) → Compiling all [] before now → AreGoodPatterns all
compiling-good all before now c = c.good tt

pub compiling-refused : (all rest : List PatternWord) (word : PatternWord) (before now : List Re) (refusal : Refusal) →
    Compiling all (word ∷ rest) before now → IsRefusedPattern word refusal → IsFirstRefused all refusal
compiling-refused all rest word before now refusal c h = c.refused refusal (inl h)

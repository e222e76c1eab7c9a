-- What it means that `regex` refuses a text.
use Rattle.std.proofs.Common.{◌≡◌, ◌≢◌, ℕ, List, Option, None, Some, IfSome, IsSomeAnd, inl, inr, arith}
use Rattle.std.specs.Str.{chars}
use Rattle.regex.specs.Patterns.{Config, Reads, Refuses}
use Rattle.regex.specs.Failures.{IsPattern}
use Rattle.regex_syntax.specs.Grammar.{read}
use Rattle.regex_syntax.specs.declared.error.ErrorKind.{ErrorKind}
use Rattle.regex_syntax.specs.declared.error.ErrorKind.TheVariants.{OutOfMemory}

clash : {A : Type 0} (o : Option A) (P Q : A → Type 0) → ((x : A) → P x → Q x → ⊥) → IfSome o P → IsSomeAnd o Q → ⊥
clash None P Q f p q = q
clash (Some x) P Q f p q = f x p q

none : {A : Type 0} (o : Option A) (P : A → Type 0) → o ≡ None → IsSomeAnd o P → ⊥
none None P e q = q
none (Some x) P e q = absurd cc

-- a text that is refused for its syntax isn't a pattern
pub no_pattern : (config : Config) (source : List ℕ) (kind : ErrorKind) → Refuses config source kind → kind ≢ OutOfMemory → ¬ (IsPattern config source)
unfolding Reads Refuses
no_pattern config source kind refused memory (hir, names, reads) = elim refused [
  | inl is ↦ memory is
  | inr rest ↦ elim rest [
    | inl is ↦ none (read config (chars source)) _ is reads
    | inr deep ↦ clash (read config (chars source)) _ _ (λ x more less. omega (arith, more, less.0)) deep.1 reads
  ]
]

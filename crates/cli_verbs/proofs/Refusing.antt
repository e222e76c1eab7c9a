-- The first refused of several patterns.
use Rattle.std.proofs.Common.{[], ◌∷◌, inl}
use Rattle.cli_verbs.specs.declared.fault.Fault.{Fault}
use Rattle.cli_verbs.specs.declared.fault.Fault.TheVariants.{Refused, NoMemory}
use Rattle.cli_verbs.specs.Faults.{IfRefused}
use Rattle.cli_verbs.specs.PatternWords.{PatternWord, IsFirstRefused, IsRefusedPattern}

pub only_refused : (word : PatternWord) (fault : Fault) → IfRefused (IsRefusedPattern word) fault → IfRefused (IsFirstRefused (word ∷ [])) fault
only_refused word (Refused refusal) h = inl h
only_refused word NoMemory h = tt

-- Refusals of the words of a verb.
use Rattle.std.specs.Prelude.{ℕ}
use Rattle.mlr_pattern.specs.declared.read.PatternFault.{PatternFault}
use Rattle.mlr_pattern.specs.declared.read.PatternFault.TheVariants.{Bad, TooLarge}
use Rattle.mlr_pattern.specs.declared.read.PatternFault.TheVariants as pattern
use Rattle.mlr_event.specs.declared.refusal.Refusal.{Refusal}
use Rattle.mlr_event.specs.declared.refusal.Why.{Why}
use Rattle.mlr_event.specs.declared.refusal.Why.TheVariants.{BadPattern, PatternSize}
use Rattle.cli_verbs.specs.declared.fault.Fault.{Fault}
use Rattle.cli_verbs.specs.declared.fault.Fault.TheVariants.{Refused, NoMemory}

-- a refusal, if it is one, has this property
abbrev pub IfRefused : (Refusal → Type 0) → Fault → Type 0
IfRefused P (Refused refusal) = P refusal
IfRefused P NoMemory = Unit {0}

-- the word with this number is refused
abbrev pub refused : ℕ → Why → Fault
refused number why = Refused (record { word = number; why = why })

-- why the word with this number gives no pattern
abbrev pub fault_of : ℕ → PatternFault → Fault
fault_of number Bad = refused number BadPattern
fault_of number TooLarge = refused number PatternSize
fault_of number pattern.NoMemory = NoMemory

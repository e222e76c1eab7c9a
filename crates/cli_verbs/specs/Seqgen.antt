-- The options of `seqgen`.
use Rattle.std.specs.Prelude.{◌≡◌, ℕ, pos, codes}
use Rattle.cli_grammar.specs.declared.given.VerbWords.{VerbWords}
use Rattle.mlr_event.specs.declared.refusal.Refusal.{Refusal}
use Rattle.mlr_event.specs.declared.refusal.Why.TheVariants.{BadNumber}
use Rattle.verbs_seq.specs.Seq.{IsSoundSeq}
use Rattle.verbs_seq.specs.declared.seq_spec.SeqSpec.{SeqSpec}
use Rattle.cli_choices.specs.Choices.{int_or, number_or, word_or}

abbrev pub seqgen_of : VerbWords → SeqSpec
seqgen_of given = record {
  field = word_or (codes "i") (codes "-f") given.options;
  start = int_or (pos 1) (codes "--start") given.options;
  stop = int_or (pos 100) (codes "--stop") given.options;
  step = int_or (pos 1) (codes "--step") given.options;
}

-- the number of the last `--stop`, or else of the verb
abbrev pub stop_number : VerbWords → ℕ
stop_number given = number_or given.number (codes "--stop") given.options

-- no source counts with these numbers
abbrev pub IsRefusedSeq : VerbWords → Refusal → Type 0
IsRefusedSeq given refusal = (refusal.word ≡ stop_number given) × (refusal.why ≡ BadNumber) × ¬ (IsSoundSeq (seqgen_of given))

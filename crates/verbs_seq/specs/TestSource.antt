-- A source that may be asked for more records, as tests do.
use Rattle.std.specs.Prelude.{ℕ}
use Rattle.verbs_seq.specs.declared.source.SeqSource.{SeqSource}
use Rattle.verbs_seq.specs.declared.seq_spec.SeqSpec.{SeqSpec}
use Rattle.verbs_seq.specs.Seq.{IsSoundSeq}
use Rattle.verbs_seq.specs.Represents.{RepresentsAt}

pub record CanFill (source : SeqSource) : Type 0 where
  pub seq : SeqSpec
  pub given : ℕ
  pub sound : IsSoundSeq seq
  pub at : RepresentsAt seq given source

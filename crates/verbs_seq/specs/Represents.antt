-- What a source of `seqgen` represents.
use Rattle.std.specs.Prelude.{◌≡◌, ℕ, ◌≤◌}
use Rattle.verbs_seq.specs.declared.seq_spec.SeqSpec.{SeqSpec}
use Rattle.verbs_seq.specs.declared.source.SeqSource.{SeqSource}
use Rattle.verbs_seq.specs.Seq.{seq_count}

-- a source of these numbers that has given this many of them
pub record RepresentsAt (seq : SeqSpec) (given : ℕ) (source : SeqSource) : Type 0 where
  pub seq_is : source.seq ≡ seq
  pub count : source.count ≡ seq_count seq
  pub given_is : source.given ≡ given
  pub within : given ≤ seq_count seq

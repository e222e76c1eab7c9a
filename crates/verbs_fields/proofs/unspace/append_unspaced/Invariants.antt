use Rattle.std.proofs.Common.{◌≡◌, ◌++◌, drop}
use Rattle.verbs_fields.specs.Unspace.{unspaced_text}
use Rattle.verbs_fields.proofs.unspace.append_unspaced.Given as goal

-- the text so far with the rest unspaced is the whole text unspaced
abbrev pub invariant-loop-byte : goal.invariant-loop-byte
invariant-loop-byte l = l.into ++ unspaced_text l.other (drop l.byte-index l.text) ≡ l.fn.into ++ unspaced_text l.other l.text

use Rattle.std.proofs.Common.{if◌then◌else◌, ◌++◌, []}
use Rattle.writers.specs.Written.{end_text, given}
use Rattle.writers.proofs.Growing.{written-append}
use Rattle.writers.proofs.laws.growth_law.Goals as goal

pub returns : goal.returns
returns c = λ opts bodies following ended. (
  given opts bodies following ++ (if ended then end_text opts.format opts (bodies ++ following) else []),
  written-append opts bodies following ended,
)

use Rattle.std.proofs.Common.{refl}
use Rattle.mlr_event.specs.Models.{cat}
use Rattle.mlr_event.specs.Passing.{passes-all}
use Rattle.mlr_event.proofs.models.CatStep.passes_all.Goals as goal

pub returns : goal.returns
returns c is = record {
  same = passes-all cat (λ before fields ctx. refl) (λ before ctx. refl) refl;
  unclosed = λ events. refl;
  keeps = λ given following holds. holds;
}

-- What a reader made of a piece, or of the end of its file.
use Rattle.std.specs.Prelude.{◌≡◌, ℕ, ◌+◌, ◌≤◌, true, false, List}
use Rattle.std.specs.List.{list_any}
use Rattle.mlr_event.specs.Adding.{Adds}
use Rattle.mlr_event.specs.declared.event.Ctx.{Ctx}
use Rattle.mlr_event.specs.declared.event.Event.{Event}
use Rattle.mlr_event.specs.Verb.{is_fault}
use Rattle.read_files.specs.declared.feeding.Fed.{Fed}
use Rattle.read_files.specs.declared.feeding.Fed.TheVariants as fed
use Rattle.read_files.specs.declared.feeding.AtEnd.{AtEnd}
use Rattle.read_files.specs.declared.feeding.AtEnd.TheVariants as at_end
use Rattle.read_files.specs.Sources.{ctx_after_events}

abbrev pub FedSays : Fed → List Event → List Event → List Event → List Event → Type 0
FedSays fed.On out out' known now = (adds : Adds out out' known now) × (list_any is_fault adds.0 ≡ false)
FedSays fed.Faulty out out' known now = (adds : Adds out out' known now) × (list_any is_fault adds.0 ≡ true)
FedSays fed.NoMemory out out' known now = Unit {0}

abbrev pub FedOn : Fed → Type 0 → Type 0
FedOn fed.On holds = holds
FedOn fed.Faulty holds = Unit {0}
FedOn fed.NoMemory holds = Unit {0}

abbrev pub EndSays : AtEnd → Ctx → ℕ → List Event → List Event → List Event → List Event → Type 0
EndSays (at_end.On at) start count out out' known now = (adds : Adds out out' known now) × (list_any is_fault adds.0 ≡ false) × (at ≡ ctx_after_events start now) × (at.nr ≤ count + 1)
EndSays at_end.Faulty start count out out' known now = (adds : Adds out out' known now) × (list_any is_fault adds.0 ≡ true)
EndSays at_end.NoMemory start count out out' known now = Unit {0}

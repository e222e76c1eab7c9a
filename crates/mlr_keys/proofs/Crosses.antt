-- The places of keys may go into a thread, and may be shared by threads.
use denote.Param.Send.{IsSend, IsSync, sendable}
use Rattle.std.proofs.Crossing.{crosses}
use Rattle.mlr_keys.specs.contracts.key_index.KeyIndex
use Rattle.mlr_keys.specs.contracts.key_places.KeyPlaces

KeyIndex-send : IsSend KeyIndex.the_row
KeyIndex-send = search (crosses, sendable) depth 60 fits 20000

pub KeyPlaces-send : IsSend KeyPlaces.the_row
KeyPlaces-send = search (crosses, KeyIndex-send, sendable) depth 60 fits 20000

KeyIndex-sync : IsSync KeyIndex.the_row
KeyIndex-sync = search (crosses, sendable) depth 60 fits 20000

pub KeyPlaces-sync : IsSync KeyPlaces.the_row
KeyPlaces-sync = search (crosses, KeyIndex-sync, sendable) depth 60 fits 20000

pub ruleset crosses_keys = (
  KeyPlaces-send,
  KeyPlaces-sync,
)

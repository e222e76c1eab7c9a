-- The rest of the file at its end: a last line without LF, or nothing.
use Rattle.std.specs.Prelude.{ℕ, List, [], ◌∷◌, ◌++◌}
use Rattle.mlr_event.specs.declared.event.Event.{Event}
use Rattle.read_xtab_pprint.specs.declared.rules.PprintRules.{PprintRules}
use Rattle.read_xtab_pprint.specs.declared.rules.XtabRules.{XtabRules}
use Rattle.read_xtab_pprint.specs.PprintRules.{pprint_after, pprint_events}
use Rattle.read_xtab_pprint.specs.XtabRules.{after_gap, gap_events, xtab_after, xtab_events}

abbrev pub pprint_after_last : PprintRules → List ℕ → PprintRules
pprint_after_last rules [] = rules
pprint_after_last rules (b ∷ line) = pprint_after rules (b ∷ line)

abbrev pub pprint_gives_last : PprintRules → List ℕ → List Event
pprint_gives_last rules [] = []
pprint_gives_last rules (b ∷ line) = pprint_events rules (b ∷ line)

-- the end of the file gives the current record
abbrev pub xtab_after_last : XtabRules → List ℕ → XtabRules
xtab_after_last rules [] = after_gap rules
xtab_after_last rules (b ∷ line) = after_gap (xtab_after rules (b ∷ line))

abbrev pub xtab_gives_last : XtabRules → List ℕ → List Event
xtab_gives_last rules [] = gap_events rules
xtab_gives_last rules (b ∷ line) = xtab_events rules (b ∷ line) ++ gap_events (xtab_after rules (b ∷ line))

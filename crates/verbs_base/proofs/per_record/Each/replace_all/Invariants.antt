use Rattle.std.proofs.Common.{◌≡◌, ◌≤◌, length}
use Rattle.verbs_base.specs.Replacing.{given_of_all}
use Rattle.verbs_base.proofs.Replacing.{replaced}
use Rattle.verbs_base.proofs.per_record.Each.replace_all.Given as goal

-- the events so far, replaced, and what the rest give make up what all give
abbrev pub invariant-loop-place : goal.invariant-loop-place
invariant-loop-place g l = record {
  gives : g.V.PerRecord.gives l.self.verb ≡ g.V.PerRecord.gives l.fn.self.verb;
  sound : g.V.PerRecord.sound l.self.verb;
  within : l.kept ≤ l.place;
  count : length l.events ≡ length l.fn.events;
  events : replaced (g.V.PerRecord.gives l.fn.self.verb) l.kept l.place l.events ≡ given_of_all (g.V.PerRecord.gives l.fn.self.verb) l.fn.events;
}

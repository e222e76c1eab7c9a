use Rattle.std.proofs.Common.{◌≡◌, true}
use Rattle.std.specs.List.{list_all}
use Rattle.verb_specs.specs.Verbs.{AreSound}
use Rattle.plan_verbs.specs.Plans.{can_read_left}
use Rattle.chain_tests.proofs.plan_parts.verbs_of.Given as goal

-- verbs that may be run, without a left file that can't be read
abbrev pub invariant-loop-verb : goal.invariant-loop-verb
invariant-loop-verb l = AreSound l.made × (list_all can_read_left l.made ≡ true)

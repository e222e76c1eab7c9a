use Rattle.std.proofs.Common.{◌≡◌, drop}
use Rattle.cli_plan.specs.Settings.{after_flags, settings_in}
use Rattle.cli_plan.proofs.settings.settings_of.Given as goal

-- the flags that remain, after the settings so far
abbrev pub invariant-loop-flag : goal.invariant-loop-flag
invariant-loop-flag l = after_flags l.settings (drop l.flag-index l.flags) ≡ settings_in l.flags

use Rattle.std.proofs.Common.{◌∙◌, ap}
use Rattle.cli_grammar.specs.Flags.{flag_named}
use Rattle.cli_plan.specs.Flags.{sets_of, setting_of}
use Rattle.cli_plan.proofs.flag.setting_of.Goals as goal

-- by hand, since a search looks into each row of the flags
pub returns : goal.returns
unfolding setting_of
returns c =
    c.sets_of.ensures ∙ ap sets_of (c.flag_named.ensures ∙ ap flag_named c.as_slice.ensures)

use Rattle.cli_verbs.proofs.template.template.Goals as goal

pub returns : goal.returns
returns c = cc (c.in_ok-names_after.ensures, c.in_ok-text_or.ensures)

use Rattle.std.proofs.Common.{◌≡◌, ◌++◌, ◌∙◌, OnOk, subst}
use Rattle.std.specs.Option.{option_to_list}
use Rattle.std.proofs.lemmas.List.{take-replicate}
use Rattle.text_columns.proofs.padding.append_spaces.Goals as goal

pub returns : goal.returns
returns c =
    subst (λ text. OnOk c.append_then.result (c.append_then.new.self ≡ c.args.out.now ++ text ++ option_to_list c.args.next))
    (c.in_ok-spaces.ensures.copied ∙ take-replicate c.args.count 16 32 c.requires) c.append_then.ensures

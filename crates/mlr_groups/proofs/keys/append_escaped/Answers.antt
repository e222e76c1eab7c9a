use Rattle.std.proofs.Common.{◌≡◌, ◌++◌, sym, subst, OnOk, rules}
use Rattle.mlr_groups.proofs.KeyTexts.{escaped-none}
use Rattle.mlr_groups.proofs.keys.append_escaped.Goals as goal

pub returns-in-None : goal.returns-in-None
returns-in-None c =
    let put : OnOk c.append.result (c.append.new.self ≡ c.args.key.now ++ c.args.text.now) = search rules in
    subst (λ text. OnOk c.append.result (c.append.new.self ≡ c.args.key.now ++ text)) (sym (escaped-none c.args.text.now c.in-None.ensures)) put

use Rattle.std.proofs.Common.{◌≡◌, ℕ, List, Bool, false, ◌||◌, [], ap, sym, ◌∙◌, subst, rules}
use Rattle.std.specs.Prelude.{◌↔◌, IsTrue}
use Rattle.std.specs.Bool.{beq}
use Rattle.std.specs.Cmp.{booleans_Decides}
use Rattle.writers.specs.Style.{if_used, unflattens}
use Rattle.writers.proofs.Styles.{both, parts-of-style, style-of-parts}
use Rattle.writers.proofs.options.WriteOpts.is_same_style.Goals as goal

-- a part that is looked at where the format has it
at : {A : Type 0} (none x y : A) (result used looked : Bool) → used ≡ looked → (IsTrue result ↔ (if_used used none x ≡ if_used used none y)) → IsTrue result ↔ (if_used looked none x ≡ if_used looked none y)
at none x y result used looked is same = subst (λ u. IsTrue result ↔ (if_used u none x ≡ if_used u none y)) is same

tests : (x y x' y' : Bool) → x ≡ x' → y ≡ y' → IsTrue (beq x y) ↔ (x' ≡ y')
tests x y x' y' p q = (λ t. sym p ∙ (booleans_Decides x y).0 t ∙ q, λ e. (booleans_Decides x y).1 (p ∙ e ∙ sym q))

pub returns : goal.returns
returns c =
    let a = c.args.self.now in
    let b = c.args.other.now in
    let none : List ℕ = [] in
    let fmt : IsTrue c.eq.result ↔ (a.format ≡ b.format) = search rules in
    let ofs = at none a.ofs b.ofs c.are_same_texts.result c.uses_ofs.result _ c.uses_ofs.ensures c.are_same_texts.ensures in
    let ops = at none a.ops b.ops c.are_same_texts-2.result c.uses_ops.result _ c.uses_ops.ensures c.are_same_texts-2.ensures in
    let headerless = at false a.headerless b.headerless c.are_same_flags.result c.uses_header.result _ c.uses_header.ensures c.are_same_flags.ensures in
    let quote_all = at false a.quote_all b.quote_all c.are_same_flags-2.result c.uses_quotes.result _ c.uses_quotes.ensures c.are_same_flags-2.ensures in
    let barred = at false a.barred b.barred c.are_same_flags-3.result c.uses_bars.result _ c.uses_bars.ensures c.are_same_flags-3.ensures in
    let stacked = at false a.stacked b.stacked c.are_same_flags-4.result c.uses_lists.result _ c.uses_lists.ensures c.are_same_flags-4.ensures in
    let listwrap = at false a.listwrap b.listwrap c.are_same_flags-5.result c.uses_lists-2.result _ c.uses_lists-2.ensures c.are_same_flags-5.ensures in
    let flatten = booleans_Decides a.flatten b.flatten in
    let unflatten = tests c.unflattens-nested.result c.unflattens.result (unflattens a) (unflattens b) c.unflattens-nested.ensures c.unflattens.ensures in
    let flatsep = at none a.flatsep b.flatsep c.are_same_texts-3.result (a.flatten || c.unflattens-nested.result) (a.flatten || unflattens a) (ap (λ nested. a.flatten || nested) c.unflattens-nested.ensures) c.are_same_texts-3.ensures in
    let all =
    both _ c.are_same_texts-3.result
    (both _ (beq c.unflattens-nested.result c.unflattens.result)
    (both _ (beq a.flatten b.flatten)
    (both _ c.are_same_flags-5.result
    (both _ c.are_same_flags-4.result
    (both _ c.are_same_flags-3.result
    (both _ c.are_same_flags-2.result
    (both _ c.are_same_flags.result
    (both _ c.are_same_texts-2.result (both c.eq.result c.are_same_texts.result fmt ofs) ops)
    headerless) quote_all) barred) stacked) listwrap) flatten) unflatten) flatsep in (
      λ is.
          let p = all.0 is in
          style-of-parts a b (record {
            fmt = p.0.0.0.0.0.0.0.0.0.0;
            ofs = p.0.0.0.0.0.0.0.0.0.1;
            ops = p.0.0.0.0.0.0.0.0.1;
            headerless = p.0.0.0.0.0.0.0.1;
            quote_all = p.0.0.0.0.0.0.1;
            barred = p.0.0.0.0.0.1;
            stacked = p.0.0.0.0.1;
            listwrap = p.0.0.0.1;
            flatten = p.0.0.1;
            unflatten = p.0.1;
            flatsep = p.1;
          }),
      λ same.
          let p = parts-of-style a b same in
          all.1 ((((((((((p.fmt, p.ofs), p.ops), p.headerless), p.quote_all), p.barred), p.stacked), p.listwrap), p.flatten), p.unflatten), p.flatsep),
    )

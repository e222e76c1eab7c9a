use Rattle.std.proofs.Common.{◌≡◌, Less, Equal, Greater, refl, ap, sym, ◌∙◌}
use Rattle.std.specs.Cmp.Lexicographic.{slice_cmp}
use Rattle.std.specs.Ordering.{nat_cmp, ordering_reverse}
use Rattle.std.specs.declared.cmp.Ordering.{Ordering}
use Rattle.std.proofs.lemmas.Cmp.{nat_list_cmp_total}
use Rattle.std.proofs.lemmas.Slice.Eq.{bytes_eq-Decides}
use Rattle.verbs_sort.proofs.in_order.compare_texts.Goals as goal

-- a text ties with itself
own : (o : Ordering) → o ≡ ordering_reverse o → Equal ≡ o
own Less is = absurd (let e : Less ≡ Greater = is in cc)
own Equal is = refl
own Greater is = absurd (let e : Greater ≡ Less = is in cc)

pub returns-then-is : goal.returns-then-is
returns-then-is c =
    let text = c.args.text.now in
    own (slice_cmp nat_cmp text text) (nat_list_cmp_total.antisymm text text)
    ∙ ap (slice_cmp nat_cmp text) ((bytes_eq-Decides text c.args.other.now).0 (sym c.is.ensures ∙ c.if-is.true))

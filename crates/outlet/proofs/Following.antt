-- A call after another one: what both leave, and how both count.
use Rattle.std.proofs.Common.{◌≡◌, ℕ, Bool, true, false, List, ◌++◌, Option, ap, sym, ◌∙◌, arith, append_assoc}
use Rattle.mlr_event.specs.declared.names.Target.{Target}
use Rattle.mlr_event.specs.declared.names.Target.TheVariants.{Stdout}
use Rattle.mlr_world.specs.Counts.{Counted}
use Rattle.mlr_world.specs.Outputs.{with_bytes}
use Rattle.mlr_world.proofs.Changes.{with_bytes-twice}
use Rattle.outlet.specs.declared.outlet.Let.{Let}
use Rattle.outlet.specs.declared.outlet.Let.TheVariants.{Went, Over, Failed, NoMemory}
use Rattle.outlet.specs.Represents.{AppendsPrefix, CountedIf, LetLeaves}

pub whole-following : (text more : List ℕ) (a b c : Option (List ℕ)) → b ≡ with_bytes text a → c ≡ with_bytes more b → c ≡ with_bytes (text ++ more) a
whole-following text more a b c first second = second ∙ ap (with_bytes more) first ∙ with_bytes-twice text more a

pub prefix-following : (text more : List ℕ) (a b c : Option (List ℕ)) → b ≡ with_bytes text a → AppendsPrefix more b c → AppendsPrefix (text ++ more) a c
prefix-following text more a b c first p =
    (text ++ p.0, (p.1.0, ap (λ t. text ++ t) p.1.1 ∙ sym (append_assoc text p.0 p.1.0)), p.2 ∙ ap (with_bytes p.0) first ∙ with_bytes-twice text p.0 a)

pub leaves-following : (answer : Let) (text more : List ℕ) (a b c : Option (List ℕ)) → b ≡ with_bytes text a → LetLeaves answer more b c → LetLeaves answer (text ++ more) a c
leaves-following Went text more = whole-following text more
leaves-following (Over fault) text more = whole-following text more
leaves-following (Failed target) text more = prefix-following text more
leaves-following NoMemory text more = prefix-following text more

-- a prefix of a text is one of a longer text
pub prefix-longer : (text more : List ℕ) (before now : Option (List ℕ)) → AppendsPrefix text before now → AppendsPrefix (text ++ more) before now
prefix-longer text more before now p = (p.0, (p.1.0 ++ more, ap (λ t. t ++ more) p.1.1 ∙ append_assoc p.0 p.1.0 more), p.2)

pub counted-from : (failed : Bool) (f0 f1 f2 : Target → ℕ) → ((target : Target) → f1 target ≡ f0 target) → Counted failed f1 f2 Stdout → Counted failed f0 f2 Stdout
counted-from true f0 f1 f2 same counted = (λ other. omega (arith, same other, counted.0 other), omega (arith, same Stdout, counted.1))
counted-from false f0 f1 f2 same counted = λ other. counted other ∙ same other

pub counted_if-from : (lacks : Bool) (s0 s1 s2 : ℕ) → s1 ≡ s0 → CountedIf lacks s1 s2 → CountedIf lacks s0 s2
counted_if-from true s0 s1 s2 same counted = omega (arith, same, counted)
counted_if-from false s0 s1 s2 same counted = counted ∙ same

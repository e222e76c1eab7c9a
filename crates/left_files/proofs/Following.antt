-- What was taken of one file, after what was taken of those before it.
use Rattle.std.proofs.Common.{◌≡◌, ◌≤◌, true, false, List, [], ◌∷◌, ◌++◌, length, Option, Some, None, refl, ap, sym, ◌∙◌, subst, append_assoc, arith, length-append}
use Rattle.std.specs.Prelude.{IfSome}
use Rattle.std.specs.Option.{option_map}
use Rattle.std.proofs.lemmas.Bool.{true≢false}
use Rattle.std.proofs.lemmas.List.{append-nil}
use Rattle.mlr_event.specs.declared.names.InputName.{InputName}
use Rattle.mlr_world.specs.Inputs.{Contents}
use Rattle.mlr_world.specs.Taken.{Take, OpenEntry, entry_of}
use Rattle.read_files.specs.Takes.{After, ArePrefixesTaken, GoesOn, last_place, last_take, total}
use Rattle.read_files.specs.Represents.{AllRead}
use Rattle.read_files.proofs.Given.{prefixes-append, prefixes-before, read-ended, take-same}

-- as more is taken no byte is lost
pub total-on : (takes longer : List Take) → GoesOn takes longer → total takes ≤ total longer
total-on [] longer on = omega arith
total-on (t ∷ takes) [] on = absurd on
total-on (t ∷ takes) (u ∷ longer) on = omega (arith, total-on takes longer on.1, ap length on.0.1.1, length-append t.bytes on.0.1.0)

pub goes_on-following : (done takes longer : List Take) → GoesOn takes longer → GoesOn (done ++ takes) (done ++ longer)
goes_on-following [] takes longer on = on
goes_on-following (t ∷ done) takes longer on = (take-same t, goes_on-following done takes longer on)

pub last-following : (done : List Take) (t : Take) (takes : List Take) → last_take (done ++ t ∷ takes) ≡ last_take (t ∷ takes)
last-following [] t takes = refl
last-following (a ∷ []) t takes = refl
last-following (a ∷ b ∷ done) t takes = last-following (b ∷ done) t takes

prefixes-after : (told : Contents) (done takes : List Take) → ArePrefixesTaken told (done ++ takes) → ArePrefixesTaken told takes
prefixes-after told [] takes prefixes = prefixes
prefixes-after told (t ∷ done) takes prefixes = prefixes-after told done takes prefixes.1

if-both-map : {A B : Type 0} (o : Option A) (p : Option B) (P Q : A → Type 0) → ((a : A) → P a → Q a) → IfSome o (λ a. IfSome p (λ _. P a)) → IfSome o (λ a. IfSome p (λ _. Q a))
if-both-map None p P Q to holds = tt
if-both-map (Some a) None P Q to holds = tt
if-both-map (Some a) (Some b) P Q to holds = to a holds

module _ (before : Option (List Take)) (done : List Take) where
  abbrev pub and_done : Option (List Take)
  and_done = option_map (λ all. all ++ done) before

  entries-so : (takes : List Take) (b : Option (List Take)) → option_map (λ all. all ++ (done ++ takes)) b ≡ option_map (λ all. all ++ takes) (option_map (λ all. all ++ done) b)
  entries-so takes None = refl
  entries-so takes (Some all) = ap Some (sym (append_assoc all done takes))

  module _ (contents : Option Contents) (taken : Option (List Take)) (entry : Option OpenEntry) where
    abbrev IsOpen : Option Take → Type 0
    IsOpen last = IfSome last (λ t. t.ended ≡ false → entry ≡ Some (entry_of t.name (last_place taken)))

    open-of : (takes : List Take) → IsOpen (last_take (done ++ takes)) → IsOpen (last_take takes)
    open-of [] is = tt
    open-of (t ∷ takes) is = subst (λ last. IsOpen last) (last-following done t takes) is

    -- what comes after the files before it
    pub following-of : (takes : List Take) → After before (done ++ takes) contents taken entry → After and_done takes contents taken entry
    following-of takes following = record {
      entries = following.entries ∙ entries-so takes before;
      prefixes = if-both-map contents taken (λ told. ArePrefixesTaken told (done ++ takes)) (λ told. ArePrefixesTaken told takes) (λ told. prefixes-after told done takes) following.prefixes;
      open_is = open-of takes following.open_is;
    }

    none-open : (last : Option Take) → IfSome last (λ t. t.ended ≡ true) → IsOpen last
    none-open None all = tt
    none-open (Some t) all = λ e. absurd (true≢false (sym all ∙ e))

    module _ (prefix : List InputName) (read : AllRead prefix done) where
      open-all : (takes : List Take) → IsOpen (last_take takes) → IsOpen (last_take (done ++ takes))
      open-all [] is = subst (λ all. IsOpen (last_take all)) (sym (append-nil done)) (none-open (last_take done) (read-ended prefix done read))
      open-all (t ∷ takes) is = subst (λ last. IsOpen last) (sym (last-following done t takes)) is

      prefixes-all : (old takes : List Take) (c : Option Contents) (b : Option (List Take)) → IfSome c (λ told. IfSome (option_map (λ all. all ++ (done ++ old)) b) (λ _. ArePrefixesTaken told (done ++ old)))
          → IfSome c (λ told. IfSome (option_map (λ all. all ++ (done ++ takes)) b) (λ _. ArePrefixesTaken told takes))
          → IfSome c (λ told. IfSome (option_map (λ all. all ++ (done ++ takes)) b) (λ _. ArePrefixesTaken told (done ++ takes)))
      prefixes-all old takes None b one two = tt
      prefixes-all old takes (Some told) None one two = tt
      prefixes-all old takes (Some told) (Some all) one two = prefixes-append told done takes (prefixes-before told done old one) two

      -- and all of it, where something came before
      pub following-all : (old takes : List Take) (taken₀ : Option (List Take)) (entry₀ : Option OpenEntry) → After before (done ++ old) contents taken₀ entry₀ → After and_done takes contents taken entry → After before (done ++ takes) contents taken entry
      following-all old takes taken₀ entry₀ following now =
          let entries = now.entries ∙ sym (entries-so takes before) in
          record {
            entries = entries;
            prefixes = subst (λ t. IfSome contents (λ told. IfSome t (λ _. ArePrefixesTaken told (done ++ takes)))) (sym entries)
                (prefixes-all old takes contents before
                (subst (λ t. IfSome contents (λ told. IfSome t (λ _. ArePrefixesTaken told (done ++ old)))) following.entries following.prefixes)
                (subst (λ t. IfSome contents (λ told. IfSome t (λ _. ArePrefixesTaken told takes))) entries now.prefixes));
            open_is = open-all takes now.open_is;
          }

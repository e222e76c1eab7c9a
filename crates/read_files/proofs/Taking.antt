-- What the inputs tell of what was taken, call by call.
use Rattle.std.proofs.Common.{◌≡◌, ℕ, true, false, List, [], ◌∷◌, ◌++◌, length, length-append, arith, Option, Some, None, refl, ap, sym, subst, ◌∙◌, append_assoc}
use Rattle.std.specs.Prelude.{◌-◌, IsSome, IfSome, slice_get}
use Rattle.std.specs.Option.{option_map}
use Rattle.std.proofs.lemmas.Bool.{false≢true, true≢false}
use Rattle.std.proofs.lemmas.List.{append-nil}
use Rattle.mlr_event.specs.declared.names.InputName.{InputName}
use Rattle.mlr_world.specs.Counts.{Counted}
use Rattle.mlr_world.specs.Inputs.{Contents, Continues, IsAllTaken, next_place}
use Rattle.mlr_world.specs.Taken.{Take, OpenEntry, begun, ended, entry_of, grown, with_entry, with_open}
use Rattle.read_files.specs.Takes.{ArePrefixesTaken, After, last_place, last_take}
use Rattle.read_files.specs.Represents.{AllRead}
use Rattle.read_files.proofs.Given.{prefixes-append, prefixes-before, last_take-push, read-ended}

pub some_of : {A : Type 0} (o : Option A) → IsSome o → (x : A) × (o ≡ Some x)
some_of None h = absurd (false≢true h)
some_of (Some x) h = (x, refl)

-- counts that don't change, whichever input is open
pub unmoved : (entry : Option OpenEntry) (before now : InputName → ℕ) → IsSome entry → IfSome entry (λ e. Counted false before now e.name) → (other : InputName) → now other ≡ before other
unmoved None before now some counted = absurd (false≢true some)
unmoved (Some entry) before now some counted = counted

-- counts that rose, where the name is known
pub moved : (entry : Option OpenEntry) (known : OpenEntry) (before now : InputName → ℕ) → entry ≡ Some known → IfSome entry (λ e. Counted true before now e.name) → Counted true before now known.name
moved entry known before now is counted = subst (λ e. IfSome e (λ o. Counted true before now o.name)) is counted

-- nothing was taken, and the open input stays so
pub following-same : (before : Option (List Take)) (given : List Take) (contents : Option Contents) (taken taken' : Option (List Take)) (name name' : Option OpenEntry) → taken' ≡ taken → name' ≡ name
    → After before given contents taken name → After before given contents taken' name'
following-same before given contents taken taken' name name' same same' following =
    subst (λ t. After before given contents t name') (sym same) (subst (λ n. After before given contents taken n) (sym same') following)

-- nothing was taken, and none is open after inputs that were read whole
pub following-closed : (prefix : List InputName) (before : Option (List Take)) (given : List Take) (contents : Option Contents) (taken taken' : Option (List Take)) (name name' : Option OpenEntry) → AllRead prefix given → taken' ≡ taken
    → After before given contents taken name → After before given contents taken' name'
following-closed prefix before given contents taken taken' name name' read same following =
    subst (λ t. After before given contents t name') (sym same) (record {
      entries = following.entries;
      prefixes = following.prefixes;
      open_is = none-open (last_take given) (read-ended prefix given read);
    })
  where
    none-open : (last : Option Take) → IfSome last (λ t. t.ended ≡ true) → IfSome last (λ t. t.ended ≡ false → name' ≡ Some (entry_of t.name (last_place taken)))
    none-open None all = tt
    none-open (Some t) all = λ e. absurd (true≢false (sym all ∙ e))

-- nothing was taken at all
pub following-first : (contents : Option Contents) (taken : Option (List Take)) (name : Option OpenEntry) → After taken [] contents taken name
following-first contents taken name = record { entries = entry taken; prefixes = prefixes contents taken; open_is = tt } where
  entry : (t : Option (List Take)) → t ≡ option_map (λ takes. takes ++ []) t
  entry None = refl
  entry (Some takes) = ap Some (sym (append-nil takes))

  prefixes : (c : Option Contents) (t : Option (List Take)) → IfSome c (λ told. IfSome t (λ _. ArePrefixesTaken told []))
  prefixes None t = tt
  prefixes (Some told) None = tt
  prefixes (Some told) (Some takes) = tt

-- the next input was opened
module _ (before : Option (List Take)) (given : List Take) (contents contents' : Option Contents) (taken taken' : Option (List Take)) (name name' : Option OpenEntry) (opened : InputName) where
  entries-opened : (b : Option (List Take)) → option_map (λ takes. takes ++ begun opened ∷ []) (option_map (λ takes. takes ++ given) b) ≡ option_map (λ takes. takes ++ (given ++ begun opened ∷ [])) b
  entries-opened None = refl
  entries-opened (Some takes) = ap Some (append_assoc takes given (begun opened ∷ []))

  prefixes-opened : (c : Option Contents) (b : Option (List Take)) → IfSome c (λ told. IfSome (option_map (λ takes. takes ++ given) b) (λ _. ArePrefixesTaken told given)) → IfSome c (λ told. IsSome (told opened))
      → IfSome c (λ told. IfSome (option_map (λ takes. takes ++ (given ++ begun opened ∷ [])) b) (λ _. ArePrefixesTaken told (given ++ begun opened ∷ [])))
  prefixes-opened None b prefixes finds = tt
  prefixes-opened (Some told) None prefixes finds = tt
  prefixes-opened (Some told) (Some takes) prefixes finds =
      let found = some_of (told opened) finds in
      prefixes-append told given (begun opened ∷ []) prefixes ((found.0, found.1, λ e. absurd (false≢true e)), tt)

  place-opened : (t : Option (List Take)) → last_place (option_map (λ takes. takes ++ begun opened ∷ []) t) ≡ next_place t
  place-opened None = refl
  place-opened (Some takes) = omega (arith, length-append takes (begun opened ∷ []))

  pub following-opened : taken' ≡ option_map (λ takes. takes ++ begun opened ∷ []) taken → IfSome contents (λ told. IsSome (told opened)) → name' ≡ Some (entry_of opened (next_place taken)) → contents' ≡ contents
      → After before given contents taken name → After before (given ++ begun opened ∷ []) contents' taken' name'
  following-opened entry finds is same following =
      let entries = entry ∙ ap (option_map (λ takes. takes ++ begun opened ∷ [])) following.entries ∙ entries-opened before in
      record {
        entries = entries;
        prefixes = subst (λ c. IfSome c (λ told. IfSome taken' (λ _. ArePrefixesTaken told (given ++ begun opened ∷ [])))) (sym same)
            (subst (λ t. IfSome contents (λ told. IfSome t (λ _. ArePrefixesTaken told (given ++ begun opened ∷ [])))) (sym entries)
            (prefixes-opened contents before (subst (λ t. IfSome contents (λ told. IfSome t (λ _. ArePrefixesTaken told given))) following.entries following.prefixes) finds));
        open_is = subst (λ last. IfSome last (λ t. t.ended ≡ false → name' ≡ Some (entry_of t.name (last_place taken')))) (sym (last_take-push given (begun opened)))
            (λ _. is ∙ ap (λ place. Some (entry_of opened place)) (sym (ap last_place entry ∙ place-opened taken)));
      }

-- the entry that was pushed last, by its place
slice_get-push : (takes : List Take) (t : Take) → slice_get (takes ++ t ∷ []) (length takes) ≡ Some t
slice_get-push [] t = refl
slice_get-push (a ∷ takes) t = slice_get-push takes t

with_entry-push : (f : Take → Take) (takes : List Take) (t : Take) → with_entry (length takes) f (takes ++ t ∷ []) ≡ takes ++ f t ∷ []
with_entry-push f [] t = refl
with_entry-push f (a ∷ takes) t = ap (λ rest. a ∷ rest) (with_entry-push f takes t)

-- of the open input more was taken, or its end was met
module _ (before : Option (List Take)) (done : List Take) (t : Take) (begins : t.ended ≡ false) (contents : Option Contents) (taken taken' : Option (List Take)) (name name' : Option OpenEntry)
    (following : After before (done ++ t ∷ []) contents taken name) where
  pub open-name : name ≡ Some (entry_of t.name (last_place taken))
  open-name = subst (λ last. IfSome last (λ u. u.ended ≡ false → name ≡ Some (entry_of u.name (last_place taken)))) (last_take-push done t) following.open_is begins

  pub open-some : IsSome name
  open-some = subst (λ n. IsSome n) (sym open-name) refl

  abbrev told_with : (Take → Take) → Option (List Take) → Option (List Take)
  told_with f b = option_map (λ takes. takes ++ (done ++ f t ∷ [])) b

  -- the open input's entry, by what was taken before
  entry-so : name ≡ Some (entry_of t.name (last_place (told_with (λ u. u) before)))
  entry-so = open-name ∙ ap (λ k. Some (entry_of t.name (last_place k))) following.entries

  place-so : (takes : List Take) (u : Take) → length (takes ++ (done ++ u ∷ [])) - 1 ≡ length (takes ++ done)
  place-so takes u = omega (arith, length-append takes (done ++ u ∷ []), length-append done (u ∷ []), length-append takes done)

  last-with : (f : Take → Take) (takes : List Take) → with_entry (length (takes ++ (done ++ t ∷ [])) - 1) f (takes ++ (done ++ t ∷ [])) ≡ takes ++ (done ++ f t ∷ [])
  last-with f takes =
      ap (λ place. with_entry place f (takes ++ (done ++ t ∷ []))) (place-so takes t) ∙ ap (with_entry (length (takes ++ done)) f) (sym (append_assoc takes done (t ∷ [])))
      ∙ with_entry-push f (takes ++ done) t ∙ append_assoc takes done (f t ∷ [])

  entries-with : (f : Take → Take) (b : Option (List Take)) → option_map (with_open (Some (entry_of t.name (last_place (told_with (λ u. u) b)))) f) (told_with (λ u. u) b) ≡ told_with f b
  entries-with f None = refl
  entries-with f (Some takes) = ap Some (last-with f takes)

  last-told : (takes : List Take) → slice_get (takes ++ (done ++ t ∷ [])) (length (takes ++ (done ++ t ∷ [])) - 1) ≡ Some t
  last-told takes =
      ap (slice_get (takes ++ (done ++ t ∷ []))) (place-so takes t) ∙ ap (λ all. slice_get all (length (takes ++ done))) (sym (append_assoc takes done (t ∷ [])))
      ∙ slice_get-push (takes ++ done) t

  -- and its place stays the same
  place-kept : (f : Take → Take) (b : Option (List Take)) → last_place (told_with f b) ≡ last_place (told_with (λ u. u) b)
  place-kept f None = refl
  place-kept f (Some takes) = place-so takes (f t) ∙ sym (place-so takes t)

  prefixes-grown : (piece : List ℕ) (c : Option Contents) (b : Option (List Take)) → IfSome c (λ told. IfSome (told_with (λ u. u) b) (λ _. ArePrefixesTaken told (done ++ t ∷ []))) → Continues c (told_with (λ u. u) b) (Some (entry_of t.name (last_place (told_with (λ u. u) b)))) piece
      → IfSome c (λ told. IfSome (told_with (grown piece) b) (λ _. ArePrefixesTaken told (done ++ grown piece t ∷ [])))
  prefixes-grown piece None b prefixes prefix = tt
  prefixes-grown piece (Some told) None prefixes prefix = tt
  prefixes-grown piece (Some told) (Some takes) prefixes prefix =
      let rest = subst (λ last. IfSome last (λ u. (rest : List ℕ) × (told u.name ≡ Some (u.bytes ++ piece ++ rest)))) (last-told takes) prefix in
      prefixes-append told done (grown piece t ∷ []) (prefixes-before told done (t ∷ []) prefixes)
      ((rest.0, rest.1, λ e. absurd (false≢true (sym begins ∙ e))), tt)

  prefixes-ended : (c : Option Contents) (b : Option (List Take)) → IfSome c (λ told. IfSome (told_with (λ u. u) b) (λ _. ArePrefixesTaken told (done ++ t ∷ []))) → IsAllTaken c (told_with (λ u. u) b) (Some (entry_of t.name (last_place (told_with (λ u. u) b))))
      → IfSome c (λ told. IfSome (told_with ended b) (λ _. ArePrefixesTaken told (done ++ ended t ∷ [])))
  prefixes-ended None b prefixes all = tt
  prefixes-ended (Some told) None prefixes all = tt
  prefixes-ended (Some told) (Some takes) prefixes all =
      let is = subst (λ last. IfSome last (λ u. told u.name ≡ Some u.bytes)) (last-told takes) all in
      prefixes-append told done (ended t ∷ []) (prefixes-before told done (t ∷ []) prefixes) (([], is ∙ ap Some (sym (append-nil t.bytes)), λ _. refl), tt)

  known-prefixes : IfSome contents (λ told. IfSome (told_with (λ u. u) before) (λ _. ArePrefixesTaken told (done ++ t ∷ [])))
  known-prefixes = subst (λ k. IfSome contents (λ told. IfSome k (λ _. ArePrefixesTaken told (done ++ t ∷ [])))) following.entries following.prefixes

  module _ (f : Take → Take) (entry : taken' ≡ option_map (with_open name f) taken) where
    entries-changed : taken' ≡ told_with f before
    entries-changed =
        entry ∙ ap (option_map (with_open name f)) following.entries ∙ ap (λ e. option_map (with_open e f) (told_with (λ u. u) before)) entry-so ∙ entries-with f before

    open-kept : name' ≡ name → name' ≡ Some (entry_of t.name (last_place taken'))
    open-kept same = same ∙ entry-so ∙ ap (λ place. Some (entry_of t.name place)) (sym (ap last_place entries-changed ∙ place-kept f before))

  pub following-grown : (piece : List ℕ) → taken' ≡ option_map (with_open name (grown piece)) taken → Continues contents taken name piece → name' ≡ name → After before (done ++ grown piece t ∷ []) contents taken' name'
  following-grown piece entry prefix same =
      let entries = entries-changed (grown piece) entry in
      record {
        entries = entries;
        prefixes = subst (λ k. IfSome contents (λ told. IfSome k (λ _. ArePrefixesTaken told (done ++ grown piece t ∷ [])))) (sym entries)
            (prefixes-grown piece contents before known-prefixes
            (subst (λ e. Continues contents (told_with (λ u. u) before) e piece) entry-so (subst (λ k. Continues contents k name piece) following.entries prefix)));
        open_is = subst (λ last. IfSome last (λ u. u.ended ≡ false → name' ≡ Some (entry_of u.name (last_place taken')))) (sym (last_take-push done (grown piece t))) (λ _. open-kept (grown piece) entry same);
      }

  pub following-ended : taken' ≡ option_map (with_open name ended) taken → IsAllTaken contents taken name → After before (done ++ ended t ∷ []) contents taken' name'
  following-ended entry all =
      let entries = entries-changed ended entry in
      record {
        entries = entries;
        prefixes = subst (λ k. IfSome contents (λ told. IfSome k (λ _. ArePrefixesTaken told (done ++ ended t ∷ [])))) (sym entries)
            (prefixes-ended contents before known-prefixes
            (subst (λ e. IsAllTaken contents (told_with (λ u. u) before) e) entry-so (subst (λ k. IsAllTaken contents k name) following.entries all)));
        open_is = subst (λ last. IfSome last (λ u. u.ended ≡ false → name' ≡ Some (entry_of u.name (last_place taken')))) (sym (last_take-push done (ended t))) (λ e. absurd (true≢false e));
      }

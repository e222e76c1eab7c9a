-- Matches are replaced one after another.
use Rattle.std.proofs.Common.{◌≡◌, ℕ, zero, suc, ◌+◌, ◌-◌, ◌<◌, ◌≤◌, ◌==◌, nat_lt, false, List, ◌++◌, take, drop, length, Option, None, Some, Result, Ok, Err, is_ok, is_some, OnOk, IfSome, slice_range, if◌then◌else◌, sym, ap, ap₂, ◌∙◌, subst, arith, append_assoc, ne_eqb}
use Rattle.std.proofs.lemmas.Bool.{cond-true, cond-false, le-ltb, lt-ltb}
use Rattle.std.proofs.lemmas.Option.{none-some, same_Some}
use mathlib.Core.Path.{fun_ext}
use Rattle.regex.specs.Patterns.{Re, Match, find, find_all, span}
use Rattle.regex.specs.Search.{Answers, next_match, matches_after}
use Rattle.regex.specs.Writes.{group_of}
use Rattle.regex.specs.Replace.{bytes_of, group_bytes, replaced_by}
use Rattle.regex.specs.Bytes.{captures_span, IsCapturesOf}
use Rattle.regex.specs.declared.bytes.captures.Captures.{Captures}
use Rattle.regex.proofs.CapturesLemmas.{group_span-zero}
use Rattle.regex.proofs.SearchLemmas.{leftmost_within, next_same, next_later, next_within, matches_after_none, matches_after_some, matches_after_bytes}
use Rattle.mlr_pattern.specs.Groups.{group_text, after_first}
use Rattle.mlr_pattern.specs.Replacing.{filled, matches_of, replaced}
use Rattle.mlr_pattern.specs.declared.which.Which.{Which}
use Rattle.mlr_pattern.specs.declared.which.Which.TheVariants.{First, All}

pub on_ok : {A E : Type 0} (r : Result A E) (new a b c : List ℕ) → new ≡ (if is_ok r then a else b) → a ≡ c → OnOk r (new ≡ c)
on_ok (Ok x) new a b c e h = e ∙ h
on_ok (Err x) new a b c e h = tt

-- the result of one search is the result of another that finds the same
answers_as : {A : Type 0} (r : Option A) (f g : Option Match) (P Q : Match → A → Type 0) → f ≡ g →
    ((m : Match) (x : A) → f ≡ Some m → P m x → Q m x) → Answers r f P → Answers r g Q
answers_as None f g P Q e h found = sym e ∙ found
answers_as (Some x) f g P Q e h found = (found.0, sym e ∙ found.1, h found.0 x found.1 found.2)

module _ (re : Re) (text by : List ℕ) where
  abbrev written : Match → List ℕ
  written m = filled (group_bytes text m) by

  abbrev gap : ℕ → Match → List ℕ
  gap after m = slice_range text (after - 1) m.start ++ written m

  -- the end of the match is returned, and the text up to the match and its replacement were appended
  abbrev pub Appends : List ℕ → List ℕ → ℕ → Match → ℕ → Type 0
  Appends old new after m end = (end ≡ m.trace.end) × (new ≡ old ++ gap after m)

  -- the same, but nothing was appended for a match that ends before `after`
  abbrev pub AppendsLate : List ℕ → List ℕ → ℕ → Match → ℕ → Type 0
  AppendsLate old new after m end = (end ≡ m.trace.end) × (new ≡ (if nat_lt m.trace.end after then old else old ++ gap after m))

  late : (old new : List ℕ) (after : ℕ) (m : Match) (end : ℕ) → after ≤ m.trace.end → AppendsLate old new after m end → Appends old new after m end
  late old new after m end h put = (put.0, put.1 ∙ cond-false _ old (old ++ gap after m) (le-ltb m.trace.end after h))

  -- the first search finds no match
  pub none_next : (after at : ℕ) (old new : List ℕ) (r : Option ℕ) → at ≡ after - 1 → r ≡ None →
      Answers r (find re text at) (AppendsLate old new after) → Answers r (next_match false re text after) (Appends old new after)
  none_next after at old new None e is found =
      let none = ap (find re text) (sym e) ∙ found in
      next_same re text false after (λ m some. absurd (none-some m (sym none ∙ some))) ∙ none
  none_next after at old new (Some x) e is found = absurd cc

  -- it finds one that ends after the last match
  pub some_next : (after at end : ℕ) (old new : List ℕ) (r : Option ℕ) → at ≡ after - 1 → r ≡ Some end → after ≤ end →
      Answers r (find re text at) (AppendsLate old new after) → Answers (Some end) (next_match false re text after) (Appends old new after)
  some_next after at end old new None e is h found = absurd cc
  some_next after at end old new (Some x) e is h found =
      let same : x ≡ end = same_Some x end is in
      let m = found.0 in
      let some = ap (find re text) (sym e) ∙ found.1 in
      let following : after ≤ m.trace.end = omega (arith, h, same, found.2.0) in
      let put = late old new after m x following found.2 in (
        m,
        next_same re text false after (λ x' some'. subst (λ (y : Match). after ≤ y.trace.end) (same_Some m x' (sym some ∙ some')) following) ∙ some,
        (sym same ∙ put.0, put.1),
      )

  -- it finds an empty one at the end of the last match
  pub skipped : (after at end : ℕ) (old new : List ℕ) (r : Option ℕ) → at ≡ after - 1 → r ≡ Some end → end < after →
      Answers r (find re text at) (AppendsLate old new after) →
      (m : Match) × (find re text (after - 1) ≡ Some m) × (m.trace.end < after) × (new ≡ old)
  skipped after at end old new None e is h found = absurd cc
  skipped after at end old new (Some x) e is h found =
      let same : x ≡ end = same_Some x end is in
      let m = found.0 in
      let before : m.trace.end < after = omega (arith, h, same, found.2.0) in (
        m,
        ap (find re text) (sym e) ∙ found.1,
        before,
        found.2.1 ∙ cond-true _ old (old ++ gap after m) (lt-ltb m.trace.end after before),
      )

  -- then a second search, one byte later, finds the next match
  pub second_next : (after : ℕ) (old new : List ℕ) (first : Match) → find re text (after - 1) ≡ Some first → first.trace.end < after →
      (r : Option ℕ) → Answers r (find re text after) (AppendsLate old new after) →
      Answers r (next_match false re text after) (Appends old new after)
  second_next after old new first some h r found =
      answers_as r _ _ _ _ (sym (next_later re text false after first some h))
      (λ m end is put. let at = leftmost_within re text false after m is in late old new after m end (omega (arith, at.0, at.1)) put)
      found

  pub inside : (after : ℕ) (old new : List ℕ) (r : Option ℕ) → Answers r (next_match false re text after) (Appends old new after) →
      IfSome r (λ end. (after ≤ end) × (end ≤ length text))
  inside after old new None found = tt
  inside after old new (Some end) found =
      let at = next_within re text false after found.0 found.1 in (omega (arith, at.0, found.2.0), omega (arith, at.1, found.2.0))

  -- the next match is the first of the remaining ones
  pub step : (after end : ℕ) (old new whole : List ℕ) → Answers (Some end) (next_match false re text after) (Appends old new after) →
      old ++ replaced_by written text (after - 1) (matches_after false re text after) ≡ whole →
      new ++ replaced_by written text (end + 1 - 1) (matches_after false re text (end + 1)) ≡ whole
  unfolding replaced_by
  step after end old new whole found e =
      let m = found.0 in
      let back : end + 1 - 1 ≡ m.trace.end = omega (arith, found.2.0) in
      let rest = replaced_by written text m.trace.end (matches_after false re text (m.trace.end + 1)) in
      ap₂ (λ at more. new ++ replaced_by written text at (matches_after false re text more)) back (ap (λ n. n + 1) found.2.0)
      ∙ ap (λ prefix. prefix ++ rest) found.2.1
      ∙ append_assoc old (gap after m) rest
      ∙ ap (λ ms. old ++ replaced_by written text (after - 1) ms) (sym (matches_after_some re text false after m found.1))
      ∙ e

  pub last_step : (after : ℕ) (old whole : List ℕ) → next_match false re text after ≡ None →
      old ++ replaced_by written text (after - 1) (matches_after false re text after) ≡ whole → old ++ drop (after - 1) text ≡ whole
  unfolding replaced_by
  last_step after old whole none e =
      ap (λ ms. old ++ replaced_by written text (after - 1) ms) (sym (matches_after_none re text false after none)) ∙ e

  whole_from_start : (old : List ℕ) →
      old ++ replaced_by written text (0 - 1) (matches_after false re text 0) ≡ old ++ replaced text by (find_all re text)
  whole_from_start old = ap (λ ms. old ++ replaced_by written text 0 ms) (matches_after_bytes re text)

  pub found_whole : (which : Which) (old new : List ℕ) (end : ℕ) → Answers (Some end) (next_match false re text 0) (Appends old new 0) →
      new ++ after_first which re text by end ≡ old ++ replaced text by (matches_of which re text)
  unfolding replaced_by
  found_whole First old new end found =
      let m = found.0 in
      let matches = sym (matches_after_bytes re text) ∙ matches_after_some re text false 0 m found.1 in
      ap₂ (λ prefix at. prefix ++ drop at text) found.2.1 found.2.0
      ∙ append_assoc old (gap 0 m) (drop m.trace.end text)
      ∙ ap (λ ms. old ++ replaced text by (take 1 ms)) (sym matches)
  found_whole All old new end found = step 0 end old new _ found (whole_from_start old)

  first_is : next_match false re text 0 ≡ find re text 0
  first_is = next_same re text false 0 (λ m some. omega arith)

  pub none_whole : (which : Which) → next_match false re text 0 ≡ None → replaced text by (matches_of which re text) ≡ text
  unfolding replaced_by
  none_whole First none = ap (λ ms. replaced text by (take 1 ms)) (sym (matches_after_bytes re text) ∙ matches_after_none re text false 0 none)
  none_whole All none = ap (λ ms. replaced text by ms) (sym (matches_after_bytes re text) ∙ matches_after_none re text false 0 none)

  -- a first match is found exactly if the pattern matches somewhere
  pub found_first : (old new : List ℕ) (r : Option ℕ) → Answers r (next_match false re text 0) (Appends old new 0) → is_some r ≡ is_some (find re text 0)
  found_first old new None found = sym (ap is_some (sym first_is ∙ found))
  found_first old new (Some end) found = sym (ap is_some (sym first_is ∙ found.1))

-- captures are the groups of their match
module _ (text : List ℕ) (m : Match) (found : Captures) (is : IsCapturesOf text m found) where
  pub whole_span : captures_span found 0 ≡ Some (span m)
  whole_span = group_span-zero false _ _ _ ∙ ap Some is.1.whole_is

  span_of : (n : ℕ) → captures_span found n ≡ (if n == 0 then Some (span m) else group_of m n)
  span_of zero = whole_span
  span_of (suc n) = is.2 (suc n) (omega arith) ∙ sym (cond-false _ _ _ (ne_eqb (suc n) 0 (omega arith)))

  pub same_groups : group_text found ≡ group_bytes text m
  same_groups = fun_ext (λ n. ap₂ bytes_of is.0 (span_of n))

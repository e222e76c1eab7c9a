-- Words that are refused are no command line, and a line begins with the words before the place.
use Rattle.std.proofs.Common.{◌≡◌, ℕ, ◌+◌, ◌-◌, ◌≤◌, ◌<◌, List, [], ◌∷◌, ◌++◌, length, take, Some, refl, ap, sym, ◌∙◌, subst, append_assoc, arith, inl, inr}
use Rattle.std.proofs.Math.Seq.{take-append-add, take-append_seam}
use Rattle.std.proofs.lemmas.List.{length-append}
use Rattle.mlr_event.specs.declared.refusal.Refusal.{Refusal}
use Rattle.mlr_event.specs.declared.refusal.Why.TheVariants.{MissingArgument}
use Rattle.cli_grammar.specs.declared.given.Given.{Given}
use Rattle.cli_grammar.specs.declared.given.VerbWords.{VerbWords}
use Rattle.cli_grammar.specs.declared.line.Line.{Line}
use Rattle.cli_grammar.specs.declared.line.Next.{Next}
use Rattle.cli_grammar.specs.declared.line.Next.TheVariants as next
use Rattle.cli_grammar.specs.declared.line.Place.{Place}
use Rattle.cli_grammar.specs.declared.line.Place.TheVariants as place
use Rattle.cli_grammar.specs.Grammar.{CanGoOn, IsLine, IsRefusedAfter}
use Rattle.cli_grammar.specs.Reading.{after, line_from, line_in}
use Rattle.cli_grammar.proofs.Causes.{IsAt, NextIsAt, after-is-at, end-is-at, some-at}
use Rattle.cli_grammar.proofs.Continuations.{goes-on}
use Rattle.cli_grammar.proofs.Fits.{Fits, NextFits, after-fits, line_by}
use Rattle.cli_grammar.proofs.Lines.{accepted-is}
use Rattle.cli_grammar.proofs.Walks.{found, step}

-- the words so far lead to a place
abbrev Leads : List (List ℕ) → ℕ → List Given → List VerbWords → Place → Type 0
Leads done n flags verbs at = (following : List (List ℕ)) → line_in (done ++ following) ≡ line_from n flags verbs at following

-- words that are refused are no line
not-line : (words : List (List ℕ)) (why : Refusal) (flags : List Given) (verbs : List VerbWords) (names : List (List ℕ)) → (line_in words).refusal ≡ Some why
    → IsLine words flags verbs names → ⊥
not-line words why flags verbs names refused is =
    let e = sym refused ∙ ap (λ (line : Line). line.refusal) (found words flags verbs names is) in cc

can-go-on : (done : List (List ℕ)) (n : ℕ) (flags : List Given) (verbs : List VerbWords) (at : Place) → Fits at → Leads done n flags verbs at → CanGoOn done
can-go-on done n flags verbs at fits leads =
    let on = goes-on at fits in
    let line = line_in (done ++ on.0) in
    record {
      following = on.0;
      flags = line.flags;
      verbs = line.verbs;
      names = line.names;
      is = accepted-is (done ++ on.0) (ap (λ (line : Line). line.refusal) (leads on.0) ∙ on.1 n flags verbs);
    }

-- a place after which the words are refused
refused-after : (done rest : List (List ℕ)) (n : ℕ) (flags : List Given) (verbs : List VerbWords) (at : Place) (why : Refusal) → Fits at → Leads done n flags verbs at
    → (line_from n flags verbs at rest).refusal ≡ Some why → (length done < length (done ++ rest) → CanGoOn (take (length done + 1) (done ++ rest)) → ⊥)
    → IsRefusedAfter (done ++ rest) (length done)
refused-after done rest n flags verbs at why fits leads refused ends =
    let both = length-append done rest in
    record {
      within = let e : length done ≤ length (done ++ rest) = omega (arith, both) in e;
      goes_on = subst CanGoOn (sym (take-append_seam done rest)) (can-go-on done n flags verbs at fits leads);
      ends = ends;
      none = λ f v names is. not-line (done ++ rest) why f v names (ap (λ (line : Line). line.refusal) (leads rest) ∙ refused) is;
    }

-- no line goes on with a word that is refused
stops : (done : List (List ℕ)) (word : List ℕ) (rest : List (List ℕ)) (why : Refusal)
    → ((following : List (List ℕ)) → (line_in (done ++ (word ∷ following))).refusal ≡ Some why) → CanGoOn (take (length done + 1) (done ++ (word ∷ rest))) → ⊥
stops done word rest why refused goes =
    let same : take (length done + 1) (done ++ (word ∷ rest)) ≡ done ++ word ∷ [] = take-append-add done (word ∷ rest) 1 in
    not-line (done ++ (word ∷ goes.following)) why goes.flags goes.verbs goes.names (refused goes.following)
    (subst (λ words. IsLine words goes.flags goes.verbs goes.names) (ap (λ words. words ++ goes.following) same ∙ append_assoc done (word ∷ []) goes.following) goes.is)

-- The words are refused at a word, which is the one that the refusal names, unless a word is missing.
abbrev pub HasPlace : List (List ℕ) → Refusal → Type 0
HasPlace words why = (before : ℕ) × (IsRefusedAfter words before × IsAt (before + 1) why)

abbrev Places : List (List ℕ) → List (List ℕ) → Type 0
Places done rest =
    (n : ℕ) (flags : List Given) (verbs : List VerbWords) (at : Place) (why : Refusal) → n ≡ length done → Fits at → Leads done n flags verbs at
    → (line_from n flags verbs at rest).refusal ≡ Some why → HasPlace (done ++ rest) why

-- the same after a word, by what it is
module _ (done : List (List ℕ)) (word : List ℕ) (rest : List (List ℕ)) (go : Places (done ++ word ∷ []) rest) (n : ℕ) (flags : List Given) (verbs : List VerbWords) (at : Place) (why : Refusal) (number : n ≡ length done) (fits : Fits at) (leads : Leads done n flags verbs at) where
  led : (to : Next) → after at (n + 1) word ≡ to → (following : List (List ℕ))
      → line_in (done ++ word ∷ [] ++ following) ≡ line_by (λ f v p. line_from (n + 1) f v p following) flags verbs (word ∷ following) to
  led to is following = ap line_in (append_assoc done (word ∷ []) following) ∙ leads (word ∷ following) ∙ step n flags verbs at word following to is

  onward : (f : List Given) (v : List VerbWords) (to : Place) → Fits to → Leads (done ++ word ∷ []) (n + 1) f v to → (line_from (n + 1) f v to rest).refusal ≡ Some why
      → HasPlace (done ++ (word ∷ rest)) why
  onward f v to fit lead refused =
      let both = length-append done (word ∷ []) in
      subst (λ words. HasPlace words why) (append_assoc done (word ∷ []) rest) (go (n + 1) f v to why (omega (arith, both, number)) fit lead refused)

  next-place : (to : Next) → after at (n + 1) word ≡ to → NextFits to → NextIsAt (n + 1) to → (line_by (λ f v p. line_from (n + 1) f v p rest) flags verbs (word ∷ rest) to).refusal ≡ Some why
      → HasPlace (done ++ (word ∷ rest)) why
  next-place (next.Goes to) is fit is_at refused = onward flags verbs to fit (led (next.Goes to) is) refused
  next-place (next.Flag flag) is fit is_at refused = onward (flags ++ flag ∷ []) verbs place.Flags tt (led (next.Flag flag) is) refused
  next-place (next.Then verb) is fit is_at refused = onward flags (verbs ++ verb ∷ []) place.Verb tt (led (next.Then verb) is) refused
  next-place (next.Names verb) is fit is_at refused = absurd (let e = refused in cc)
  next-place (next.Refused partial reason) is fit is_at refused = (
    length done,
    (
      refused-after done (word ∷ rest) n flags verbs at why fits leads
          (ap (λ (line : Line). line.refusal) (step n flags verbs at word rest (next.Refused partial reason) is) ∙ refused)
          (λ below. stops done word rest reason (λ following.
          ap (λ (line : Line). line.refusal) (leads (word ∷ following) ∙ step n flags verbs at word following (next.Refused partial reason) is))),
      subst (λ m. IsAt (m + 1) why) number (some-at (n + 1) reason why refused is_at),
    ),
  )

places : (rest done : List (List ℕ)) → Places done rest
places [] done n flags verbs at why number fits leads refused =
    let both = length-append done [] in (
      length done,
      (
        refused-after done [] n flags verbs at why fits leads refused (λ below. absurd (omega (arith, both, below))),
        subst (λ m. IsAt (m + 1) why) number (end-is-at at (n + 1) flags verbs why refused),
      ),
    )
places (word ∷ rest) done n flags verbs at why number fits leads refused =
    next-place done word rest (places rest (done ++ word ∷ [])) n flags verbs at why number fits leads (after at (n + 1) word) refl (after-fits at (n + 1) word fits)
    (after-is-at at (n + 1) word) refused

-- where the words are refused
pub place-of : (words : List (List ℕ)) (why : Refusal) → (line_in words).refusal ≡ Some why → HasPlace words why
place-of words why refused = places words [] 0 [] [] place.Flags why refl tt (λ following. refl) refused

-- the refusal of a word names it
named-word : (words : List (List ℕ)) (why : Refusal) (before : ℕ) → IsRefusedAfter words before → (why.why ≡ MissingArgument → ⊥) → IsAt (before + 1) why → IsRefusedAfter words (why.word - 1)
named-word words why before is other (inl word) = subst (IsRefusedAfter words) (let e : before ≡ why.word - 1 = omega (arith, word) in e) is
named-word words why before is other (inr cause) = absurd (other cause)

pub at-word : (words : List (List ℕ)) (why : Refusal) → (line_in words).refusal ≡ Some why → (why.why ≡ MissingArgument → ⊥) → IsRefusedAfter words (why.word - 1)
at-word words why refused other = let place = place-of words why refused in named-word words why place.0 place.1.0 other place.1.1

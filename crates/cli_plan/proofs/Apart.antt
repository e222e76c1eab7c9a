-- Words are accepted or refused, and refused in one way, but that regex may find a pattern too large.
use Rattle.std.proofs.Common.{◌≡◌, ℕ, ◌+◌, Bool, true, false, List, [], ◌∷◌, length, Option, Some, None, refl, ap, sym, ◌∙◌, inl, inr, arith}
use Rattle.std.specs.Prelude.{◌≢◌, nat_lt}
use Rattle.std.proofs.lemmas.Bool.{ltb-false}
use Rattle.mlr_event.specs.declared.refusal.Refusal.{Refusal}
use Rattle.mlr_event.specs.declared.refusal.Why.TheVariants.{PatternSize}
use Rattle.cli_grammar.specs.declared.given.VerbWords.{VerbWords}
use Rattle.cli_grammar.specs.declared.line.Line.{Line}
use Rattle.cli_grammar.specs.declared.verb_table.VerbName.{VerbName}
use Rattle.cli_grammar.specs.declared.verb_table.VerbName.TheVariants as verb
use Rattle.cli_verbs.specs.PatternWords.{AreGoodPatterns, IsFirstRefused, IsGoodPattern, IsRefusedPattern, PatternWord}
use Rattle.cli_verbs.specs.Verbs.{IsGoodNamed, IsRefusedNamed, patterns_so_far, verb_patterns}
use Rattle.cli_plan.specs.Accepting.{AreGoodAfter, IsAccepted, IsFirstRefusedAfter, IsGoodAfter, IsGoodPartial, IsRefused, IsRefusedIf, IsRefusedPartial, IsRefusedPartIf, clash_in}

same-refusal : (why other : Refusal) → why.word ≡ other.word → why.why ≡ other.why → why ≡ other
same-refusal why other word cause = ap (λ w. record { word = w; why = why.why }) word ∙ ap (λ c. record { word = other.word; why = c }) cause

-- a refusal for another cause than the size of a pattern
abbrev pub IsSure : Refusal → Type 0
IsSure why = why.why ≢ PatternSize

pattern-apart : (word : PatternWord) (why : Refusal) → IsSure why → IsRefusedPattern word why → IsGoodPattern word → ⊥
pattern-apart word why sure (at, inl bad) good = bad.1 good
pattern-apart word why sure (at, inr large) good = sure large.0

pattern-one : (word : PatternWord) (why other : Refusal) → IsSure why → IsSure other → IsRefusedPattern word why → IsRefusedPattern word other → why ≡ other
pattern-one word why other sure certain (at, inl bad) (there, inl worse) = same-refusal why other (at ∙ sym there) (bad.0 ∙ sym worse.0)
pattern-one word why other sure certain (at, inl bad) (there, inr large) = absurd (certain large.0)
pattern-one word why other sure certain (at, inr large) second = absurd (sure large.0)

first-apart : (words : List PatternWord) (why : Refusal) → IsSure why → IsFirstRefused words why → AreGoodPatterns words → ⊥
first-apart [] why sure is good = is
first-apart (word ∷ words) why sure (inl is) good = pattern-apart word why sure is good.0
first-apart (word ∷ words) why sure (inr is) good = first-apart words why sure is.1 good.1

first-one : (words : List PatternWord) (why other : Refusal) → IsSure why → IsSure other → IsFirstRefused words why → IsFirstRefused words other → why ≡ other
first-one [] why other sure certain is same = absurd is
first-one (word ∷ words) why other sure certain (inl is) (inl same) = pattern-one word why other sure certain is same
first-one (word ∷ words) why other sure certain (inl is) (inr same) = absurd (pattern-apart word why sure is same.0)
first-one (word ∷ words) why other sure certain (inr is) (inl same) = absurd (pattern-apart word other certain same is.0)
first-one (word ∷ words) why other sure certain (inr is) (inr same) = first-one words why other sure certain is.1 same.1

-- one verb
named-apart : (name : VerbName) (given : VerbWords) (why : Refusal) → IsSure why → IsRefusedNamed name given why → IsGoodNamed name given → ⊥
named-apart verb.Seqgen given why sure is good = is.2 good
named-apart verb.Altkv given why sure is good = first-apart (verb_patterns verb.Altkv given) why sure is good
named-apart verb.Cat given why sure is good = first-apart (verb_patterns verb.Cat given) why sure is good
named-apart verb.Count given why sure is good = first-apart (verb_patterns verb.Count given) why sure is good
named-apart verb.CountDistinct given why sure is good = first-apart (verb_patterns verb.CountDistinct given) why sure is good
named-apart verb.CountSimilar given why sure is good = first-apart (verb_patterns verb.CountSimilar given) why sure is good
named-apart verb.Cut given why sure is good = first-apart (verb_patterns verb.Cut given) why sure is good
named-apart verb.Decimate given why sure is good = first-apart (verb_patterns verb.Decimate given) why sure is good
named-apart verb.FillDown given why sure is good = first-apart (verb_patterns verb.FillDown given) why sure is good
named-apart verb.FillEmpty given why sure is good = first-apart (verb_patterns verb.FillEmpty given) why sure is good
named-apart verb.Flatten given why sure is good = first-apart (verb_patterns verb.Flatten given) why sure is good
named-apart verb.Gap given why sure is good = first-apart (verb_patterns verb.Gap given) why sure is good
named-apart verb.Grep given why sure is good = first-apart (verb_patterns verb.Grep given) why sure is good
named-apart verb.GroupBy given why sure is good = first-apart (verb_patterns verb.GroupBy given) why sure is good
named-apart verb.GroupLike given why sure is good = first-apart (verb_patterns verb.GroupLike given) why sure is good
named-apart verb.Gsub given why sure is good = first-apart (verb_patterns verb.Gsub given) why sure is good
named-apart verb.HavingFields given why sure is good = first-apart (verb_patterns verb.HavingFields given) why sure is good
named-apart verb.Head given why sure is good = first-apart (verb_patterns verb.Head given) why sure is good
named-apart verb.Join given why sure is good = first-apart (verb_patterns verb.Join given) why sure is good
named-apart verb.JsonParse given why sure is good = first-apart (verb_patterns verb.JsonParse given) why sure is good
named-apart verb.JsonStringify given why sure is good = first-apart (verb_patterns verb.JsonStringify given) why sure is good
named-apart verb.Label given why sure is good = first-apart (verb_patterns verb.Label given) why sure is good
named-apart verb.LeastFrequent given why sure is good = first-apart (verb_patterns verb.LeastFrequent given) why sure is good
named-apart verb.MergeFields given why sure is good = first-apart (verb_patterns verb.MergeFields given) why sure is good
named-apart verb.MostFrequent given why sure is good = first-apart (verb_patterns verb.MostFrequent given) why sure is good
named-apart verb.Nest given why sure is good = first-apart (verb_patterns verb.Nest given) why sure is good
named-apart verb.Nothing given why sure is good = first-apart (verb_patterns verb.Nothing given) why sure is good
named-apart verb.Regularize given why sure is good = first-apart (verb_patterns verb.Regularize given) why sure is good
named-apart verb.Rename given why sure is good = first-apart (verb_patterns verb.Rename given) why sure is good
named-apart verb.Reorder given why sure is good = first-apart (verb_patterns verb.Reorder given) why sure is good
named-apart verb.Repeat given why sure is good = first-apart (verb_patterns verb.Repeat given) why sure is good
named-apart verb.Reshape given why sure is good = first-apart (verb_patterns verb.Reshape given) why sure is good
named-apart verb.Sec2Gmt given why sure is good = first-apart (verb_patterns verb.Sec2Gmt given) why sure is good
named-apart verb.Sec2GmtDate given why sure is good = first-apart (verb_patterns verb.Sec2GmtDate given) why sure is good
named-apart verb.Sort given why sure is good = first-apart (verb_patterns verb.Sort given) why sure is good
named-apart verb.SortWithinRecords given why sure is good = first-apart (verb_patterns verb.SortWithinRecords given) why sure is good
named-apart verb.Sparsify given why sure is good = first-apart (verb_patterns verb.Sparsify given) why sure is good
named-apart verb.Ssub given why sure is good = first-apart (verb_patterns verb.Ssub given) why sure is good
named-apart verb.Stats1 given why sure is good = first-apart (verb_patterns verb.Stats1 given) why sure is good
named-apart verb.Step given why sure is good = first-apart (verb_patterns verb.Step given) why sure is good
named-apart verb.Sub given why sure is good = first-apart (verb_patterns verb.Sub given) why sure is good
named-apart verb.Tac given why sure is good = first-apart (verb_patterns verb.Tac given) why sure is good
named-apart verb.Tail given why sure is good = first-apart (verb_patterns verb.Tail given) why sure is good
named-apart verb.Template given why sure is good = first-apart (verb_patterns verb.Template given) why sure is good
named-apart verb.Top given why sure is good = first-apart (verb_patterns verb.Top given) why sure is good
named-apart verb.Unflatten given why sure is good = first-apart (verb_patterns verb.Unflatten given) why sure is good
named-apart verb.Uniq given why sure is good = first-apart (verb_patterns verb.Uniq given) why sure is good
named-apart verb.Unspace given why sure is good = first-apart (verb_patterns verb.Unspace given) why sure is good
named-apart verb.Unsparsify given why sure is good = first-apart (verb_patterns verb.Unsparsify given) why sure is good

named-one : (name : VerbName) (given : VerbWords) (why other : Refusal) → IsSure why → IsSure other → IsRefusedNamed name given why → IsRefusedNamed name given other → why ≡ other
named-one verb.Seqgen given why other sure certain is same = same-refusal why other (is.0 ∙ sym same.0) (is.1 ∙ sym same.1)
named-one verb.Altkv given why other sure certain is same = first-one (verb_patterns verb.Altkv given) why other sure certain is same
named-one verb.Cat given why other sure certain is same = first-one (verb_patterns verb.Cat given) why other sure certain is same
named-one verb.Count given why other sure certain is same = first-one (verb_patterns verb.Count given) why other sure certain is same
named-one verb.CountDistinct given why other sure certain is same = first-one (verb_patterns verb.CountDistinct given) why other sure certain is same
named-one verb.CountSimilar given why other sure certain is same = first-one (verb_patterns verb.CountSimilar given) why other sure certain is same
named-one verb.Cut given why other sure certain is same = first-one (verb_patterns verb.Cut given) why other sure certain is same
named-one verb.Decimate given why other sure certain is same = first-one (verb_patterns verb.Decimate given) why other sure certain is same
named-one verb.FillDown given why other sure certain is same = first-one (verb_patterns verb.FillDown given) why other sure certain is same
named-one verb.FillEmpty given why other sure certain is same = first-one (verb_patterns verb.FillEmpty given) why other sure certain is same
named-one verb.Flatten given why other sure certain is same = first-one (verb_patterns verb.Flatten given) why other sure certain is same
named-one verb.Gap given why other sure certain is same = first-one (verb_patterns verb.Gap given) why other sure certain is same
named-one verb.Grep given why other sure certain is same = first-one (verb_patterns verb.Grep given) why other sure certain is same
named-one verb.GroupBy given why other sure certain is same = first-one (verb_patterns verb.GroupBy given) why other sure certain is same
named-one verb.GroupLike given why other sure certain is same = first-one (verb_patterns verb.GroupLike given) why other sure certain is same
named-one verb.Gsub given why other sure certain is same = first-one (verb_patterns verb.Gsub given) why other sure certain is same
named-one verb.HavingFields given why other sure certain is same = first-one (verb_patterns verb.HavingFields given) why other sure certain is same
named-one verb.Head given why other sure certain is same = first-one (verb_patterns verb.Head given) why other sure certain is same
named-one verb.Join given why other sure certain is same = first-one (verb_patterns verb.Join given) why other sure certain is same
named-one verb.JsonParse given why other sure certain is same = first-one (verb_patterns verb.JsonParse given) why other sure certain is same
named-one verb.JsonStringify given why other sure certain is same = first-one (verb_patterns verb.JsonStringify given) why other sure certain is same
named-one verb.Label given why other sure certain is same = first-one (verb_patterns verb.Label given) why other sure certain is same
named-one verb.LeastFrequent given why other sure certain is same = first-one (verb_patterns verb.LeastFrequent given) why other sure certain is same
named-one verb.MergeFields given why other sure certain is same = first-one (verb_patterns verb.MergeFields given) why other sure certain is same
named-one verb.MostFrequent given why other sure certain is same = first-one (verb_patterns verb.MostFrequent given) why other sure certain is same
named-one verb.Nest given why other sure certain is same = first-one (verb_patterns verb.Nest given) why other sure certain is same
named-one verb.Nothing given why other sure certain is same = first-one (verb_patterns verb.Nothing given) why other sure certain is same
named-one verb.Regularize given why other sure certain is same = first-one (verb_patterns verb.Regularize given) why other sure certain is same
named-one verb.Rename given why other sure certain is same = first-one (verb_patterns verb.Rename given) why other sure certain is same
named-one verb.Reorder given why other sure certain is same = first-one (verb_patterns verb.Reorder given) why other sure certain is same
named-one verb.Repeat given why other sure certain is same = first-one (verb_patterns verb.Repeat given) why other sure certain is same
named-one verb.Reshape given why other sure certain is same = first-one (verb_patterns verb.Reshape given) why other sure certain is same
named-one verb.Sec2Gmt given why other sure certain is same = first-one (verb_patterns verb.Sec2Gmt given) why other sure certain is same
named-one verb.Sec2GmtDate given why other sure certain is same = first-one (verb_patterns verb.Sec2GmtDate given) why other sure certain is same
named-one verb.Sort given why other sure certain is same = first-one (verb_patterns verb.Sort given) why other sure certain is same
named-one verb.SortWithinRecords given why other sure certain is same = first-one (verb_patterns verb.SortWithinRecords given) why other sure certain is same
named-one verb.Sparsify given why other sure certain is same = first-one (verb_patterns verb.Sparsify given) why other sure certain is same
named-one verb.Ssub given why other sure certain is same = first-one (verb_patterns verb.Ssub given) why other sure certain is same
named-one verb.Stats1 given why other sure certain is same = first-one (verb_patterns verb.Stats1 given) why other sure certain is same
named-one verb.Step given why other sure certain is same = first-one (verb_patterns verb.Step given) why other sure certain is same
named-one verb.Sub given why other sure certain is same = first-one (verb_patterns verb.Sub given) why other sure certain is same
named-one verb.Tac given why other sure certain is same = first-one (verb_patterns verb.Tac given) why other sure certain is same
named-one verb.Tail given why other sure certain is same = first-one (verb_patterns verb.Tail given) why other sure certain is same
named-one verb.Template given why other sure certain is same = first-one (verb_patterns verb.Template given) why other sure certain is same
named-one verb.Top given why other sure certain is same = first-one (verb_patterns verb.Top given) why other sure certain is same
named-one verb.Unflatten given why other sure certain is same = first-one (verb_patterns verb.Unflatten given) why other sure certain is same
named-one verb.Uniq given why other sure certain is same = first-one (verb_patterns verb.Uniq given) why other sure certain is same
named-one verb.Unspace given why other sure certain is same = first-one (verb_patterns verb.Unspace given) why other sure certain is same
named-one verb.Unsparsify given why other sure certain is same = first-one (verb_patterns verb.Unsparsify given) why other sure certain is same

-- a verb that others precede
if-apart : (n : ℕ) (given : VerbWords) (why : Refusal) (t : Bool) → nat_lt n 64 ≡ t → IsSure why → IsRefusedIf t given why → IsGoodAfter n given → ⊥
if-apart n given why true few sure is good = named-apart given.verb given why sure is good.1
if-apart n given why false many sure is good = let least = ltb-false n 64 many in omega (arith, least, good.0)

if-one : (given : VerbWords) (why other : Refusal) (t : Bool) → IsSure why → IsSure other → IsRefusedIf t given why → IsRefusedIf t given other → why ≡ other
if-one given why other true sure certain is same = named-one given.verb given why other sure certain is same
if-one given why other false sure certain is same = is ∙ sym same

verbs-apart : (n : ℕ) (verbs : List VerbWords) (why : Refusal) → IsSure why → IsFirstRefusedAfter n verbs why → AreGoodAfter n verbs → ⊥
verbs-apart n [] why sure is good = is
verbs-apart n (given ∷ verbs) why sure (inl is) good = if-apart n given why (nat_lt n 64) refl sure is good.0
verbs-apart n (given ∷ verbs) why sure (inr is) good = verbs-apart (n + 1) verbs why sure is.1 good.1

verbs-one : (n : ℕ) (verbs : List VerbWords) (why other : Refusal) → IsSure why → IsSure other → IsFirstRefusedAfter n verbs why → IsFirstRefusedAfter n verbs other → why ≡ other
verbs-one n [] why other sure certain is same = absurd is
verbs-one n (given ∷ verbs) why other sure certain (inl is) (inl same) = if-one given why other (nat_lt n 64) sure certain is same
verbs-one n (given ∷ verbs) why other sure certain (inl is) (inr same) = absurd (if-apart n given why (nat_lt n 64) refl sure is same.0)
verbs-one n (given ∷ verbs) why other sure certain (inr is) (inl same) = absurd (if-apart n given other (nat_lt n 64) refl certain same is.0)
verbs-one n (given ∷ verbs) why other sure certain (inr is) (inr same) = verbs-one (n + 1) verbs why other sure certain is.1 same.1

-- a verb whose words aren't all there
part-if-apart : (n : ℕ) (given : VerbWords) (why : Refusal) (t : Bool) → nat_lt n 64 ≡ t → IsSure why → IsRefusedPartIf t given why → IsGoodPartial n (Some given) → ⊥
part-if-apart n given why true few sure is good = first-apart (patterns_so_far given.verb given) why sure is good.1
part-if-apart n given why false many sure is good = let least = ltb-false n 64 many in omega (arith, least, good.0)

part-apart : (n : ℕ) (partial : Option VerbWords) (why : Refusal) → IsSure why → IsRefusedPartial n partial why → IsGoodPartial n partial → ⊥
part-apart n None why sure is good = is
part-apart n (Some given) why sure is good = part-if-apart n given why (nat_lt n 64) refl sure is good

part-if-one : (given : VerbWords) (why other : Refusal) (t : Bool) → IsSure why → IsSure other → IsRefusedPartIf t given why → IsRefusedPartIf t given other → why ≡ other
part-if-one given why other true sure certain is same = first-one (patterns_so_far given.verb given) why other sure certain is same
part-if-one given why other false sure certain is same = is ∙ sym same

part-one : (n : ℕ) (partial : Option VerbWords) (why other : Refusal) → IsSure why → IsSure other → IsRefusedPartial n partial why → IsRefusedPartial n partial other → why ≡ other
part-one n None why other sure certain is same = absurd is
part-one n (Some given) why other sure certain is same = part-if-one given why other (nat_lt n 64) sure certain is same

some-none : {A : Type 0} (B : Type 0) (x : A) (o : Option A) → o ≡ Some x → o ≡ None → B
some-none B x o some none = absurd (let e : Some x ≡ None = sym some ∙ none in cc)

some-one : {A : Type 0} (x y : A) (o : Option A) → o ≡ Some x → o ≡ Some y → x ≡ y
some-one x y o one other = let e : Some x ≡ Some y = sym one ∙ other in cc

-- words that are refused aren't accepted
pub line-apart : (line : Line) (why : Refusal) → IsSure why → IsRefused line why → IsAccepted line → ⊥
line-apart line why sure (inl is) accepted = verbs-apart 0 line.verbs why sure is accepted.good.0
line-apart line why sure (inr (good, inl is)) accepted = part-apart (length line.verbs) line.partial why sure is accepted.good.1
line-apart line why sure (inr (good, inr (part, inl is))) accepted = some-none ⊥ why line.refusal is accepted.whole
line-apart line why sure (inr (good, inr (part, inr is))) accepted = some-none ⊥ why.word (clash_in line) is.2 accepted.clear

-- words are refused in one way
pub line-one : (line : Line) (why other : Refusal) → IsSure why → IsSure other → IsRefused line why → IsRefused line other → why ≡ other
line-one line why other sure certain (inl is) (inl same) = verbs-one 0 line.verbs why other sure certain is same
line-one line why other sure certain (inl is) (inr same) = absurd (verbs-apart 0 line.verbs why sure is same.0)
line-one line why other sure certain (inr is) (inl same) = absurd (verbs-apart 0 line.verbs other certain same is.0)
line-one line why other sure certain (inr (good, inl is)) (inr (fine, inl same)) = part-one (length line.verbs) line.partial why other sure certain is same
line-one line why other sure certain (inr (good, inl is)) (inr (fine, inr same)) = absurd (part-apart (length line.verbs) line.partial why sure is same.0)
line-one line why other sure certain (inr (good, inr is)) (inr (fine, inl same)) = absurd (part-apart (length line.verbs) line.partial other certain same is.0)
line-one line why other sure certain (inr (good, inr (part, inl is))) (inr (fine, inr (whole, inl same))) = some-one why other line.refusal is same
line-one line why other sure certain (inr (good, inr (part, inl is))) (inr (fine, inr (whole, inr same))) = some-none (why ≡ other) why line.refusal is same.0
line-one line why other sure certain (inr (good, inr (part, inr is))) (inr (fine, inr (whole, inl same))) = some-none (why ≡ other) other line.refusal same is.0
line-one line why other sure certain (inr (good, inr (part, inr is))) (inr (fine, inr (whole, inr same))) =
    same-refusal why other (some-one why.word other.word (clash_in line) is.2 same.2) (is.1 ∙ sym same.1)

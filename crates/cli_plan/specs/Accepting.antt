-- Which command lines are accepted, and which words are refused, beyond the grammar: patterns and numbers of verbs, the
-- number of verbs, and words that contradict each other.
use Rattle.std.specs.Prelude.{◌≡◌, ◌⊎◌, ℕ, ◌+◌, ◌<◌, nat_lt, Bool, true, false, not, ◌&&◌, if◌then◌else◌, List, [], ◌∷◌, length, Option, Some, None}
use Rattle.mlr_event.specs.declared.refusal.Refusal.{Refusal}
use Rattle.mlr_event.specs.declared.refusal.Why.TheVariants.{Clash, TooManyVerbs}
use Rattle.cli_grammar.specs.declared.given.Given.{Given}
use Rattle.cli_grammar.specs.declared.given.VerbWords.{VerbWords}
use Rattle.cli_grammar.specs.declared.line.Line.{Line}
use Rattle.cli_grammar.specs.declared.verb_table.VerbName.{VerbName}
use Rattle.cli_grammar.specs.declared.verb_table.VerbName.TheVariants as verb
use Rattle.cli_verbs.specs.Clash.{clash_of}
use Rattle.cli_verbs.specs.PatternWords.{AreGoodPatterns, IsFirstRefused}
use Rattle.cli_verbs.specs.Verbs.{IsGoodVerb, IsRefusedVerb, patterns_so_far}
use Rattle.cli_plan.specs.Clashes.{comment_clash}
use Rattle.cli_plan.specs.declared.settings.Settings.{Settings}
use Rattle.cli_plan.specs.Settings.{settings_in}

-- the verb after the sixty-fourth is refused
abbrev pub IsExcess : VerbWords → Refusal → Type 0
IsExcess verb why = why ≡ (record { word = verb.number; why = TooManyVerbs })

-- a verb whose words have a meaning, and one that is refused, where `n` verbs come before it
abbrev pub IsGoodAfter : ℕ → VerbWords → Type 0
IsGoodAfter n verb = (n < 64) × IsGoodVerb verb

abbrev pub IsRefusedIf : Bool → VerbWords → Refusal → Type 0
IsRefusedIf true verb why = IsRefusedVerb verb why
IsRefusedIf false verb why = IsExcess verb why

abbrev pub IsRefusedAfter : ℕ → VerbWords → Refusal → Type 0
IsRefusedAfter n verb why = IsRefusedIf (nat_lt n 64) verb why

abbrev pub AreGoodAfter : ℕ → List VerbWords → Type 0
AreGoodAfter n [] = Unit {0}
AreGoodAfter n (verb ∷ verbs) = IsGoodAfter n verb × AreGoodAfter (n + 1) verbs

-- the first verb that is refused is refused so
abbrev pub IsFirstRefusedAfter : ℕ → List VerbWords → Refusal → Type 0
IsFirstRefusedAfter n [] why = ⊥
IsFirstRefusedAfter n (verb ∷ verbs) why = IsRefusedAfter n verb why ⊎ (IsGoodAfter n verb × IsFirstRefusedAfter (n + 1) verbs why)

-- the same of the verb whose words aren't all there
abbrev pub IsGoodPartial : ℕ → Option VerbWords → Type 0
IsGoodPartial n None = Unit {0}
IsGoodPartial n (Some verb) = (n < 64) × AreGoodPatterns (patterns_so_far verb.verb verb)

abbrev pub IsRefusedPartIf : Bool → VerbWords → Refusal → Type 0
IsRefusedPartIf true verb why = IsFirstRefused (patterns_so_far verb.verb verb) why
IsRefusedPartIf false verb why = IsExcess verb why

abbrev pub IsRefusedPartial : ℕ → Option VerbWords → Refusal → Type 0
IsRefusedPartial n None why = ⊥
IsRefusedPartial n (Some verb) why = IsRefusedPartIf (nat_lt n 64) verb why

-- whether a verb is a source
abbrev pub is_source : VerbName → Bool
is_source verb.Seqgen = true
is_source _ = false

-- the number of the first word of a verb that contradicts another: a source has to be the first verb
abbrev pub clash_after : Bool → VerbWords → Option ℕ
clash_after is_first verb = if not is_first && is_source verb.verb then Some verb.number else clash_of verb

abbrev pub clash_among : Bool → List VerbWords → Option ℕ
clash_among is_first [] = None
clash_among is_first (verb ∷ verbs) = elim (clash_after is_first verb) [ Some number ↦ Some number | None ↦ clash_among false verbs ]

-- the number of the first word that contradicts another: one of a flag, or else of a verb
abbrev pub clash_with : List Given → Settings → List VerbWords → Option ℕ
clash_with flags settings verbs = elim (comment_clash flags settings) [ Some number ↦ Some number | None ↦ clash_among true verbs ]

abbrev pub clash_in : Line → Option ℕ
clash_in line = clash_with line.flags (settings_in line.flags) line.verbs

-- all words of a line that were read have a meaning by themselves
abbrev pub IsGoodLine : Line → Type 0
IsGoodLine line = AreGoodAfter 0 line.verbs × IsGoodPartial (length line.verbs) line.partial

-- The line is accepted: it is one by the grammar, its words have a meaning, and none contradicts another.
pub record IsAccepted (line : Line) : Type 0 where
  pub whole : line.refusal ≡ None
  pub good : IsGoodLine line
  pub clear : clash_in line ≡ None

-- The words are refused at the first that has no meaning, or that the grammar doesn't allow in its place, whichever is
-- read first; and only where there is none, at one that contradicts another.
abbrev pub IsRefused : Line → Refusal → Type 0
IsRefused line why =
    IsFirstRefusedAfter 0 line.verbs why
    ⊎ (AreGoodAfter 0 line.verbs × (IsRefusedPartial (length line.verbs) line.partial why
    ⊎ (IsGoodPartial (length line.verbs) line.partial × ((line.refusal ≡ Some why)
    ⊎ ((line.refusal ≡ None) × (why.why ≡ Clash) × (clash_in line ≡ Some why.word))))))

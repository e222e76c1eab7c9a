use Rattle.std.proofs.Common.{◌≡◌, ℕ, Bool, true, false, List, Option, Some, None, refl, ap, sym, ◌∙◌}
use Rattle.std.specs.Prelude.{if◌then◌else◌}
use Rattle.mlr_event.specs.declared.refusal.Why.TheVariants.{UnknownFlag}
use Rattle.cli_grammar.specs.declared.flag_table.Setting.{Setting}
use Rattle.cli_grammar.specs.declared.kind.Kind.{Kind}
use Rattle.cli_grammar.specs.declared.line.Next.{Next}
use Rattle.cli_grammar.specs.declared.line.Next.TheVariants as next
use Rattle.cli_grammar.specs.Flags.{flag_named}
use Rattle.cli_grammar.specs.Reading.{after_flag_name, after_flags, after_then, is_dashed, name_at, refusal}
use Rattle.cli_grammar.proofs.line.after_flags.Goals as goal

abbrev by : ℕ → List ℕ → Option (Kind × Setting) → Bool → Next
by n word o dashed = elim o [ Some row ↦ after_flag_name (name_at n word) row.0 | None ↦ if dashed then next.Refused None (refusal n UnknownFlag) else after_then n word ]

-- what a word is, by the row that it names, and by whether it looks like an option
same : (n : ℕ) (word : List ℕ) (found o : Option (Kind × Setting)) (test dashed : Bool) (result : Next) → found ≡ flag_named word → found ≡ o → test ≡ is_dashed word → test ≡ dashed
    → result ≡ by n word o dashed → result ≡ after_flags n word
same n word found o test dashed result is_found is_o is_test is_d is =
    is ∙ ap (by n word o) (sym is_d) ∙ ap (λ o. by n word o test) (sym is_o) ∙ ap (by n word found) is_test ∙ ap (λ o. by n word o (is_dashed word)) is_found

pub returns-in-None : goal.returns-in-None
returns-in-None c =
    same c.args.number c.args.word.now c.flag_named.result None c.is_dashed.result true c.refused_here.result c.flag_named.ensures c.in-None.is c.is_dashed.ensures c.if-is_dashed.true
    c.refused_here.ensures

pub returns-in-None-2 : goal.returns-in-None-2
returns-in-None-2 c =
    same c.args.number c.args.word.now c.flag_named.result None c.is_dashed.result false c.after_then.result c.flag_named.ensures c.in-None.is c.is_dashed.ensures c.if-is_dashed.false
    c.after_then.ensures

pub returns-in_ok-name_at-in-Some : goal.returns-in_ok-name_at-in-Some
returns-in_ok-name_at-in-Some c =
    let row : Kind × Setting = (c.in-Some.kind, c.in-Some.field-0-1) in
    same c.args.number c.args.word.now c.flag_named.result (Some row) (is_dashed c.args.word.now) (is_dashed c.args.word.now) c.after_flag_name.result c.flag_named.ensures c.in-Some.is refl refl
    (c.after_flag_name.ensures ∙ ap (λ flag. after_flag_name flag c.in-Some.kind) c.in_ok-name_at-in-Some.ensures)

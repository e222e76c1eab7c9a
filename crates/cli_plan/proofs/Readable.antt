-- What a command reads can be read: its separators have bytes.
use Rattle.std.proofs.Common.{◌≡◌, ℕ, Bool, true, false, List, [], ◌∷◌, refl}
use Rattle.std.specs.Prelude.{Option, Some, None, codes, if◌then◌else◌, not, ◌||◌}
use Rattle.std.specs.Option.{option_and_then}
use Rattle.std.specs.Str.{bytes_eq}
use Rattle.mlr_event.specs.declared.options.Format.{Format}
use Rattle.mlr_event.specs.declared.options.Format.TheVariants.{Csv, Tsv, Nidx}
use Rattle.mlr_event.specs.declared.options.ReadOpts.{ReadOpts}
use Rattle.mlr_event.specs.Defaults.{default_separator}
use Rattle.read_files.specs.Represents.{can_read}
use Rattle.cli_grammar.specs.declared.flag_table.Setting.{Setting}
use Rattle.cli_grammar.specs.declared.flag_table.Setting.TheVariants as set
use Rattle.cli_grammar.specs.declared.given.Given.{Given}
use Rattle.cli_grammar.specs.declared.given.VerbWords.{VerbWords}
use Rattle.cli_grammar.specs.Kinds.{format_named}
use Rattle.cli_grammar.specs.Options.{last}
use Rattle.cli_grammar.specs.Separators.{is_reserved, is_short, named_separator, separator_in}
use Rattle.cli_shape.specs.Join.{left_read, read_in}
use Rattle.cli_plan.specs.declared.settings.Settings.{Settings}
use Rattle.cli_plan.specs.Flags.{setting_of, word_of}
use Rattle.cli_plan.specs.Options.{flatsep_of, given_or, read_of}
use Rattle.cli_plan.specs.Settings.{after_flag, after_flags, applied, plain, settings_in}

abbrev pub has_bytes : List ℕ → Bool
has_bytes [] = false
has_bytes (b ∷ text) = true

-- a separator that is given has bytes
abbrev pub is_usable : Option (List ℕ) → Bool
is_usable None = true
is_usable (Some text) = has_bytes text

pub record IsUsable (given : Option (List ℕ)) : Type 0 where
  pub yes : is_usable given ≡ true

of_text : (b : ℕ) (text : List ℕ) → IsUsable (Some (b ∷ text))
of_text b text = record { yes = refl }

of_none : IsUsable None
of_none = record { yes = refl }

of_choice : (test : Bool) {this other : Option (List ℕ)} → IsUsable this → IsUsable other → IsUsable (if test then this else other)
of_choice true h k = h
of_choice false h k = k

of_named : (word : List ℕ) → IsUsable (named_separator word)
of_named word =
    of_choice (bytes_eq word (codes "colon")) (of_text _ _) (
    of_choice (bytes_eq word (codes "comma")) (of_text _ _) (
    of_choice (bytes_eq word (codes "equals")) (of_text _ _) (
    of_choice (bytes_eq word (codes "pipe")) (of_text _ _) (
    of_choice (bytes_eq word (codes "semicolon")) (of_text _ _) (
    of_choice (bytes_eq word (codes "slash")) (of_text _ _) (
    of_choice (bytes_eq word (codes "space")) (of_text _ _) (
    of_choice (bytes_eq word (codes "tab") || bytes_eq word (codes "\\t")) (of_text _ _) of_none)))))))

of_itself : (word : List ℕ) → IsUsable (if is_reserved word || not (is_short word) then None else Some word)
of_itself [] = record { yes = refl }
of_itself (b ∷ word) = of_choice (is_reserved (b ∷ word) || not (is_short (b ∷ word))) of_none (of_text b word)

of_first : {this other : Option (List ℕ)} → IsUsable this → IsUsable other → IsUsable (elim this [ Some text ↦ Some text | None ↦ other ])
of_first {this = None} h k = k
of_first {this = Some text} h k = h

pub of_separator : (word : List ℕ) → IsUsable (separator_in word)
of_separator word = of_first (of_named word) (of_itself word)

has_bytes-given : (given : Option (List ℕ)) (default : List ℕ) → has_bytes default ≡ true → IsUsable given → has_bytes (given_or default given) ≡ true
has_bytes-given None default h k = h
has_bytes-given (Some text) default h k = k.yes

has_bytes-default : (fmt : Format) → has_bytes (default_separator fmt) ≡ true
has_bytes-default Tsv = refl
has_bytes-default Nidx = refl
has_bytes-default _ = refl

can_read-bytes : (fmt : Format) (ifs ips : List ℕ) (opts : ReadOpts) → has_bytes ifs ≡ true → has_bytes ips ≡ true → can_read (record opts { format = fmt; ifs = ifs; ips = ips }) ≡ true
can_read-bytes fmt [] ips opts h k = cc
can_read-bytes fmt (b ∷ ifs) [] opts h k = cc
can_read-bytes Csv (b ∷ ifs) (c ∷ ips) opts h k = refl
can_read-bytes _ (b ∷ ifs) (c ∷ ips) opts h k = refl

-- a left file can be read where the main inputs can
can_read-format : (read : ReadOpts) (o : Option Format) → can_read read ≡ true → can_read (elim o [ Some fmt ↦ read_in read fmt | None ↦ read ]) ≡ true
can_read-format read None h = h
can_read-format read (Some fmt) h = can_read-bytes fmt (default_separator fmt) (codes "=") read (has_bytes-default fmt) refl

pub can_read-left : (read : ReadOpts) (given : VerbWords) → can_read read ≡ true → can_read (left_read read given) ≡ true
can_read-left read given h = can_read-format read (option_and_then format_named (last (codes "-i") given.options)) h

-- separators that are given have bytes
abbrev pub AreUsable : Settings → Type 0
AreUsable settings = IsUsable settings.ifs × IsUsable settings.ips × IsUsable settings.flatsep

pub can_read-usable : (settings : Settings) → AreUsable settings → can_read (read_of settings) ≡ true
can_read-usable settings h =
    can_read-bytes settings.input _ _ (read_of settings) (has_bytes-given settings.ifs _ (has_bytes-default settings.input) h.0) (has_bytes-given settings.ips _ refl h.1)

kept : (settings : Settings) (setting : Setting) (word : List ℕ) → AreUsable settings → AreUsable (applied settings setting word)
kept settings set.Ifs word h = (of_separator word, h.1, h.2)
kept settings set.Fs word h = (of_separator word, h.1, h.2)
kept settings set.Ips word h = (h.0, of_separator word, h.2)
kept settings set.Ps word h = (h.0, of_separator word, h.2)
kept settings set.Flatsep word h = (h.0, h.1, of_separator word)
kept settings _ word h = h

kept-any : (sets : Option Setting) (settings : Settings) (word : List ℕ) → AreUsable settings → AreUsable (elim sets [ Some setting ↦ applied settings setting word | None ↦ settings ])
kept-any None settings word h = h
kept-any (Some setting) settings word h = kept settings setting word h

kept-flags : (flags : List Given) (settings : Settings) → AreUsable settings → AreUsable (after_flags settings flags)
kept-flags [] settings h = h
kept-flags (flag ∷ flags) settings h = kept-flags flags (after_flag settings flag) (kept-any (setting_of flag) settings (word_of flag) h)

-- whatever the flags of a command line are
pub can_read-settings : (flags : List Given) → can_read (read_of (settings_in flags)) ≡ true
can_read-settings flags = can_read-usable (settings_in flags) (kept-flags flags plain (of_none, of_none, of_none))

-- the separator of flattened names has bytes, too
pub flatsep-bytes : (flags : List Given) → has_bytes (flatsep_of (settings_in flags)) ≡ true
flatsep-bytes flags = has_bytes-given (settings_in flags).flatsep (codes ".") refl (kept-flags flags plain (of_none, of_none, of_none)).2

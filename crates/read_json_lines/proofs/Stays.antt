-- The items of each longer text begin with those that its first bytes fix.
use Rattle.std.proofs.Common.{◌≡◌, ℕ, zero, suc, ◌+◌, ◌-◌, ◌<◌, ◌≤◌, Bool, true, false, cond, List, [], ◌∷◌, ◌++◌, length, drop, Option, Some, None, inl, inr, refl, ap, ap₂, sym, subst, ◌∙◌, arith}
use Rattle.std.proofs.lemmas.Bool.{true≢false, cases_Bool, cases_lt, le-ltb}
use Rattle.std.proofs.lemmas.List.{append-nil, drop_all, length-append, length-drop, drop-append-le}
use Rattle.std.specs.List.{prefix_len, take_while}
use Rattle.mlr_spec.specs.declared.infer.InferOpts.{InferOpts}
use Rattle.mlr_spec.specs.JsonTokens.{Piece, Lexeme, blank, mark, word, quote, piece, Scanned, found, begun, bad, is_word_byte, lexeme_outside, lexeme_inside, Token, sign, text_token, token_of_word, decoded}
use Rattle.mlr_json.specs.Reading.{is_of_string}
use Rattle.mlr_json.proofs.Left.{found-of_string}
use Rattle.mlr_json.proofs.Stable.{stays-found}
use Rattle.mlr_event.specs.declared.names.FileRef.{FileRef}
use Rattle.mlr_event.specs.Reading as reading
use Rattle.mlr_event.specs.Reading.{Item, fields}
use Rattle.read_json_lines.specs.declared.listing.Trouble.{Trouble}
use Rattle.read_json_lines.specs.declared.listing.Trouble.TheVariants.{Syntax}
use Rattle.read_json_lines.specs.Records as records
use Rattle.read_json_lines.specs.Records.{State, goes, gives, fails, turn, goes_on, stops, fault_of, takes_word, end_items, items_of}
use Rattle.read_json_lines.specs.Json.{Known, ending, items_in, tokens_known}
use Rattle.read_json_lines.specs.Streams.{and_token, or_stop, outside, inside, pieces}
use Rattle.read_json_lines.proofs.Lexing.{left-begun, left-bad, stopped_at, ending-stops, nothing-between, nothing-inside}
use Rattle.read_json_lines.proofs.Outside.{outside-mark, outside-one-blank, outside-quote, outside-word, outside-bad, inside-quote, inside-piece, inside-stops, outside-open}
use Rattle.read_json_lines.proofs.Blanks.{outside-blank, outside-bad-stays, no-piece}
use Rattle.read_json_lines.proofs.Raws.{inside-bad-stays}
use Rattle.read_json_lines.proofs.Texts.{text-either}
use Rattle.mlr_json.proofs.Within.{IsPrefixWithin, prefix-within}
use Rattle.read_json_lines.proofs.Prefixes.{goes-following}
use Rattle.read_json_lines.proofs.NoWords.{no-word}
use Rattle.read_json_lines.proofs.WordPrefixes.{word-still}

abbrev pub IsPrefix : List Item → List Item → Type 0
IsPrefix a b = (more : List Item) × (b ≡ a ++ more)

pub prefix-none : (a b : List Item) → a ≡ [] → IsPrefix a b
prefix-none a b none = (b, ap (λ x. x ++ b) (sym none))

pub prefix-same : (a b : List Item) → b ≡ a → IsPrefix a b
prefix-same a b same = ([], same ∙ sym (append-nil a))

pub prefix-by : (a a2 b b2 : List Item) → a ≡ a2 → b ≡ b2 → IsPrefix a2 b2 → IsPrefix a b
prefix-by a a2 b b2 a_is b_is prefix = (prefix.0, b_is ∙ prefix.1 ∙ ap (λ x. x ++ prefix.0) (sym a_is))

abbrev stop_at : Bool → ℕ → ℕ → Known
stop_at whole end place = record { tokens = []; ending = ending whole end (Some place) }

module _ (file : FileRef) (place : ℕ) (rest more : Known) where
  abbrev by_turn : Known → records.Turn → List Item
  by_turn tokens t = elim t [
    | goes next ↦ items_of file next tokens.tokens tokens.ending
    | gives pairs next ↦ fields pairs ∷ items_of file next tokens.tokens tokens.ending
    | fails trouble ↦ reading.fault (fault_of file trouble place) ∷ []
  ]

  -- the items of one token, then those of the tokens after it
  token-prefix : (s : State) (token : Token) → ((next : State) → IsPrefix (items_in file next rest) (items_in file next more))
      → IsPrefix (items_in file s (and_token place token rest)) (items_in file s (and_token place token more))
  token-prefix s token following = by (turn s token)
    where
      by : (t : records.Turn) → IsPrefix (by_turn rest t) (by_turn more t)
      by (goes next) = following next
      by (gives pairs next) = ((following next).0, ap (λ x. fields pairs ∷ x) (following next).1)
      by (fails trouble) = ([], refl)

-- a string whose text continues
text-fails : (file : FileRef) (s : State) (place : ℕ) (text : List ℕ) (rest : Known) (trouble : Trouble) → turn s (text_token text) ≡ fails trouble
    → items_in file s (and_token place (text_token text) rest) ≡ reading.fault (fault_of file trouble place) ∷ []
text-fails file s place text rest trouble is = ap (by_turn file place rest rest rest) is

module _ (whole : Bool) (infer : InferOpts) (file : FileRef) (rest : List ℕ) where
  -- a text that stops at a place
  stop-prefix : (s : State) (end wide place : ℕ) → end ≤ wide → IsPrefix (items_in file s (stop_at false end place)) (items_in file s (stop_at whole wide place))
  stop-prefix s end wide place less = elim (cases_lt place end) [
    | inl below ↦ prefix-same (items_in file s (stop_at false end place)) (items_in file s (stop_at whole wide place)) (ap (end_items file s) (ending-stops whole wide place (omega (arith, below, less)) ∙ sym (ending-stops false end place below)))
    | inr following ↦ prefix-none (items_in file s (stop_at false end place)) (items_in file s (stop_at whole wide place)) (ap (λ b. end_items file s (cond b (stops place) goes_on)) (le-ltb place end following))
  ]

  -- the extent of a string: up to its closing quote, up to a bad byte, or beyond the bytes so far
  data StringPrefix (end wide : ℕ) (text : List ℕ) : Type 0 where
    closed : (following : List ℕ) → length following < length text → pieces whole wide (text ++ rest) ≡ pieces false end text
        → inside false infer end text ≡ outside false infer end following → inside whole infer wide (text ++ rest) ≡ outside whole infer wide (following ++ rest) → StringPrefix end wide text
    stopped : (place : ℕ) → pieces whole wide (text ++ rest) ≡ pieces false end text → inside false infer end text ≡ stop_at false end place → inside whole infer wide (text ++ rest) ≡ stop_at whole wide place → StringPrefix end wide text
    open_yet : inside false infer end text ≡ stop_at false end end → StringPrefix end wide text

  stops-here : (end : ℕ) (text : List ℕ) → length text ≤ end → lexeme_inside text ≡ begun → inside false infer end text ≡ stop_at false end end
  stops-here end text fits is =
      let here : end - length text + length text ≡ end = omega (arith, fits) in
      (inside-stops false infer end text fits (ending false end (Some end)) (left-begun false true end text is ∙ ap (λ p. stopped_at false end (Some p)) here)).1

  wide-fits : (text : List ℕ) (end wide : ℕ) → length text ≤ end → wide ≡ end + length rest → length (text ++ rest) ≤ wide
  wide-fits text end wide fits wide_is = omega (arith, fits, wide_is, length-append text rest)

  same-place : (text : List ℕ) (end wide : ℕ) → length text ≤ end → wide ≡ end + length rest → wide - length (text ++ rest) ≡ end - length text
  same-place text end wide fits wide_is = omega (arith, fits, wide_is, length-append text rest)

  string-prefix : (n : ℕ) (text : List ℕ) (end wide : ℕ) → length text ≤ n → length text ≤ end → wide ≡ end + length rest → StringPrefix end wide text
  string-prefix n [] end wide few fits wide_is = open_yet (stops-here end [] fits nothing-inside)
  string-prefix zero (b ∷ t) end wide few fits wide_is = absurd (omega (arith, few))
  string-prefix (suc n) (b ∷ t) end wide few fits wide_is = by (λ left less fit. string-prefix n left end wide less fit wide_is) (lexeme_inside (b ∷ t)) refl
    where
      text : List ℕ
      text = b ∷ t

      big : length (text ++ rest) ≤ wide
      big = wide-fits text end wide fits wide_is

      lift : (p : Piece) (len : ℕ) → lexeme_inside text ≡ found (piece p) len → len < length text → 1 ≤ len → StringPrefix end wide (drop len text) → StringPrefix end wide text
      lift p len is below some next =
          let l = inside-piece false infer end text fits p len is in
          let r = inside-piece whole infer wide (text ++ rest) big p len (stays-found true text rest (piece p) len is (inr below)) in
          let cut : drop len (text ++ rest) ≡ drop len text ++ rest = drop-append-le len text rest (omega (arith, below)) in
          elim next [
            | closed following short same left right ↦
                closed following (omega (arith, short, length-drop len text, below)) (r.0 ∙ ap (λ x. p ∷ pieces whole wide x) cut ∙ ap (λ x. p ∷ x) same ∙ sym l.0) (l.1 ∙ left) (r.1 ∙ ap (inside whole infer wide) cut ∙ right)
            | stopped place same left right ↦
                stopped place (r.0 ∙ ap (λ x. p ∷ pieces whole wide x) cut ∙ ap (λ x. p ∷ x) same ∙ sym l.0) (l.1 ∙ left) (r.1 ∙ ap (inside whole infer wide) cut ∙ right)
            | open_yet left ↦ open_yet (l.1 ∙ left)
          ]

      by-lexeme : (again : (left : List ℕ) → length left ≤ n → length left ≤ end → StringPrefix end wide left) (l : Lexeme) (len : ℕ) → lexeme_inside text ≡ found l len → is_of_string l ≡ true → (1 ≤ len) × (len ≤ length text) → StringPrefix end wide text
      by-lexeme again quote len is of_string within =
          let l = inside-quote false infer end text fits len is in
          let r = inside-quote whole infer wide (text ++ rest) big len (stays-found true text rest quote len is (inl refl)) in
          let cut : drop len (text ++ rest) ≡ drop len text ++ rest = drop-append-le len text rest within.1 in
          closed (drop len text) (omega (arith, length-drop len text, within.0, within.1)) (r.0 ∙ sym l.0) l.1 (r.1 ∙ ap (outside whole infer wide) cut)
      by-lexeme again (piece p) len is of_string within = elim (cases_lt len (length text)) [
        | inl below ↦ lift p len is below within.0 (again (drop len text) (omega (arith, few, length-drop len text, within.0, within.1)) (omega (arith, fits, length-drop len text)))
        | inr ends ↦
            open_yet ((inside-piece false infer end text fits p len is).1 ∙ ap (inside false infer end) (drop_all len text ends) ∙ stops-here end [] (omega arith) nothing-inside)
      ]
      by-lexeme again blank len is of_string within = absurd (true≢false (sym of_string))
      by-lexeme again (mark m) len is of_string within = absurd (true≢false (sym of_string))
      by-lexeme again (word w) len is of_string within = absurd (true≢false (sym of_string))

      by : (again : (left : List ℕ) → length left ≤ n → length left ≤ end → StringPrefix end wide left) (f : Scanned) → lexeme_inside text ≡ f → StringPrefix end wide text
      by again begun is = open_yet (stops-here end text fits is)
      by again (bad k) is =
          let place = end - length text + k in
          let l = inside-stops false infer end text fits (ending false end (Some place)) (left-bad false true end text k is) in
          let r = inside-stops whole infer wide (text ++ rest) big (ending whole wide (Some place))
          (left-bad whole true wide (text ++ rest) k (inside-bad-stays text rest k is) ∙ ap (λ p. stopped_at whole wide (Some (p + k))) (same-place text end wide fits wide_is)) in
          stopped place (r.0 ∙ sym l.0) l.1 r.1
      by again (found l len) is = by-lexeme again l len is (found-of_string text l len is) (subst (IsPrefixWithin (length text)) is (prefix-within true text))

  abbrev Stays : State → ℕ → ℕ → Known → Known → Type 0
  Stays s end wide tokens more = IsPrefix (items_in file s tokens) (items_in file s more)

  token-stays : (s : State) (end wide place : ℕ) (token : Token) (tokens more : Known) → ((next : State) → Stays next end wide tokens more) → Stays s end wide (and_token place token tokens) (and_token place token more)
  token-stays s end wide place token tokens more following = token-prefix file place tokens more s token following

  -- the text of a string continues after the bytes so far
  text-stays : (s : State) (end wide place : ℕ) (text longer : List ℕ) (more : Known) → Stays s end wide (and_token place (text_token text) (stop_at false end end)) (and_token place (text_token longer) more)
  text-stays s end wide place text longer more =
      let a = items_in file s (and_token place (text_token text) (stop_at false end end)) in
      let b = items_in file s (and_token place (text_token longer) more) in
      elim (text-either s) [
        | inl on ↦ prefix-none a b (goes-following file s end place text (on text))
        | inr bad_text ↦
            prefix-same a b (text-fails file s place longer more bad_text.0 (bad_text.1 longer) ∙ sym (text-fails file s place text (stop_at false end end) bad_text.0 (bad_text.1 text)))
      ]

  word-stays : (s : State) (end wide place : ℕ) (token : Option Token) (tokens more : Known) → ((next : State) → Stays next end wide tokens more) → Stays s end wide (or_stop place token tokens) (or_stop place token more)
  word-stays s end wide place None tokens more following = prefix-same (items_in file s (or_stop place None tokens)) (items_in file s (or_stop place None more)) refl
  word-stays s end wide place (Some token) tokens more following = token-stays s end wide place token tokens more following

  pub outside-stays : (n : ℕ) (text : List ℕ) (end wide : ℕ) → length text ≤ n → length text ≤ end → wide ≡ end + length rest → (s : State) → Stays s end wide (outside false infer end text) (outside whole infer wide (text ++ rest))
  outside-stays n [] end wide few fits wide_is s =
      prefix-none (items_in file s (outside false infer end [])) (items_in file s (outside whole infer wide rest))
      (ap (λ x. items_in file s (tokens_known infer x)) (left-begun false false end [] nothing-between))
  outside-stays zero (b ∷ t) end wide few fits wide_is s = absurd (omega (arith, few))
  outside-stays (suc n) (b ∷ t) end wide few fits wide_is s = by (λ left less fit next. outside-stays n left end wide less fit wide_is next) (lexeme_outside (b ∷ t)) refl
    where
      text : List ℕ
      text = b ∷ t

      big : length (text ++ rest) ≤ wide
      big = wide-fits text end wide fits wide_is

      less : end ≤ wide
      less = omega (arith, wide_is)

      place_is : wide - length (text ++ rest) ≡ end - length text
      place_is = same-place text end wide fits wide_is

      stays-by : (tokens more : Known) → outside false infer end text ≡ tokens → outside whole infer wide (text ++ rest) ≡ more → Stays s end wide tokens more → Stays s end wide (outside false infer end text) (outside whole infer wide (text ++ rest))
      stays-by tokens more l r stays =
          prefix-by (items_in file s (outside false infer end text)) (items_in file s tokens) (items_in file s (outside whole infer wide (text ++ rest))) (items_in file s more)
          (ap (items_in file s) l) (ap (items_in file s) r) stays

      following : (again : (left : List ℕ) → length left ≤ n → length left ≤ end → (next : State) → Stays next end wide (outside false infer end left) (outside whole infer wide (left ++ rest))) (left : List ℕ) → length left < length text → (next : State) → Stays next end wide (outside false infer end left) (outside whole infer wide (left ++ rest))
      following again left short next = again left (omega (arith, few, short)) (omega (arith, fits, short)) next

      -- a word at the end of the bytes so far
      begun-stays : (w : List ℕ) (len : ℕ) → lexeme_outside text ≡ found (word w) len → length text ≤ len → Stays s end wide (outside false infer end text) (outside whole infer wide (text ++ rest))
      begun-stays w len is ends =
          let a = items_in file s (outside false infer end text) in
          let b = items_in file s (outside whole infer wide (text ++ rest)) in
          elim (cases_Bool (takes_word s)) [
            | inl takes ↦
                prefix-none a b
                (ap (items_in file s) (outside-open false infer end text fits w len is ends) ∙ ap (λ t. cond t [] (reading.fault (fault_of file Syntax (end - length text)) ∷ [])) takes)
            | inr none ↦
                prefix-same a b
                (no-word file s none whole infer wide (text ++ rest) (take_while is_word_byte (text ++ rest)) (prefix_len is_word_byte (text ++ rest)) big (word-still text rest w len is)
                ∙ ap (λ p. reading.fault (fault_of file Syntax p) ∷ []) place_is ∙ sym (no-word file s none false infer end text w len fits is))
          ]

      by-string : (again : (left : List ℕ) → length left ≤ n → length left ≤ end → (next : State) → Stays next end wide (outside false infer end left) (outside whole infer wide (left ++ rest))) (len : ℕ) → lexeme_outside text ≡ found quote len → (1 ≤ len) × (len ≤ length text) → StringPrefix end wide (drop len text) → Stays s end wide (outside false infer end text) (outside whole infer wide (text ++ rest))
      by-string again len is within string =
          let left = drop len text in
          let place = end - length text in
          let cut : drop len (text ++ rest) ≡ left ++ rest = drop-append-le len text rest within.1 in
          let l = outside-quote false infer end text fits len is in
          let r : outside whole infer wide (text ++ rest) ≡ and_token place (text_token (decoded (pieces whole wide (left ++ rest)))) (inside whole infer wide (left ++ rest)) =
          outside-quote whole infer wide (text ++ rest) big len (stays-found false text rest quote len is (inl refl))
          ∙ ap₂ (λ p x. and_token p (text_token (decoded (pieces whole wide x))) (inside whole infer wide x)) place_is cut in
          let token = text_token (decoded (pieces false end left)) in
          elim string [
            | closed after short same ll rr ↦
                stays-by (and_token place token (outside false infer end after)) (and_token place token (outside whole infer wide (after ++ rest)))
                (l ∙ ap (and_token place token) ll) (r ∙ ap₂ (λ q x. and_token place (text_token (decoded q)) x) same rr)
                (token-stays s end wide place token (outside false infer end after) (outside whole infer wide (after ++ rest)) (following again after (omega (arith, short, length-drop len text))))
            | stopped there same ll rr ↦
                stays-by (and_token place token (stop_at false end there)) (and_token place token (stop_at whole wide there))
                (l ∙ ap (and_token place token) ll) (r ∙ ap₂ (λ q x. and_token place (text_token (decoded q)) x) same rr)
                (token-stays s end wide place token (stop_at false end there) (stop_at whole wide there) (λ next. stop-prefix next end wide there less))
            | open_yet ll ↦
                stays-by (and_token place token (stop_at false end end)) (and_token place (text_token (decoded (pieces whole wide (left ++ rest)))) (inside whole infer wide (left ++ rest)))
                (l ∙ ap (and_token place token) ll) r
                (text-stays s end wide place (decoded (pieces false end left)) (decoded (pieces whole wide (left ++ rest))) (inside whole infer wide (left ++ rest)))
          ]

      by-lexeme : (again : (left : List ℕ) → length left ≤ n → length left ≤ end → (next : State) → Stays next end wide (outside false infer end left) (outside whole infer wide (left ++ rest))) (l : Lexeme) (len : ℕ) → lexeme_outside text ≡ found l len → (1 ≤ len) × (len ≤ length text) → Stays s end wide (outside false infer end text) (outside whole infer wide (text ++ rest))
      by-lexeme again blank len is within =
          stays-by (outside false infer end (drop len text)) (outside whole infer wide (drop len text ++ rest)) (outside-one-blank false infer end text fits len is) (outside-blank whole infer wide text rest len big is)
          (following again (drop len text) (omega (arith, length-drop len text, within.0, within.1)) s)
      by-lexeme again (mark m) len is within =
          let place = end - length text in
          let cut : drop len (text ++ rest) ≡ drop len text ++ rest = drop-append-le len text rest within.1 in
          stays-by (and_token place (sign m) (outside false infer end (drop len text))) (and_token place (sign m) (outside whole infer wide (drop len text ++ rest)))
          (outside-mark false infer end text fits m len is)
          (outside-mark whole infer wide (text ++ rest) big m len (stays-found false text rest (mark m) len is (inl refl)) ∙ ap₂ (λ p x. and_token p (sign m) (outside whole infer wide x)) place_is cut)
          (token-stays s end wide place (sign m) (outside false infer end (drop len text)) (outside whole infer wide (drop len text ++ rest)) (following again (drop len text) (omega (arith, length-drop len text, within.0, within.1))))
      by-lexeme again (word w) len is within = elim (cases_lt len (length text)) [
        | inl below ↦
            let place = end - length text in
            let cut : drop len (text ++ rest) ≡ drop len text ++ rest = drop-append-le len text rest within.1 in
            let some : 0 < length (drop len text) = omega (arith, length-drop len text, below) in
            let some_wide : 0 < length (drop len (text ++ rest)) = omega (arith, length-drop len (text ++ rest), length-append text rest, below) in
            stays-by (or_stop place (token_of_word infer w) (outside false infer end (drop len text))) (or_stop place (token_of_word infer w) (outside whole infer wide (drop len text ++ rest)))
            (outside-word false infer end text fits w len is some)
            (outside-word whole infer wide (text ++ rest) big w len (stays-found false text rest (word w) len is (inr below)) some_wide
            ∙ ap₂ (λ p x. or_stop p (token_of_word infer w) (outside whole infer wide x)) place_is cut)
            (word-stays s end wide place (token_of_word infer w) (outside false infer end (drop len text)) (outside whole infer wide (drop len text ++ rest))
            (following again (drop len text) (omega (arith, length-drop len text, within.0, within.1))))
        | inr ends ↦
            begun-stays w len is ends
      ]
      by-lexeme again quote len is within = by-string again len is within (string-prefix (length (drop len text)) (drop len text) end wide (omega arith) (omega (arith, fits, length-drop len text)) wide_is)
      by-lexeme again (piece p) len is within = absurd (no-piece text p len is)

      by : (again : (left : List ℕ) → length left ≤ n → length left ≤ end → (next : State) → Stays next end wide (outside false infer end left) (outside whole infer wide (left ++ rest))) (f : Scanned) → lexeme_outside text ≡ f → Stays s end wide (outside false infer end text) (outside whole infer wide (text ++ rest))
      by again begun is =
          prefix-none (items_in file s (outside false infer end text)) (items_in file s (outside whole infer wide (text ++ rest)))
          (ap (λ x. items_in file s (tokens_known infer x)) (left-begun false false end text is))
      by again (bad k) is =
          let place = end - length text + k in
          stays-by (stop_at false end place) (stop_at whole wide place) (outside-bad false infer end text fits k is)
          (outside-bad whole infer wide (text ++ rest) big k (outside-bad-stays text rest k is) ∙ ap (λ p. stop_at whole wide (p + k)) place_is)
          (stop-prefix s end wide place less)
      by again (found l len) is = by-lexeme again l len is (subst (IsPrefixWithin (length text)) is (prefix-within false text))

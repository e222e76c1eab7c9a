-- A string that ends within a text and has no escape.
use Rattle.std.proofs.Common.{◌≡◌, ℕ, ◌+◌, ◌-◌, ◌<◌, ◌≤◌, Bool, true, false, cond, List, [], ◌∷◌, ◌++◌, length, drop, inl, inr, refl, ap, ap₂, sym, subst, ◌∙◌, arith, drop-drop, is_some, ◌==◌}
use Rattle.std.proofs.lemmas.Bool.{true≢false}
use Rattle.std.specs.List.{prefix_len, take_while}
use Rattle.std.proofs.lemmas.List.{append-nil, length-append, length-drop}
use Rattle.mlr_spec.specs.declared.infer.InferOpts.{InferOpts}
use Rattle.mlr_spec.specs.Ascii.{backslash}
use Rattle.mlr_spec.specs.JsonTokens.{quote, piece, raw, found, lexeme_outside, lexeme_inside, lexeme_of_escape, is_raw, text_token, decoded}
use Rattle.mlr_json.proofs.Stable.{stays-found}
use Rattle.mlr_event.specs.declared.event.Event.{Event}
use Rattle.read_json_lines.specs.declared.stream.Stream.{Stream}
use Rattle.read_json_lines.specs.Plain.{IsPlain, starts_quoted}
use Rattle.read_json_lines.specs.Streams.{and_token, outside, inside, pieces, Takes, Turned}
use Rattle.read_json_lines.proofs.Outside.{outside-quote, inside-piece, inside-quote}
use Rattle.read_json_lines.proofs.Turning.{drop-prefix, turned-outside}

-- a quote at the start of a text ends a string
pub quote-ends : (text : List ℕ) → starts_quoted text ≡ true → lexeme_inside text ≡ found quote 1
unfolding lexeme_inside
quote-ends [] is = absurd (true≢false (sym is))
quote-ends (b ∷ text) is = ap (λ q. cond q (found quote 1) (cond (b == backslash) (lexeme_of_escape text) (found (piece (raw (take_while is_raw (b ∷ text)))) (prefix_len is_raw (b ∷ text))))) is

-- bytes and a quote
pub plain-string : (text bytes_in : List ℕ) (len : ℕ) → lexeme_inside text ≡ found (piece (raw bytes_in)) len → 1 ≤ len → len ≤ length text → starts_quoted (drop len text) ≡ true → IsPlain text bytes_in len
plain-string text bytes_in len is some fits quoted = record {
  bytes = is;
  closing = quote-ends (drop len text) quoted;
  some = some;
  within = omega (arith, length-drop len text, quoted-length (drop len text) quoted, fits);
}
  where
    quoted-length : (t : List ℕ) → starts_quoted t ≡ true → 1 ≤ length t
    quoted-length [] is = absurd (true≢false (sym is))
    quoted-length (b ∷ t) is = omega arith

-- a whole string is one token
pub outside-plain : (whole : Bool) (infer : InferOpts) (end : ℕ) (text bytes bytes_in : List ℕ) (len raw_len : ℕ)
    → length (text ++ bytes) ≤ end → len ≤ length text → lexeme_outside text ≡ found quote len → IsPlain (drop len text) bytes_in raw_len
    → outside whole infer end (text ++ bytes)
    ≡ and_token (end - length (text ++ bytes)) (text_token bytes_in) (outside whole infer end (drop (len + (raw_len + 1)) text ++ bytes))
outside-plain whole infer end text bytes bytes_in len raw_len small fits opens is =
    let all = text ++ bytes in
    let string = drop len text in
    let closing = drop raw_len string in
    let many : length all ≡ length text + length bytes = length-append text bytes in
    let string_len : length string ≡ length text - len = length-drop len text in
    let closing_len : length closing ≡ length string - raw_len = length-drop raw_len string in
    let small_string : length (string ++ bytes) ≤ end = omega (arith, length-append string bytes, string_len, many, small) in
    let small_closing : length (closing ++ bytes) ≤ end = omega (arith, length-append closing bytes, closing_len, string_len, many, small) in
    let below : raw_len < length string = omega (arith, is.within) in
    let one : 1 ≤ length closing = omega (arith, closing_len, is.within) in
    let end_place : ℕ = end - length all in
    let opened = outside-quote whole infer end all small len (stays-found false text bytes quote len opens (inl refl)) in
    let held = inside-piece whole infer end (string ++ bytes) small_string (raw bytes_in) raw_len (stays-found true string bytes (piece (raw bytes_in)) raw_len is.bytes (inr below)) in
    let closed = inside-quote whole infer end (closing ++ bytes) small_closing 1 (stays-found true closing bytes quote 1 is.closing (inl refl)) in
    let string_is : drop len all ≡ string ++ bytes = drop-prefix len text bytes fits in
    let closing_is : drop raw_len (string ++ bytes) ≡ closing ++ bytes = drop-prefix raw_len string bytes (omega (arith, below)) in
    let rest_is : drop 1 (closing ++ bytes) ≡ drop (len + (raw_len + 1)) text ++ bytes =
    drop-prefix 1 closing bytes one ∙ ap (λ t. t ++ bytes) (ap (drop 1) (drop-drop raw_len len text) ∙ drop-drop 1 (len + raw_len) text ∙ ap (λ n. drop n text) (let e : len + raw_len + 1 ≡ len + (raw_len + 1) = omega arith in e)) in
    let text_is : decoded (pieces whole end (drop len all)) ≡ bytes_in =
    ap (λ t. decoded (pieces whole end t)) string_is
    ∙ ap decoded (held.0 ∙ ap (λ t. raw bytes_in ∷ pieces whole end t) closing_is ∙ ap (λ p. raw bytes_in ∷ p) closed.0)
    ∙ append-nil bytes_in in
    let after : inside whole infer end (drop len all) ≡ outside whole infer end (drop (len + (raw_len + 1)) text ++ bytes) =
    ap (inside whole infer end) string_is
    ∙ held.1 ∙ ap (inside whole infer end) closing_is
    ∙ closed.1 ∙ ap (outside whole infer end) rest_is in
    opened ∙ ap₂ (λ t r. and_token end_place (text_token t) r) text_is after

-- the whole string was read
pub turned-plain : (old mid : Stream) (before after : List Event) (text rest bytes_in : List ℕ) (len raw_len : ℕ) → old.stopped ≡ false → is_some old.text ≡ false → old.begun.items ≡ []
    → 0 < length text → len ≤ length text → lexeme_outside text ≡ found quote len → IsPlain (drop len text) bytes_in raw_len → rest ≡ drop (len + (raw_len + 1)) text
    → mid ≡ record old { record_state = mid.record_state; at = mid.at; stopped = mid.stopped }
    → Takes old mid before after (λ r. and_token old.place (text_token bytes_in) r)
    → Turned old (record mid { place = mid.place + (len + (raw_len + 1)) }) text rest before after
turned-plain old mid before after text rest bytes_in len raw_len running no_text none some fits opens is left_is same takes =
    let end_len = len + (raw_len + 1) in
    let within : end_len ≤ length text = omega (arith, is.within, length-drop len text, fits) in
    subst (λ t. Turned old (record mid { place = mid.place + end_len }) text t before after) (sym left_is)
    (turned-outside old mid before after text end_len (λ r. and_token old.place (text_token bytes_in) r) running no_text none same some within takes
    (λ whole end bytes small place.
    outside-plain whole old.infer end text bytes bytes_in len raw_len small fits opens is
    ∙ ap (λ p. and_token p (text_token bytes_in) (outside whole old.infer end (drop end_len text ++ bytes))) place))

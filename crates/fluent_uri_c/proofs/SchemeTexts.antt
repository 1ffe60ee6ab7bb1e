-- The text of a scheme, by whether it is UTF-8.
use Rattle.fluent_uri_c.proofs.Common.{◌≡◌, ℕ, false, ◌&&◌, List, ap, IsUtf8, is_utf8, and_parts, false_from_ne_true, IsUtf8-from_is_utf8, is_utf8-from_IsUtf8, is_scheme, is_scheme_text}

-- default ports for C: of a text in UTF-8 the rule of a scheme says whether it is one
pub in_utf8 : (text : List ℕ) → IsUtf8 text → is_scheme_text text ≡ is_scheme text
unfolding is_scheme_text
in_utf8 text utf8 = ap (λ b. b && is_scheme text) (is_utf8-from_IsUtf8 text utf8)

-- default ports for C: a text that is not UTF-8 is no scheme
pub not_in_utf8 : (text : List ℕ) → ¬ (IsUtf8 text) → is_scheme_text text ≡ false
unfolding is_scheme_text
not_in_utf8 text not-utf8 = false_from_ne_true _
    λ e. not-utf8 (IsUtf8-from_is_utf8 text (and_parts (is_utf8 text) (is_scheme text) e).0)

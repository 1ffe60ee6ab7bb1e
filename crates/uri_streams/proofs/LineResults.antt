-- The result of bytes, and that of the text that they are.
use Rattle.uri_streams.proofs.Common.{arith, ◌≡◌, ℕ, Bool, false, true, List, IsUtf8, if◌then◌else◌, IsUtf8-from_is_utf8, is_utf8-from_IsUtf8, false_from_ne_true, LineResult, Known, bytes_result, given_text, no_text_result, text_kind, text_result, NotUtf8, Job}
use Rattle.std.specs.Str.Lossy.{utf8_valid_len}
use Rattle.uri_commands.specs.MendedLinks.{mended_link}

-- lines: the result of bytes in UTF-8 is that of the text that they give
bytes_result-of-utf8 : (job : Job) (known : Known) (bytes : List ℕ) → IsUtf8 bytes
    → text_result job.command known (given_text job bytes) ≡ bytes_result job known bytes
bytes_result-of-utf8 job known bytes is = grind (arith, text_result, is_utf8-from_IsUtf8)

-- lines: the result of bytes that are not UTF-8 is the one that is defined for these
pub bytes_result-of-non-utf8 : (job : Job) (known : Known) (bytes : List ℕ) → ¬ (IsUtf8 bytes)
    → (no_text_result job.command (NotUtf8 (utf8_valid_len bytes)), known)
    ≡ bytes_result job known bytes
bytes_result-of-non-utf8 job known bytes is_not =
    grind (arith, text_result, false_from_ne_true, IsUtf8-from_is_utf8)

-- lines: what a command gets of a text, if it is mended first or not
given_result_if : Job → Known → List ℕ → Bool → LineResult × Known
given_result_if job known bytes is_mended = text_result job.command known
    (if is_mended then mended_link (text_kind job.command) bytes else bytes)

pub bytes_result-of-mended : (job : Job) (known : Known) (text bytes : List ℕ)
    → (text ≡ bytes) × IsUtf8 bytes → job.is_mended ≡ true
    → text_result job.command known (mended_link (text_kind job.command) text)
    ≡ bytes_result job known bytes
unfolding given_result_if
bytes_result-of-mended job known text bytes is is_mended =
    grind (arith, given_result_if, bytes_result-of-utf8)

pub bytes_result-of-text : (job : Job) (known : Known) (text bytes : List ℕ)
    → (text ≡ bytes) × IsUtf8 bytes → job.is_mended ≡ false
    → text_result job.command known text ≡ bytes_result job known bytes
unfolding given_result_if
bytes_result-of-text job known text bytes is is_mended =
    grind (arith, given_result_if, bytes_result-of-utf8)

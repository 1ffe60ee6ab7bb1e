-- The characters that no path, query or fragment of the four kinds may have, and the marks that end
-- these.
use Rattle.uri_mend.proofs.Common.{arith, ◌≡◌, ℕ, ◌<◌, Bool, true, false, refl, sym, subst, ◌∙◌, ◌&&◌, codes, agree_below_at, has_bit, TableSet, is_path_char, is_query_char, has_bit_past_ascii_is_false, Kind, kind_by_flags, NEVER_HIGH, NEVER_LOW, are_marks}

-- sets: the set lacks the characters that no component may have
abbrev pub LacksNever : TableSet → Type 0
LacksNever set = (b : ℕ) → has_bit NEVER_LOW NEVER_HIGH b ≡ true → set.ascii b ≡ false

-- sets: a test of ASCII characters fails for such a character if it does for each one below 128
fails-for-never : (test : ℕ → Bool) → ((b : ℕ) → b < 128
    → (has_bit NEVER_LOW NEVER_HIGH b && test b) ≡ false)
    → (b : ℕ) → has_bit NEVER_LOW NEVER_HIGH b ≡ true → test b ≡ false
fails-for-never test below b bit = grind (arith, has_bit_past_ascii_is_false)

never-is-no-path-char : (b : ℕ) → has_bit NEVER_LOW NEVER_HIGH b ≡ true → is_path_char b ≡ false
unfolding has_bit
never-is-no-path-char = fails-for-never is_path_char
    (λ b h. agree_below_at (λ c. has_bit NEVER_LOW NEVER_HIGH c && is_path_char c) (λ c. false) 128
    b refl h)

never-is-no-query-char : (b : ℕ) → has_bit NEVER_LOW NEVER_HIGH b ≡ true → is_query_char b ≡ false
unfolding has_bit
never-is-no-query-char = fails-for-never is_query_char
    (λ b h. agree_below_at (λ c. has_bit NEVER_LOW NEVER_HIGH c && is_query_char c) (λ c. false)
    128 b refl h)

-- sets: what mending asks of the sets of a kind
pub record HasMendedSets (kind : Kind) : Type 0 where
  pub path : LacksNever kind.path
  pub query : LacksNever kind.query
  pub fragment : LacksNever kind.fragment
  pub path_marks : are_marks kind.path (codes "?#") ≡ true
  pub query_marks : are_marks kind.query (codes "#") ≡ true

kind-by-flags-has-mended-sets : (international needs_scheme : Bool)
    → HasMendedSets (kind_by_flags international needs_scheme)
unfolding has_bit
kind-by-flags-has-mended-sets international needs_scheme =
    grind (arith, never-is-no-path-char, never-is-no-query-char, has_bit)

-- sets: a kind that is equal to one of the four has them
pub known-kind-has-mended-sets : (kind same : Kind)
    → kind ≡ kind_by_flags kind.path.ucschar kind.needs_scheme → same ≡ kind → HasMendedSets same
known-kind-has-mended-sets kind same known e = subst HasMendedSets (sym (e ∙ known))
    (kind-by-flags-has-mended-sets kind.path.ucschar kind.needs_scheme)

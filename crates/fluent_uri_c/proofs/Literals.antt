-- The test of a host in brackets.
use Rattle.fluent_uri_c.proofs.Common.{common_steps, arith, ◌≡◌, ℕ, true, List, ◌∷◌, ◌++◌, ◌&&◌, ◌||◌, drop, eqb, length, bytes_eq, codes, is_some, nat_lt, eq-eqb, eqb-true, false≢true, append_cancel_left, TableSet, hexdig_set, is_one_of, is_valid_for, before_any, from_any, starts, ipv6_value, is_future_address, is_host, is_ipv_future}
use Rattle.std.proofs.lemmas.Slice.Eq.{bytes_eq-Decides}
use Rattle.uri_ops.proofs.Offered.{tests-that-imply-each-other-are-equal}

-- hosts for C: what follows the same text is compared by itself
suffixes-are-compared : (b s f : List ℕ) → bytes_eq (b ++ s) (b ++ f) ≡ bytes_eq f s
suffixes-are-compared b s f =
    grind (arith, tests-that-imply-each-other-are-equal, bytes_eq-Decides, append_cancel_left)

-- hosts for C: what begins with `[` (91) is a host if an address is before the first `]`, and that
-- is the end
literal-is-tested-by-its-cut : (names : TableSet) (rest : List ℕ)
    → is_host names (91 ∷ rest) ≡ (bytes_eq (from_any (codes "]") rest) (codes "]")
    && (is_some (ipv6_value (before_any (codes "]") rest))
    || is_ipv_future (before_any (codes "]") rest)))
unfolding is_host
literal-is-tested-by-its-cut names rest = grind (arith, common_steps, suffixes-are-compared)

-- hosts for C: the test of a host that begins with `[`
pub literal_by_its_cut : (names : TableSet) (host : List ℕ) → starts 91 host ≡ true
    → is_host names host ≡ (bytes_eq (from_any (codes "]") (drop 1 host)) (codes "]")
    && (is_some (ipv6_value (before_any (codes "]") (drop 1 host)))
    || is_ipv_future (before_any (codes "]") (drop 1 host))))
literal_by_its_cut names host e = grind (arith, false≢true, eqb-true, literal-is-tested-by-its-cut)

version-letter-is-one-of-two : (c : ℕ) → is_one_of (codes "vV") c ≡ (eqb c 118 || eqb c 86)
version-letter-is-one-of-two c =
    grind (arith, tests-that-imply-each-other-are-equal, eq-eqb, eqb-true)

pub ipv_future_by_its_cut : (text : List ℕ)
    → is_ipv_future text ≡ ((starts 118 text || starts 86 text)
    && ((nat_lt 0 (length (before_any (codes ".") (drop 1 text)))
    && is_valid_for hexdig_set (before_any (codes ".") (drop 1 text)))
    && is_future_address (from_any (codes ".") (drop 1 text))))
unfolding is_ipv_future
ipv_future_by_its_cut text = grind (arith, is_ipv_future, version-letter-is-one-of-two)

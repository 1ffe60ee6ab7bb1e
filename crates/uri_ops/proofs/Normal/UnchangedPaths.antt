-- Texts in which normalising leaves each byte: it leaves their paths.
use Rattle.uri_ops.proofs.Common.{common_steps, ◌≡◌, ℕ, ◌+◌, ◌<◌, ◌≤◌, Bool, true, List, [], ◌++◌, length, ap, sym, ◌∙◌, get_or, arith, append_assoc, ⊎_elim, codes, is_some, and_parts, cases_lt, length-append, Components, components, marked, starts, positions_of, equal-to-true-is-IsTrue, recompose-components, IsAbsolute, lacks_dot_segments, HasUnchangedOctets, IsUnchangedPath, is_dot_unchanged_at, is_octet_unchanged_at, is_literal_byte, is_unchanged_at}
use Rattle.uri_ops.proofs.Normal.UnchangedBytes.{bytes-unchanged-by-index-are-unchanged, unchanged-text-splits, literal-byte-is-unchanged}
use Rattle.uri_ops.proofs.Normal.WrittenPlaces.{length-with-delimiter-after, length-with-delimiter-before}
use Rattle.uri_ops.proofs.Paths.DotLaws.{remove-dots-of-dotless, dotless-path-does-not-underflow}
use Rattle.uri_ops.proofs.Paths.UnchangedDots.{path-is-dotless-in-text}

-- unchanged paths: a text in which each byte is unchanged from an index on, after literal bytes
module _ (alone : Bool) (text : List ℕ) (start limit : ℕ) (later : 0 < start)
    (literal : (k : ℕ) → k < start → is_literal_byte (get_or text k 0) ≡ true)
    (each : (k : ℕ) → start ≤ k → k < length text
    → is_unchanged_at alone limit text k ≡ true) where
  -- its octets are unchanged
  pub text-has-unchanged-octets : HasUnchangedOctets alone text
  text-has-unchanged-octets =
      bytes-unchanged-by-index-are-unchanged alone text (λ k h. ⊎_elim
      (λ (before : k < start). literal-byte-is-unchanged alone text k (literal k before))
      (λ (after : start ≤ k). (and_parts (is_octet_unchanged_at alone text k) _ (each k after h)).0)
      (cases_lt k start))

  abbrev p : Components
  p = components text

  abbrev before : List ℕ
  before = marked [] p.scheme (codes ":") ++ marked (codes "//") p.authority []

  abbrev tail : List ℕ
  tail = marked (codes "?") p.query [] ++ marked (codes "#") p.fragment []

  text-is-around-path : text ≡ before ++ (p.path ++ tail)
  text-is-around-path = sym (recompose-components text) ∙ sym (append_assoc
      (marked [] p.scheme (codes ":")) (marked (codes "//") p.authority []) (p.path ++ tail))

  path-begins-after-marked : length before ≡ (positions_of p).path_start
  path-begins-after-marked =
      grind (arith, common_steps, length-with-delimiter-after, length-with-delimiter-before)

  path-has-unchanged-octets : HasUnchangedOctets alone p.path
  path-has-unchanged-octets =
      grind (arith, unchanged-text-splits, text-is-around-path, text-has-unchanged-octets)

  module _ (early : is_some p.scheme ≡ true → start ≤ (positions_of p).path_start)
      (ends : is_some p.scheme ≡ true → limit ≡ (positions_of p).path_end) where
    path-is-dotless : is_some p.scheme ≡ true → IsAbsolute p.path
        → lacks_dot_segments p.path ≡ true
    path-is-dotless some absolute =
        let first = path-begins-after-marked in
        let from = early some in
        let end : limit ≡ length before + length p.path = omega (arith, first, ends some) in
        let long : length text ≡ length before + (length p.path + length tail) =
        ap length text-is-around-path ∙ length-append before (p.path ++ tail)
        ∙ ap (λ n. length before + n) (length-append p.path tail) in
        path-is-dotless-in-text before p.path tail start later (omega (arith, first, from))
        (λ k h to. ap (λ t. is_dot_unchanged_at (length before + length p.path) t k)
        (sym text-is-around-path)
        ∙ ap (λ n. is_dot_unchanged_at n text k) (sym end)
        ∙ (and_parts (is_octet_unchanged_at alone text k) _
        (each k h (omega (arith, long, to)))).1)
        alone absolute path-has-unchanged-octets

    -- and normalising leaves its path, if the limit is the end of that under a scheme
    pub path-of-unchanged-text-is-unchanged : IsUnchangedPath p.scheme p.path
    path-of-unchanged-text-is-unchanged =
        grind (
          arith,
          starts,
          equal-to-true-is-IsTrue,
          path-is-dotless,
          remove-dots-of-dotless,
          dotless-path-does-not-underflow,
        )

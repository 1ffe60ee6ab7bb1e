use Rattle.uri_parts.proofs.Common.{◌≡◌, ◌≢◌, ◌<◌, ◌≤◌, ◌∙◌, ◌||◌, ◌⊎◌, Bool, ℕ, List, false, true, length, arith, drop, get_or, sym, ⊎_elim, Ok, not-true, nat_tests, LacksPercent, TableSet, is_path_char, is_segment_nz_nc_char, is_userinfo_char, valid_prefix_stops_where_none_may_begin, Kind, first_segment_set, kind_by_flags, scan, is_end}
use Rattle.uri_pct.specs.Models.Scans.{may_begin_octet_or_past_ascii}
use Rattle.uri_parts.proofs.Parsing.NextBytes.{starts_at_position, text_ends_where_position_is_length}
use Rattle.uri_parts.proofs.cursor.Cursor.is_before_excluded.Goals as goal

-- a byte that is excluded: a control character, a space, or one past ASCII
abbrev IsExcluded : ℕ → Type 0
IsExcluded b = (b ≤ 32) ⊎ (128 ≤ b)

-- a set of each kind that has no excluded byte as a character of ASCII, and in a URI nothing past
-- ASCII
record ExcludesBytes (set_in : Kind → TableSet) : Type 0 where
  lacks : (u n : Bool) → LacksPercent (set_in (kind_by_flags u n))
  ascii : (u n : Bool) (b : ℕ) → IsExcluded b → (set_in (kind_by_flags u n)).ascii b ≡ false
  uris : (n : Bool) → let set = set_in (kind_by_flags false n) in (set.ucschar || set.iprivate) ≡ false

is_no_userinfo_char : (b : ℕ) → IsExcluded b → is_userinfo_char b ≡ false
is_no_userinfo_char b outside =
    ⊎_elim (λ low. grind (arith, nat_tests, low)) (λ high. grind (arith, nat_tests, high)) outside

is_no_path_char : (b : ℕ) → IsExcluded b → is_path_char b ≡ false
is_no_path_char b outside =
    ⊎_elim (λ low. grind (arith, nat_tests, low)) (λ high. grind (arith, nat_tests, high)) outside

is_no_segment_char : (b : ℕ) → IsExcluded b → is_segment_nz_nc_char b ≡ false
is_no_segment_char b outside =
    ⊎_elim (λ low. grind (arith, nat_tests, low)) (λ high. grind (arith, nat_tests, high)) outside

-- what holds for IRIs and for URIs holds for both
for_both : (P : Bool → Type 0) → P true → P false → (u : Bool) → P u
for_both P iris uris true = iris
for_both P iris uris false = uris

userinfo_excludes : ExcludesBytes (λ k. k.userinfo)
userinfo_excludes = grind (arith, for_both, is_no_userinfo_char)

path_excludes : ExcludesBytes (λ k. k.path)
path_excludes = grind (arith, for_both, is_no_path_char)

segment_excludes : ExcludesBytes first_segment_set
segment_excludes = grind (arith, for_both, is_no_segment_char)

-- a scan that may not go on where it begins passes nothing
scan_stops : (set : TableSet) → LacksPercent set → (text : List ℕ) (i : ℕ) → i < length text
    → set.ascii (get_or text i 0) ≡ false → may_begin_octet_or_past_ascii set (get_or text i 0)
    ≡ false → get_or text i 0 ≢ 37 → scan text set i ≡ Ok i
scan_stops set lacks text i inside refused none other =
    grind (arith, valid_prefix_stops_where_none_may_begin, starts_at_position)

-- the index of a byte of a text
inside_text : (bytes text : List ℕ) (i : ℕ) → bytes ≡ text → i ≤ length text
    → (i ≡ length bytes → ⊥) → i < length text
inside_text bytes text i same within other = grind arith

-- something is left of a text before its end
is_not_at_end : (bytes text : List ℕ) (i : ℕ) → bytes ≡ text → i ≤ length text
    → (i ≡ length bytes → ⊥) → is_end (drop i text) ≡ false
is_not_at_end bytes text i same within other = grind (arith, text_ends_where_position_is_length)

module _ (set_in : Kind → TableSet) (excludes : ExcludesBytes set_in) (kind : Kind)
    (known : kind ≡ kind_by_flags kind.path.ucschar kind.needs_scheme) (bytes text : List ℕ) (i : ℕ)
    (same : bytes ≡ text) (within : i ≤ length text) (some : i ≡ length bytes → ⊥) where
  -- a control character or a space is next
  stops_at_control : get_or bytes i 0 ≤ 32 → scan text (set_in kind) i ≡ Ok i
  unfolding may_begin_octet_or_past_ascii
  stops_at_control low = grind (arith, scan_stops, inside_text)

  -- a character past ASCII is next in a URI, by its tables
  stops_past_ascii : (tables : Kind) → tables ≡ kind → (tables.path.ucschar || tables.path.iprivate)
      ≡ false → 128 ≤ get_or bytes i 0 → scan text (set_in kind) i ≡ Ok i
  unfolding may_begin_octet_or_past_ascii
  stops_past_ascii tables of_kind none high = grind (arith, scan_stops, inside_text)

pub returns-then-byte-le32-clause-userinfo : goal.returns-then-byte-le32-clause-userinfo
returns-then-byte-le32-clause-userinfo g c t =
    stops_at_control (λ k. k.userinfo) userinfo_excludes g.K.Kind.kind g.met.K.Kind.known _ _ _
    c.as_bytes-bytes.ensures.value c.args.self.now.boundary.0 c.if-i-bytes.false c.if-byte-le32.true

pub returns-then-byte-le32-clause-path : goal.returns-then-byte-le32-clause-path
returns-then-byte-le32-clause-path g c t =
    stops_at_control (λ k. k.path) path_excludes g.K.Kind.kind g.met.K.Kind.known _ _ _
    c.as_bytes-bytes.ensures.value c.args.self.now.boundary.0 c.if-i-bytes.false c.if-byte-le32.true

pub returns-then-byte-le32-clause-segment : goal.returns-then-byte-le32-clause-segment
returns-then-byte-le32-clause-segment g c t =
    stops_at_control first_segment_set segment_excludes g.K.Kind.kind g.met.K.Kind.known _ _ _
    c.as_bytes-bytes.ensures.value c.args.self.now.boundary.0 c.if-i-bytes.false c.if-byte-le32.true

pub returns-then-byte-ge128-clause-userinfo : goal.returns-then-byte-ge128-clause-userinfo
returns-then-byte-ge128-clause-userinfo g c t =
    stops_past_ascii (λ k. k.userinfo) userinfo_excludes g.K.Kind.kind g.met.K.Kind.known _ _ _
    c.as_bytes-bytes.ensures.value c.args.self.now.boundary.0 c.if-i-bytes.false _
    c.tables.ensures.kind (sym c.allows_some_past_ascii.ensures ∙ not-true _ t) c.if-byte-ge128.true

pub returns-then-byte-ge128-clause-path : goal.returns-then-byte-ge128-clause-path
returns-then-byte-ge128-clause-path g c t =
    stops_past_ascii (λ k. k.path) path_excludes g.K.Kind.kind g.met.K.Kind.known _ _ _
    c.as_bytes-bytes.ensures.value c.args.self.now.boundary.0 c.if-i-bytes.false _
    c.tables.ensures.kind (sym c.allows_some_past_ascii.ensures ∙ not-true _ t) c.if-byte-ge128.true

pub returns-then-byte-ge128-clause-segment : goal.returns-then-byte-ge128-clause-segment
returns-then-byte-ge128-clause-segment g c t =
    stops_past_ascii first_segment_set segment_excludes g.K.Kind.kind g.met.K.Kind.known _ _ _
    c.as_bytes-bytes.ensures.value c.args.self.now.boundary.0 c.if-i-bytes.false _
    c.tables.ensures.kind (sym c.allows_some_past_ascii.ensures ∙ not-true _ t) c.if-byte-ge128.true

pub returns-then-byte-ge128-clause-some : goal.returns-then-byte-ge128-clause-some
returns-then-byte-ge128-clause-some g c t = grind (arith, is_not_at_end)

-- Without characters past ASCII a text has the same marks, and a path the same dot segments.
use Rattle.uri_ops.proofs.Common.{◌≡◌, ℕ, ◌<◌, ◌≤◌, nat_lt, Bool, true, false, eqb, ltb, not, List, [], ◌∷◌, ◌++◌, map, refl, sym, ap, subst, ◌∙◌, arith, ◌&&◌, ⊎_elim, append-nil, lit<, codes, Option, is_ascii_hexdigit, list_all, flat_map, IsUtf8, is_utf8, encode_utf8_all, all_scalars, IsUtf8-from_is_utf8, is_utf8-from_IsUtf8, map-append, flat_map-append, list_all-append, cases_Bool, cases_lt, cond-true, cond-false, and_parts, and_from, ltb-true, lt-ltb, le-ltb, not_from_false, false_from_ne_true, both_ways, and_right, nat_tests, is_one_of, test_holds_of_each, Lacks, starts, has_authority, before_any, from_any, IsAbemptyPath, IsEmptyOrMarked, text-is-cut-at-first-mark, cut-at-end-of-text-without-marks, utf8_around_ascii_byte, is_empty, has_slash, remove_dot_segments, underflows, directory, IsAbsolute, dotless_if_absolute, guarded, encode_byte_past_ascii, encode_past_ascii, common_steps}
use Rattle.std.specs.Prelude.{is_none as is_absent}
use Rattle.uri_ops.proofs.Paths.Segments.{AllPass, dotless_of, parent}
use Rattle.uri_ops.proofs.Paths.SlashedSegments.{slashed, NoSlashes, first-segment-and-rest-lack-slashes, remove-dots-by-segments, underflows-by-segments, directory-by-segments}
use Rattle.uri_ops.proofs.Paths.DotLaws.{property-of-absolute-path-by-segments, rooted}
use Rattle.uri_ops.proofs.Paths.PathCharacters.{lacked-delimiters-fail-test, test-of-delimiters-gives-lacks}
use Rattle.uri_ops.proofs.Meanings.Lacking.{lacks_any-gives-lacks, lacks-gives-lacks_any}
use Rattle.uri_ops.proofs.Paths.SegmentMaps.{KeepsDots, dotless_of-and-map-swap, parent-and-map-swap, underflows_over-of-mapped-segments}
use Rattle.uri_ops.proofs.Paths.DotBytes.{single-dot-by-decoded-bytes, double-dot-by-decoded-bytes}
use Rattle.uri_ops.proofs.Paths.DecodedStarts.{second-slash-makes-two-slashes}
use Rattle.uri_ops.proofs.Meanings.ComponentEnds.{is_outside_octets}
use Rattle.uri_ops.proofs.AsciiForms.EncodedTokens.{octet_text, is_byte, byte-digits-have-its-value, utf8-of-character-is-bytes, encoded-text-is-utf8, encoding-keeps-decoded-bytes}

-- IRIs as URIs: characters past ASCII are encoded byte by byte, so in each half of a text
pub encoding-of-append-is-append : (x y : List ℕ) → encode_past_ascii (x ++ y)
    ≡ encode_past_ascii x ++ encode_past_ascii y
unfolding encode_past_ascii
encoding-of-append-is-append x y = flat_map-append encode_byte_past_ascii x y

-- IRIs as URIs: the empty text stays empty when characters past ASCII are encoded
pub encoding-of-nil-is-nil : encode_past_ascii [] ≡ []
unfolding encode_past_ascii
encoding-of-nil-is-nil = refl

pub encoding-starts-with-ascii-byte : (b : ℕ) (x : List ℕ) → b < 128 → encode_past_ascii (b ∷ x)
    ≡ b ∷ encode_past_ascii x
unfolding encode_past_ascii
encoding-starts-with-ascii-byte b x h = ap (λ t. t ++ flat_map encode_byte_past_ascii x)
    (cond-true _ _ _ (lt-ltb b 128 h))

-- IRIs as URIs: encoding replaces a byte past ASCII by its `%XX`
pub encoding-starts-with-octet : (b : ℕ) (x : List ℕ) → 128 ≤ b
    → encode_past_ascii (b ∷ x) ≡ octet_text b ++ encode_past_ascii x
unfolding encode_past_ascii
encoding-starts-with-octet b x h = ap (λ t. t ++ flat_map encode_byte_past_ascii x)
    (cond-false _ _ _ (le-ltb b 128 h))

-- IRIs as URIs: an ASCII text is its own encoding
pub ascii-text-is-its-own-encoding : (text : List ℕ) → list_all (λ c. ltb c 128) text ≡ true
    → encode_past_ascii text ≡ text
ascii-text-is-its-own-encoding [] e = encoding-of-nil-is-nil
ascii-text-is-its-own-encoding (c ∷ text) e =
    let p = and_parts (ltb c 128) (list_all (λ c. ltb c 128) text) e in
    encoding-starts-with-ascii-byte c text (ltb-true c 128 p.0)
    ∙ ap (λ t. c ∷ t) (ascii-text-is-its-own-encoding text p.1)

utf8-text-is-bytes : (text : List ℕ) → IsUtf8 text → list_all is_byte text ≡ true
utf8-text-is-bytes text u = ap (list_all is_byte) (sym u.1.1) ∙ char_bytes u.0 u.1.0
  where
    char_bytes : (cs : List ℕ) → all_scalars cs ≡ true
        → list_all is_byte (encode_utf8_all cs) ≡ true
    char_bytes [] e = refl
    char_bytes (c ∷ cs) e =
        let p = and_parts _ (all_scalars cs) e in
        list_all-append is_byte _ (encode_utf8_all cs)
        ∙ and_from _ _ (utf8-of-character-is-bytes c p.0) (char_bytes cs p.1)

-- what comes in is `%` and hexadecimal digits
module _ (p : ℕ → Bool) (percent : p 37 ≡ true)
    (hex : (c : ℕ) → is_ascii_hexdigit c ≡ true → p c ≡ true) where
  octet_text-passes-test-of-hex-digits : (b : ℕ) → is_byte b ≡ true → list_all p (octet_text b)
      ≡ true
  unfolding is_byte
  octet_text-passes-test-of-hex-digits b e = grind (arith, nat_tests, byte-digits-have-its-value)

  encoded-bytes-pass-test : (text : List ℕ) → list_all is_byte text ≡ true → list_all p text ≡ true
      → list_all p (encode_past_ascii text) ≡ true
  encoded-bytes-pass-test [] e f = ap (list_all p) encoding-of-nil-is-nil
  encoded-bytes-pass-test (b ∷ text) e f =
      let q = and_parts (is_byte b) (list_all is_byte text) e in
      let r = and_parts (p b) (list_all p text) f in
      ⊎_elim (λ h. ap (list_all p) (encoding-starts-with-ascii-byte b text h)
      ∙ and_from _ _ r.0 (encoded-bytes-pass-test text q.1 r.1))
      (λ h. ap (list_all p) (encoding-starts-with-octet b text h)
      ∙ list_all-append p (octet_text b) (encode_past_ascii text) ∙ and_from _ _
      (octet_text-passes-test-of-hex-digits b q.0) (encoded-bytes-pass-test text q.1 r.1))
      (cases_lt b 128)

  encoding-keeps-tests : (text : List ℕ) → IsUtf8 text → list_all p text ≡ true
      → list_all p (encode_past_ascii text) ≡ true
  encoding-keeps-tests text u e = encoded-bytes-pass-test text (utf8-text-is-bytes text u) e

character-of-octets-is-no-delimiter : (marks : List ℕ) → list_all is_outside_octets marks ≡ true
    → (c : ℕ) → is_outside_octets c ≡ false → is_one_of marks c ≡ false
character-of-octets-is-no-delimiter marks e c f = false_from_ne_true _
    (λ m. both_ways _ f (test_holds_of_each is_outside_octets marks e c m))

pub encoding-keeps-lacked-delimiters : (marks : List ℕ) → list_all is_outside_octets marks ≡ true
    → (text : List ℕ) → IsUtf8 text → Lacks marks text → Lacks marks (encode_past_ascii text)
encoding-keeps-lacked-delimiters marks not_in_octets text u lacks = test-of-delimiters-gives-lacks
    marks (encode_past_ascii text) (encoding-keeps-tests (λ c. not (is_one_of marks c))
    (not_from_false _ (character-of-octets-is-no-delimiter marks not_in_octets 37 refl))
    (λ c h. not_from_false _ (character-of-octets-is-no-delimiter marks not_in_octets c
    (hex_other c h))) text u (lacked-delimiters-fail-test marks text lacks))
  where
    hex_other : (c : ℕ) → is_ascii_hexdigit c ≡ true → is_outside_octets c ≡ false
    hex_other c h = ap (λ t. nat_lt c 128 && (not t && not (eqb c 37))) h ∙ and_right _ _ refl

-- IRIs as URIs: a text begins with a delimiter (mark) exactly if it does when encoded
pub encoding-keeps-leading-delimiter : (mark : ℕ) → is_outside_octets mark ≡ true → (x : List ℕ)
    → starts mark (encode_past_ascii x) ≡ starts mark x
encoding-keeps-leading-delimiter mark not_in_octets o =
    grind (
      arith,
      common_steps,
      mark,
      encoding-of-nil-is-nil,
      encoding-starts-with-ascii-byte,
      encoding-starts-with-octet,
    )

-- IRIs as URIs: exactly the empty text is empty after encoding
pub encoding-keeps-emptiness : (x : List ℕ) → is_empty (encode_past_ascii x) ≡ is_empty x
encoding-keeps-emptiness [] = ap is_empty encoding-of-nil-is-nil
encoding-keeps-emptiness (b ∷ x) = ⊎_elim (λ h. ap is_empty (encoding-starts-with-ascii-byte b x h))
    (λ h. ap is_empty (encoding-starts-with-octet b x h)) (cases_lt b 128)

-- IRIs as URIs: a text begins with `//` exactly if it does after encoding
pub encoding-keeps-two-slashes : (x : List ℕ) → has_authority (encode_past_ascii x)
    ≡ has_authority x
encoding-keeps-two-slashes x =
    grind (
      arith,
      encoding-starts-with-ascii-byte,
      second-slash-makes-two-slashes,
      encoding-keeps-leading-delimiter,
    )

encoding-keeps-empty-or-delimited : (marks : List ℕ) → list_all is_outside_octets marks ≡ true
    → (x : List ℕ) → IsEmptyOrMarked marks x → IsEmptyOrMarked marks (encode_past_ascii x)
encoding-keeps-empty-or-delimited marks not_in_octets [] begins = subst (IsEmptyOrMarked marks)
    (sym encoding-of-nil-is-nil) tt
encoding-keeps-empty-or-delimited marks not_in_octets (c ∷ x) begins =
    grind (arith, nat_tests, encoding-starts-with-ascii-byte, test_holds_of_each, is_outside_octets)

-- IRIs as URIs: encoding a text and cutting it at the first of some delimiters may swap
pub encoding-and-cutting-swap : (marks : List ℕ) → list_all is_outside_octets marks ≡ true
    → (x : List ℕ) → IsUtf8 x → IsUtf8 (before_any marks x)
    → (before_any marks (encode_past_ascii x) ≡ encode_past_ascii (before_any marks x))
    × (from_any marks (encode_past_ascii x) ≡ encode_past_ascii (from_any marks x))
encoding-and-cutting-swap marks not_in_octets x u v =
    let cut = text-is-cut-at-first-mark _ x in
    let whole : encode_past_ascii x ≡ encode_past_ascii (before_any marks x) ++ encode_past_ascii
    (from_any marks x) = ap encode_past_ascii (sym cut.whole) ∙ encoding-of-append-is-append _ _ in
    let parts = cut-at-end-of-text-without-marks _ _ _
    (encoding-keeps-lacked-delimiters _ not_in_octets _ v cut.lacks)
    (encoding-keeps-empty-or-delimited _ not_in_octets _ cut.begins) in
    (ap (before_any marks) whole ∙ parts.0, ap (from_any marks) whole ∙ parts.1)

encoding-of-slashed-is-by-segment : (segs : List (List ℕ))
    → encode_past_ascii (slashed segs) ≡ slashed (map encode_past_ascii segs)
unfolding slashed
encoding-of-slashed-is-by-segment [] = encoding-of-nil-is-nil
encoding-of-slashed-is-by-segment (s ∷ rest) = encoding-starts-with-ascii-byte 47 _ (lit< tt) ∙ ap
    (λ t. 47 ∷ t) (encoding-of-append-is-append s (slashed rest)
    ∙ ap (λ t. encode_past_ascii s ++ t) (encoding-of-slashed-is-by-segment rest))

-- IRIs as URIs, paths: each segment of a text in UTF-8 is UTF-8
segments-of-joined-utf8-are-utf8 : (s : List ℕ) (rest : List (List ℕ)) → IsUtf8 (s ++ slashed rest)
    → AllPass is_utf8 (s ∷ rest)
unfolding slashed
segments-of-joined-utf8-are-utf8 s [] u = and_from _ _
    (is_utf8-from_IsUtf8 s (subst IsUtf8 (append-nil s) u)) refl
segments-of-joined-utf8-are-utf8 s (t ∷ rest) u = let p = utf8_around_ascii_byte s 47
    (t ++ slashed rest) (lit< tt) u in
    and_from _ _ (is_utf8-from_IsUtf8 s p.0) (segments-of-joined-utf8-are-utf8 t rest p.1)

-- IRIs as URIs, paths: each segment of a path in UTF-8 is UTF-8
pub segments-of-utf8-path-are-utf8 : (s : List ℕ) (rest : List (List ℕ))
    → IsUtf8 (slashed (s ∷ rest)) → AllPass is_utf8 (s ∷ rest)
unfolding slashed
segments-of-utf8-path-are-utf8 s rest u = segments-of-joined-utf8-are-utf8 s rest
    (utf8_around_ascii_byte [] 47 (s ++ slashed rest) (lit< tt) u).1

encoding-keeps-dot-segments : (s : List ℕ) → is_utf8 s ≡ true → KeepsDots encode_past_ascii s
encoding-keeps-dot-segments s e =
    let u = IsUtf8-from_is_utf8 s e in
    let v = encoded-text-is-utf8 s u in
    let same = encoding-keeps-decoded-bytes s u in
    record {
      single = single-dot-by-decoded-bytes (encode_past_ascii s) s v u same;
      double = double-dot-by-decoded-bytes (encode_past_ascii s) s v u same;
    }

encoding-adds-no-slash : (s : List ℕ) → is_utf8 s ≡ true → has_slash s ≡ false
    → has_slash (encode_past_ascii s) ≡ false
encoding-adds-no-slash s e f = lacks_any-gives-lacks 47 (encode_past_ascii s)
    (lacked-delimiters-fail-test (codes "/") (encode_past_ascii s)
    (encoding-keeps-lacked-delimiters (codes "/") refl s (IsUtf8-from_is_utf8 s e)
    (test-of-delimiters-gives-lacks (codes "/") s (lacks-gives-lacks_any 47 s f))))

encoded-segments-lack-slashes : (segs : List (List ℕ)) → AllPass is_utf8 segs → NoSlashes segs
    → NoSlashes (map encode_past_ascii segs)
encoded-segments-lack-slashes [] e f = refl
encoded-segments-lack-slashes (s ∷ rest) e f =
    let p = and_parts (is_utf8 s) (list_all is_utf8 rest) e in
    let q = first-segment-and-rest-lack-slashes s rest f in
    and_from _ _ (not_from_false _ (encoding-adds-no-slash s p.0 q.0))
    (encoded-segments-lack-slashes rest p.1 q.1)

removing-dots-and-encoding-swap : (path : List ℕ) → IsAbsolute path → IsUtf8 path
    → remove_dot_segments (encode_past_ascii path) ≡ encode_past_ascii (remove_dot_segments path)
removing-dots-and-encoding-swap = property-of-absolute-path-by-segments _ (λ s rest f u.
    let p = segments-of-utf8-path-are-utf8 s _ u in
    ap remove_dot_segments (encoding-of-slashed-is-by-segment _)
    ∙ remove-dots-by-segments _ (encoded-segments-lack-slashes (s ∷ rest) p f)
    ∙ ap slashed (dotless_of-and-map-swap encode_past_ascii
    is_utf8 encoding-keeps-dot-segments encoding-of-nil-is-nil (s ∷ rest) p)
    ∙ sym (encoding-of-slashed-is-by-segment (dotless_of (s ∷ rest)))
    ∙ sym (ap encode_past_ascii (remove-dots-by-segments (s ∷ rest) f)))

-- IRIs as URIs: a path has an underflow exactly if it has one
-- after its characters past ASCII are encoded
pub encoding-keeps-underflow : (path : List ℕ) → IsAbsolute path → IsUtf8 path
    → underflows (encode_past_ascii path) ≡ underflows path
encoding-keeps-underflow = property-of-absolute-path-by-segments _ (λ s rest f u.
    let p = segments-of-utf8-path-are-utf8 s _ u in
    ap underflows (encoding-of-slashed-is-by-segment _)
    ∙ underflows-by-segments _ (encoded-segments-lack-slashes (s ∷ rest) p f)
    ∙ underflows_over-of-mapped-segments _ _ encoding-keeps-dot-segments _
    [] _ p ∙ sym (underflows-by-segments _ f))

pub directory-and-encoding-swap : (path : List ℕ) → IsAbemptyPath path → IsUtf8 path
    → directory (encode_past_ascii path) ≡ encode_past_ascii (directory path)
unfolding directory
directory-and-encoding-swap = rooted _ (λ u. ap directory encoding-of-nil-is-nil ∙ sym
    (encoding-starts-with-ascii-byte 47 [] (lit< tt) ∙ ap (λ t. 47 ∷ t) encoding-of-nil-is-nil))
    (property-of-absolute-path-by-segments _ (λ s rest f u.
    let p = segments-of-utf8-path-are-utf8 s _ u in
    ap directory (encoding-of-slashed-is-by-segment _)
    ∙ directory-by-segments _ _ (encoded-segments-lack-slashes (s ∷ rest) p f)
    ∙ ap (λ t. slashed (t ++ [] ∷ [])) (parent-and-map-swap _ _ encoding-keeps-dot-segments _ p)
    ∙ ap (λ t. slashed (map encode_past_ascii (parent (s ∷ rest)) ++ t ∷ []))
    (sym encoding-of-nil-is-nil) ∙ ap slashed (sym (map-append encode_past_ascii _ _))
    ∙ sym (encoding-of-slashed-is-by-segment _)
    ∙ sym (ap encode_past_ascii (directory-by-segments s _ f))))

-- IRIs as URIs: removing the dot segments of an absolute path
-- and encoding it may swap, and other paths are unchanged
pub dotless_if_absolute-and-encoding-swap : (path : List ℕ) → IsUtf8 path
    → dotless_if_absolute (encode_past_ascii path) ≡ encode_past_ascii (dotless_if_absolute path)
dotless_if_absolute-and-encoding-swap path u =
    grind (arith, encoding-keeps-leading-delimiter, removing-dots-and-encoding-swap)

pub guarding-and-encoding-swap : (authority other : Option (List ℕ)) (path : List ℕ)
    → is_absent other ≡ is_absent authority
    → guarded other (encode_past_ascii path) ≡ encode_past_ascii (guarded authority path)
guarding-and-encoding-swap authority other path e =
    let same : (is_absent other && has_authority (encode_past_ascii path)) ≡ (is_absent authority
    && has_authority path) = ap (λ t. t && has_authority (encode_past_ascii path)) e
    ∙ ap (λ t. is_absent authority && t) (encoding-keeps-two-slashes path) in
    ⊎_elim (λ h. cond-true _ _ _ (same ∙ h)
    ∙ sym (ap encode_past_ascii (cond-true _ _ _ h) ∙ encoding-of-append-is-append (codes "/.") path
    ∙ ap (λ t. t ++ encode_past_ascii path) (ascii-text-is-its-own-encoding (codes "/.") refl)))
    (λ h. cond-false _ _ _ (same ∙ h) ∙ ap encode_past_ascii (sym (cond-false _ _ _ h)))
    (cases_Bool (is_absent authority && has_authority path))

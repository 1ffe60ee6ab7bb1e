-- Where the components of a text are once its characters past ASCII are octets.
use Rattle.uri_ops.proofs.Common.{common_steps, ◌≡◌, ℕ, ◌+◌, ◌-◌, ◌<◌, ◌≤◌, true, List, [], ◌∷◌, ◌++◌, length, take, drop, refl, sym, ap, subst, ◌∙◌, arith, append_assoc, append-nil, length-append, option_map, lit<, codes, Option, Some, None, IfSome, unwrap_or, IsUtf8, take-add, take-append_seam, nat_tests, AuthorityPositions, Positions, AuthorityParts, authority_parts, recompose_authority, Components, components, marked, Kind, is_authority, IsTextOf, ArePositionsOf, authority_at, host_end_of, host_start_of, delimited_length, positions_of, is_authority_for-sound, recompose-components, HasComponentSets, encode_past_ascii, authority_parts_at, positions_by_authority_parts}
use Rattle.uri_ops.specs.Models.EncodedPlaces.{ArePositionsOrdered, AreAuthorityPositionsOrdered, authority_positions_in_encoded, position_in_encoded, positions_in_encoded}
use Rattle.uri_ops.proofs.AsciiForms.EncodedAuthorities.{parts-of-encoded-authority-are-encoded, encoded_authority_parts, encoding-and-recomposing-authority-swap}
use Rattle.uri_ops.proofs.AsciiForms.EncodedComponents.{components-of-encoded-text-are-encoded, encoded_components, encoding-keeps-delimiters}
use Rattle.uri_ops.proofs.AsciiForms.EncodedMeanings.{schemes-are-unchanged-when-encoded}
use Rattle.uri_ops.proofs.AsciiForms.EncodedPaths.{encoding-of-append-is-append, encoding-of-nil-is-nil, encoding-starts-with-ascii-byte}
use Rattle.uri_ops.proofs.Normal.NormalTexts.{text-has-parts-of-kind}
use Rattle.uri_ops.proofs.Normal.WrittenPlaces.{option_map-adding-zero-is-unchanged, length-with-delimiter-before, length-with-delimiter-after, positions-of-parts-are-of-text, pushed-authority-parts-have-positions, pushed-components-have-positions}

-- IRIs as URIs: what is between positions i and j is encoded after what is before i;
-- old, new: the encoded text up to each
pub encoded-prefix-grows-by-encoded-slice : (old new bytes : List ℕ) (i j : ℕ)
    → i ≤ j → old ≡ encode_past_ascii (take i bytes) → new ≡ old
    ++ encode_past_ascii (take (j - i) (drop i bytes)) → new ≡ encode_past_ascii (take j bytes)
encoded-prefix-grows-by-encoded-slice old new bytes i j h o e =
    grind (arith, nat_tests, encoding-of-append-is-append, take-add i (j - i) bytes)

position-encoded-after-prefix : (text before suffix : List ℕ) (n : ℕ) → text ≡ before ++ suffix
    → n ≡ length before → position_in_encoded text n ≡ length (encode_past_ascii before)
position-encoded-after-prefix text before suffix n e k =
    ap length (ap encode_past_ascii ((λ i. take (k i) (e i)) ∙ take-append_seam before suffix))

authority-positions-encoded-after-prefix : (text prefix rest : List ℕ)
    (place : ℕ) (q : AuthorityParts) → text ≡ prefix ++ (recompose_authority q ++ rest)
    → place ≡ length prefix → authority_positions_in_encoded text (authority_parts_at place q)
    ≡ authority_parts_at (length (encode_past_ascii prefix)) (encoded_authority_parts q)
authority-positions-encoded-after-prefix text prefix rest place q e k =
    let U : List ℕ = marked [] q.userinfo (codes "@") in
    let P : List ℕ = marked (codes ":") q.port [] in
    let a : List ℕ = recompose_authority q in
    let whole : text ≡ (prefix ++ a) ++ rest = e ∙ sym (append_assoc prefix a rest) in
    let to_host : text ≡ ((prefix ++ U) ++ q.host) ++ (P ++ rest) = whole ∙ ap (λ t. t ++ rest)
    (sym (append_assoc prefix U (q.host ++ P)) ∙ sym (append_assoc (prefix ++ U) q.host P))
    ∙ append_assoc ((prefix ++ U) ++ q.host) P rest in
    let to_user : text ≡ (prefix ++ U) ++ (q.host ++ (P ++ rest)) = to_host
    ∙ append_assoc (prefix ++ U) q.host (P ++ rest) in
    let lu = length-with-delimiter-after q.userinfo 64 in
    let n1 : place + delimited_length 1 q.userinfo ≡ length (prefix ++ U) =
    omega (arith, k, lu, length-append prefix U) in
    let n2 : place + (delimited_length 1 q.userinfo + length q.host)
    ≡ length ((prefix ++ U) ++ q.host) = omega (arith, n1, length-append (prefix ++ U) q.host) in
    let n3 : place + length a ≡ length (prefix ++ a) = omega (arith, k, length-append prefix a) in
    let m0 = position-encoded-after-prefix text prefix (a ++ rest) place e k in
    let m1 = position-encoded-after-prefix text (prefix ++ U) (q.host ++ (P ++ rest))
    (place + delimited_length 1 q.userinfo) to_user n1 in
    let m2 = position-encoded-after-prefix text ((prefix ++ U) ++ q.host) (P ++ rest)
    (place + (delimited_length 1 q.userinfo + length q.host)) to_host n2 in
    let m3 = position-encoded-after-prefix text (prefix ++ a) rest (place + length a) whole n3 in
    let joined : prefix ++ a ≡ ((prefix ++ U) ++ q.host) ++ P =
    sym (append_assoc prefix U (q.host ++ P)) ∙ sym (append_assoc (prefix ++ U) q.host P) in
    (λ i. let x : AuthorityPositions = record
    { start = m0 i; host_start = m1 i; host_end = m2 i; end = m3 i } in x)
    ∙ pushed-authority-parts-have-positions (encoded_authority_parts q) (encode_past_ascii prefix)
    (encode_past_ascii (prefix ++ U)) (encode_past_ascii ((prefix ++ U) ++ q.host))
    (encode_past_ascii (prefix ++ a)) (encoding-of-append-is-append prefix U
    ∙ ap (λ t. encode_past_ascii prefix ++ t) (encoding-keeps-delimiters [] (codes "@") q.userinfo
    refl refl)) (encoding-of-append-is-append (prefix ++ U) q.host) (ap encode_past_ascii joined
    ∙ encoding-of-append-is-append ((prefix ++ U) ++ q.host) P ∙ ap (λ t. encode_past_ascii
    ((prefix ++ U) ++ q.host) ++ t) (encoding-keeps-delimiters (codes ":") [] q.port refl refl))

-- each component after what is before it
module _ (kind : Kind) (sets : HasComponentSets kind) where
  abbrev parts_of_authority : List ℕ → AuthorityParts
  parts_of_authority a = encoded_authority_parts (authority_parts a)

  authority-positions-move-with-encoding : (text prefix rest : List ℕ) (place : ℕ) (o : Option
      (List ℕ)) → text ≡ prefix ++ (marked (codes "//") o [] ++ rest)
      → place ≡ length prefix → IfSome o (λ a. IsUtf8 a × (is_authority kind a ≡ true))
      → option_map (authority_positions_in_encoded text) (option_map (authority_at (place + 2)) o)
      ≡ option_map (authority_parts_at (length (encode_past_ascii prefix)
      + 2)) (option_map parts_of_authority o)
  authority-positions-move-with-encoding text prefix rest place None e k h = refl
  authority-positions-move-with-encoding text prefix rest place (Some a) e k h =
      let q = authority_parts a in
      let whole : recompose_authority q ≡ a =
      (is_authority_for-sound kind.userinfo kind.reg_name a h.1).whole in
      let slashes : List ℕ = prefix ++ codes "//" in
      let joined : text ≡ slashes ++ (recompose_authority q ++ rest) = e
      ∙ ap (λ t. prefix ++ (t ++ rest)) (append-nil (codes "//" ++ a)) ∙ sym (append_assoc prefix
      (codes "//") (a ++ rest)) ∙ ap (λ t. slashes ++ (t ++ rest)) (sym whole) in
      let n : place + 2 ≡ length slashes = omega (arith, k, length-append prefix (codes "//")) in
      let both : encode_past_ascii slashes ≡ encode_past_ascii prefix ++ codes "//" =
      encoding-of-append-is-append prefix (codes "//")
      ∙ ap (λ t. encode_past_ascii prefix ++ t) (encoded_marks 47 47 (lit< tt) (lit< tt)) in
      let m : length (encode_past_ascii slashes) ≡ length (encode_past_ascii prefix) + 2 =
      ap length both ∙ length-append (encode_past_ascii prefix) (codes "//") in
      ap Some (ap (λ b. let x : AuthorityPositions = record {
        start = place + 2;
        host_start = place + 2 + host_start_of a;
        host_end = place + 2 + host_end_of a;
        end = place + 2 + length b;
      } in authority_positions_in_encoded text x) (sym whole)
      ∙ authority-positions-encoded-after-prefix text slashes rest (place + 2) q joined n
      ∙ ap (λ p. authority_parts_at p (encoded_authority_parts q)) m)
    where
      encoded_marks : (b c : ℕ) → b < 128 → c < 128 → encode_past_ascii (b ∷ c ∷ []) ≡ b ∷ c ∷ []
      encoded_marks b c h l = encoding-starts-with-ascii-byte b (c ∷ []) h ∙ ap (λ t. b
          ∷ t) (encoding-starts-with-ascii-byte c [] l ∙ ap (λ t. c ∷ t) encoding-of-nil-is-nil)

  parts-of-encoded-authority-have-positions : (place : ℕ) (o : Option (List ℕ))
      → IfSome o (λ a. IsUtf8 a × (is_authority kind a ≡ true))
      → option_map (authority_parts_at place) (option_map parts_of_authority o)
      ≡ option_map (authority_at place) (option_map encode_past_ascii o)
  parts-of-encoded-authority-have-positions place None h = refl
  parts-of-encoded-authority-have-positions place (Some a) h =
      let q = parts_of_authority a in
      let same : recompose_authority q ≡ encode_past_ascii a =
      sym (encoding-and-recomposing-authority-swap (authority_parts a))
      ∙ ap encode_past_ascii (is_authority_for-sound kind.userinfo kind.reg_name a h.1).whole in
      ap Some (positions-of-parts-are-of-text place q (ap authority_parts same
      ∙ parts-of-encoded-authority-are-encoded kind sets a h.0 h.1) ∙ ap (authority_at place) same)

-- IRIs as URIs: the end of the query is after the encoded prefix and query;
-- place: the length of the prefix
query-end-moves-with-encoding : (text prefix rest : List ℕ) (place : ℕ) (o : Option (List ℕ))
    → text ≡ prefix ++ (marked (codes "?") o [] ++ rest) → place ≡ length prefix
    → option_map (position_in_encoded text) (option_map (λ q. place + 1 + length q) o) ≡ option_map
    (λ q. length (encode_past_ascii prefix) + 1 + length q) (option_map encode_past_ascii o)
query-end-moves-with-encoding text prefix rest place None e k = refl
query-end-moves-with-encoding text prefix rest place (Some q) e k =
    let marks : List ℕ = codes "?" ++ q in
    let whole : text ≡ (prefix ++ marks) ++ rest = e
    ∙ ap (λ t. prefix ++ (t ++ rest)) (append-nil marks) ∙ sym (append_assoc prefix _ _) in
    let n : place + 1 + length q ≡ length (prefix ++ marks) =
    omega (arith, k, length-append prefix marks) in
    let both : encode_past_ascii (prefix ++ marks)
    ≡ encode_past_ascii prefix ++ (63 ∷ encode_past_ascii q) = encoding-of-append-is-append _ _
    ∙ ap (λ t. encode_past_ascii prefix ++ t) (encoding-starts-with-ascii-byte 63 q (lit< tt)) in
    let m : length (encode_past_ascii (prefix ++ marks))
    ≡ length (encode_past_ascii prefix) + 1 + length (encode_past_ascii q) = omega
    (arith, ap length both, length-append (encode_past_ascii prefix) (63 ∷ encode_past_ascii q)) in
    ap Some (position-encoded-after-prefix _ _ _ _ whole n ∙ m)

-- the positions of a text whose components are one after the other
module _ (kind : Kind) (sets : HasComponentSets kind) (text : List ℕ) (w : IsTextOf kind text) where
  abbrev c : Components
  c = components text

  abbrev S : List ℕ
  S = marked [] c.scheme (codes ":")

  abbrev A : List ℕ
  A = marked (codes "//") c.authority []

  abbrev Q : List ℕ
  Q = marked (codes "?") c.query []

  abbrev F : List ℕ
  F = marked (codes "#") c.fragment []

  text-is-scheme-and-remainder : text ≡ S ++ (A ++ (c.path ++ (Q ++ F)))
  text-is-scheme-and-remainder = sym (recompose-components text)

  text-splits-before-path : text ≡ (S ++ A) ++ (c.path ++ (Q ++ F))
  text-splits-before-path = text-is-scheme-and-remainder
      ∙ sym (append_assoc S A (c.path ++ (Q ++ F)))

  text-splits-before-query : text ≡ ((S ++ A) ++ c.path) ++ (Q ++ F)
  text-splits-before-query = text-splits-before-path ∙ sym (append_assoc (S ++ A) c.path (Q ++ F))

  delimited-scheme-has-its-length : delimited_length 1 c.scheme ≡ length S
  delimited-scheme-has-its-length = sym (length-with-delimiter-after c.scheme 58)

  scheme-and-authority-have-their-length : delimited_length 1 c.scheme
      + delimited_length 2 c.authority ≡ length (S ++ A)
  scheme-and-authority-have-their-length = omega (
    arith,
    delimited-scheme-has-its-length,
    length-with-delimiter-before (codes "//") c.authority,
    length-append S A,
  )

  text-through-path-has-its-length : delimited_length 1 c.scheme
      + delimited_length 2 c.authority + length c.path ≡ length ((S ++ A) ++ c.path)
  text-through-path-has-its-length = omega
      (arith, scheme-and-authority-have-their-length, length-append (S ++ A) c.path)

  encoded-positions-are-by-encoded-components : positions_in_encoded text (positions_of c)
      ≡ positions_by_authority_parts (encoded_components c)
      (option_map (parts_of_authority kind sets) c.authority)
  encoded-positions-are-by-encoded-components =
      let p = text-has-parts-of-kind _ _ w in
      pushed-components-have-positions
      (encoded_components c) (option_map (parts_of_authority _ sets) c.authority) []
      (encode_past_ascii S) (encode_past_ascii (S ++ A)) (encode_past_ascii ((S ++ A) ++ c.path))
      (positions_in_encoded text (positions_of c)).path_start
      (positions_in_encoded text (positions_of c)).path_end (positions_of c).scheme_end
      (positions_in_encoded text (positions_of c)).query_end (positions_in_encoded text
      (positions_of c)).authority refl (encoding-keeps-delimiters [] _ _ refl refl)
      (encoding-of-append-is-append S A ∙ ap (λ t. encode_past_ascii S
      ++ t) (encoding-keeps-delimiters (codes "//") [] c.authority refl refl))
      (encoding-of-append-is-append _ _) (position-encoded-after-prefix _ _ _ _
      text-splits-before-path scheme-and-authority-have-their-length) (position-encoded-after-prefix
      _ _ _ _ text-splits-before-query text-through-path-has-its-length)
      (ap (option_map length) (sym (schemes-are-unchanged-when-encoded _ p.scheme))
      ∙ sym (option_map-adding-zero-is-unchanged _))
      (authority-positions-move-with-encoding _ sets _ S _ _ _ text-is-scheme-and-remainder
      delimited-scheme-has-its-length p.authority) (query-end-moves-with-encoding _
      _ F _ _ text-splits-before-query text-through-path-has-its-length)

  pub encoded-positions-are-right : (positions : Positions) → ArePositionsOf text positions
      → ArePositionsOf (encode_past_ascii text) (positions_in_encoded text positions)
  encoded-positions-are-right positions at =
      grind (
        arith,
        encoded-positions-are-by-encoded-components,
        parts-of-encoded-authority-have-positions,
        text-has-parts-of-kind,
        components-of-encoded-text-are-encoded,
      )

  -- the positions are in order
  authority-positions-are-in-order : (before : ℕ) (o : Option (List ℕ))
      → IfSome o (λ a. IsUtf8 a × (is_authority kind a ≡ true))
      → IfSome (option_map (authority_at (before + 2)) o)
      (AreAuthorityPositionsOrdered (before + delimited_length 2 o))
  authority-positions-are-in-order before o h =
      grind (arith, common_steps, is_authority_for-sound, length-with-delimiter-after)

  query-end-is-in-order : (place : ℕ) (o : Option (List ℕ)) (end : ℕ) (before suffix : List ℕ)
      → place ≡ length before → end ≡ length (before ++ (marked (codes "?") o [] ++ suffix))
      → (place ≤ unwrap_or (option_map (λ q. place + 1 + length q) o) place)
      × (unwrap_or (option_map (λ q. place + 1 + length q) o) place ≤ end)
  query-end-is-in-order place o end before suffix k e =
      grind (arith, common_steps, length-append, length-with-delimiter-before)

  pub positions-are-ordered : (positions : Positions) → ArePositionsOf text positions
      → ArePositionsOrdered (length text) positions
  positions-are-ordered positions at =
      let query = query-end-is-in-order _ _ _ _ F text-through-path-has-its-length
      (ap length text-splits-before-query) in
      subst (ArePositionsOrdered (length text)) (sym at) (record {
        authority = authority-positions-are-in-order _ _ (text-has-parts-of-kind _ _ w).authority;
        path = omega arith;
        query = query.0;
        fragment = query.1;
      })

-- A host that is printed from its meaning is a host, and has that meaning.
use Rattle.uri_ops.proofs.Common.{common_steps, ◌≡◌, ℕ, ◌<◌, true, false, ltb, List, [], ◌∷◌, ◌++◌, map, refl, sym, ap, subst, ◌∙◌, arith, codes, Option, is_ascii_hexdigit, to_ascii_lowercase, list_all, IsUtf8, str_to_ascii_lowercase, IsDotted, ipv6_text, map-append, length-map, All-weaker, list_all-from_AllPass, and_parts, or_right, cond-false, ltb-true, nat_tests, IsUtf8-append, IsDigitOrDot, TableSet, is_one_of, ipv_future_set, is_userinfo_char, is_unreserved, print, is_valid_for, lower_token, decode_unreserved, excludes, printed_tokens_are_utf8, printed_tokens_are_valid_iff_allowed, lowered_tokens_are_printable, lowered_tokens_are_allowed, lowering_tokens_is_idempotent, decode_unreserved_keeps_tokens_allowed, Lacks, starts, HostKind, Ipv4, Ipv6, IpvFuture, RegName, IsHost, IsIpvFuture, bracketed, host_kind, is_host, ipv4_value, name_kind, utf8_around_ascii_byte, valid_text_lacks_excluded_marks, is_address_char, is_address_text, ipv6-text-is-address-text, joined-texts-lack-marks, ipv6-text-lacks-excluded-marks, ipvfuture-text-lacks-excluded-marks, hexdigit_is_userinfo_char, ipv4-text-is-digits-and-dots, is_host-sound, is_host-complete, lacking_text_does_not_begin_with, address-in-brackets-is-utf8, IsComponentSet, HostMeaning, FutureAddress, Name, host_meaning, host_text}
use Rattle.uri_pct.proofs.Offered.{decoding_keeps_lowered_decoded_text}
use Rattle.uri_parts.proofs.Offered.{utf8_after_ascii_byte}
use Rattle.uri_ops.proofs.Meanings.AddressNumbers.{ipv6_text-has-its-segments}
use Rattle.uri_ops.proofs.Meanings.AllowedParts.{is_set_text, set-text-from-utf8, set-text-is-valid, set-text-has-printable-tokens, decoded-set-text-is-printable}
use Rattle.uri_ops.proofs.Meanings.AsciiCharacters.{is_ascii_in, valid_ascii_text, ascii-in-test-is-utf8, ascii-bytes-are-utf8, ascii-in-test-is-set-text, ascii-passes-wider-test, lowered-ascii-passes-test, lowering-is-idempotent}
use Rattle.uri_ops.proofs.Paths.PathCharacters.{test-of-delimiters-gives-lacks}
use Rattle.uri_ops.proofs.Meanings.ComponentEnds.{ends-are-excluded-from-set, fewer-characters-are-excluded-too}

-- meanings of hosts: the text printed from a meaning is a host with it, and ends no authority
pub record IsHostWithMeaning (names : TableSet) (m : HostMeaning) (text : List ℕ) : Type 0 where
  pub utf8 : IsUtf8 text
  pub host : (h : HostKind) × IsHost names text h
  pub meaning : host_meaning names text (host_kind text) ≡ m
  pub lacks : Lacks (codes "/?#") text

-- meanings of hosts: an address in brackets lacks the delimiters that the address lacks
pub bracketed-address-lacks-delimiters : (address : List ℕ) → Lacks (codes "/?#") address
    → Lacks (codes "/?#") (bracketed address)
bracketed-address-lacks-delimiters address h =
    grind (arith, common_steps, joined-texts-lack-marks, test-of-delimiters-gives-lacks)

-- meanings of hosts: an address in UTF-8 is UTF-8 in its brackets
pub bracketed-utf8-is-utf8 : (address : List ℕ) → IsUtf8 address → IsUtf8 (bracketed address)
bracketed-utf8-is-utf8 address u = IsUtf8-append (codes "[") (address ++ codes "]")
    (ascii-bytes-are-utf8 (codes "[") refl)
    (IsUtf8-append address (codes "]") u (ascii-bytes-are-utf8 (codes "]") refl))

address-character-is-ascii : (c : ℕ) → is_address_char c ≡ true → ltb c 128 ≡ true
unfolding is_address_char
address-character-is-ascii c e = grind (arith, nat_tests)

pub address-characters-are-ascii : (text : List ℕ) → list_all is_address_char text ≡ true
    → list_all (is_ascii_in is_address_char) text ≡ true
address-characters-are-ascii [] e = refl
address-characters-are-ascii (c ∷ text) e =
    grind (arith, common_steps, address-character-is-ascii, (address-characters-are-ascii text))

-- meanings of hosts: the text of an IP address is UTF-8
pub address-text-is-utf8 : (text : List ℕ) → is_address_text text ≡ true → IsUtf8 text
unfolding is_address_text
address-text-is-utf8 text e = ascii-in-test-is-utf8 is_address_char text
    (address-characters-are-ascii text e)

-- meanings of hosts: a hexadecimal digit, as of an IPvFuture address, is one in lower case
lowered-hex-digit-is-hex-digit : (c : ℕ) → is_ascii_hexdigit c ≡ true
    → is_ascii_hexdigit (to_ascii_lowercase c) ≡ true
lowered-hex-digit-is-hex-digit c e = grind (arith, nat_tests)

lowered-userinfo-character-is-userinfo-character : (c : ℕ) → is_userinfo_char c ≡ true
    → is_userinfo_char (to_ascii_lowercase c) ≡ true
lowered-userinfo-character-is-userinfo-character c e = grind (arith, nat_tests)

v-is-userinfo-character : (c : ℕ) → is_one_of (codes "vV") c ≡ true
    → is_ascii_in is_userinfo_char c ≡ true
v-is-userinfo-character c e = grind (arith, nat_tests)

-- meanings of hosts: `%` (37) is no literal character of userinfo
percent-is-no-userinfo-character : is_userinfo_char 37 ≡ false
percent-is-no-userinfo-character = refl

-- meanings of hosts: both parts of an IPvFuture address, around its `.`, are ASCII
pub record AsciiParts (text : List ℕ) (h : IsIpvFuture text) : Type 0 where
  pub version : list_all (is_ascii_in is_ascii_hexdigit) h.version ≡ true
  pub address : list_all (is_ascii_in is_userinfo_char) h.address ≡ true

-- meanings of hosts: the two parts of an IPvFuture address, around its `.`, are ASCII
pub ipvfuture-has-ascii-parts : (text : List ℕ) → IsUtf8 text → (h : IsIpvFuture text)
    → AsciiParts text h
ipvfuture-has-ascii-parts text u h =
    let tail : List ℕ = h.version ++ 46 ∷ h.address in
    let low : h.letter < 128 = ltb-true h.letter 128 (and_parts (ltb h.letter 128)
    (is_userinfo_char h.letter) (v-is-userinfo-character h.letter h.is_v)).0 in
    let apart = utf8_around_ascii_byte h.version 46 h.address (omega arith)
    (utf8_after_ascii_byte h.letter tail low (subst IsUtf8 h.whole u)) in
    record {
      version = sym (valid_ascii_text is_ascii_hexdigit refl h.version apart.0)
          ∙ h.version_digits.1;
      address = sym (valid_ascii_text
          is_userinfo_char percent-is-no-userinfo-character h.address apart.1) ∙ h.address_chars.1;
    }

pub ipvfuture-is-userinfo-characters : (text : List ℕ) (h : IsIpvFuture text) → AsciiParts text h
    → list_all (is_ascii_in is_userinfo_char) text ≡ true
ipvfuture-is-userinfo-characters text h w =
    grind (
      arith,
      common_steps,
      v-is-userinfo-character,
      ascii-passes-wider-test,
      hexdigit_is_userinfo_char,
    )

-- meanings of hosts: an IPvFuture address in lower case is one
lowered-ipvfuture-is-ipvfuture : (text : List ℕ) (h : IsIpvFuture text) → AsciiParts text h
    → IsIpvFuture (str_to_ascii_lowercase text)
lowered-ipvfuture-is-ipvfuture text h w =
    grind (
      arith,
      lowered-ascii-passes-test,
      lowered-hex-digit-is-hex-digit,
      lowered-userinfo-character-is-userinfo-character,
      length-map,
      map-append,
      valid_ascii_text,
      ascii-in-test-is-utf8,
    )

-- meanings of hosts: an IPvFuture address has no `/`, `?` or `#`, so it ends no authority
pub ipv_future_set-excludes-delimiters : excludes ipv_future_set (codes "/?#") ≡ true
ipv_future_set-excludes-delimiters = refl

-- meanings of hosts: a valid text without `[` (91) first is a host: an IPv4 address or a name
pub unbracketed-valid-text-is-host : (names : TableSet) (text : List ℕ) → starts 91 text ≡ false
    → is_valid_for names text ≡ true → is_host names text ≡ true
unfolding is_host
unbracketed-valid-text-is-host names text e valid = cond-false _ _ _ e ∙ or_right _ _ valid

module _ (names : TableSet) (w : IsComponentSet (codes "/?#[]@:") names)
    (apart : excludes names (codes "@:[") ≡ true) where
  name-set-excludes-authority-ends : excludes names (codes "/?#") ≡ true
  name-set-excludes-authority-ends =
      grind (arith, nat_tests, fewer-characters-are-excluded-too, ends-are-excluded-from-set)

  -- a name, or an IPv4 address, which is one of its texts
  pub meaning-of-name-is-lowered-decoded : (text : List ℕ) (value : Option (List ℕ))
      → host_meaning names text (name_kind value)
      ≡ Name (map lower_token (decode_unreserved names text))
  meaning-of-name-is-lowered-decoded text value = grind (arith, common_steps)

  pub unbracketed-valid-text-is-name : (text : List ℕ) → starts 91 text ≡ false
      → is_valid_for names text ≡ true
      → (host_kind text ≡ name_kind (ipv4_value text)) × (is_host names text ≡ true)
  unfolding host_kind
  unbracketed-valid-text-is-name text e valid =
      (cond-false _ _ _ e, unbracketed-valid-text-is-host names text e valid)

  lowered-decoded-name-has-its-meaning : (text : List ℕ) → is_set_text names text ≡ true
      → IsHostWithMeaning names (Name (map lower_token (decode_unreserved names text)))
      (print (map lower_token (decode_unreserved names text)))
  lowered-decoded-name-has-its-meaning text part =
      let ts = map lower_token (decode_unreserved names text) in
      let printable = lowered_tokens_are_printable (decode_unreserved names text)
      (decoded-set-text-is-printable _ w.percent _ part) in
      let u = printed_tokens_are_utf8 ts printable in
      let valid = printed_tokens_are_valid_iff_allowed _ ts printable ∙ lowered_tokens_are_allowed
      names (decode_unreserved names text) w.unreserved
      (decode_unreserved_keeps_tokens_allowed _ _ w.unreserved (set-text-is-valid _ _ part)) in
      let at = unbracketed-valid-text-is-name _ (lacking_text_does_not_begin_with (codes "@:[")
      (print ts) 91 refl (valid_text_lacks_excluded_marks names
      (codes "@:[") w.percent apart (print ts) u valid)) valid in
      record {
        utf8 = u;
        host = (host_kind (print ts), is_host-sound _ _ at.1);
        meaning = ap (host_meaning names (print ts)) at.0 ∙ meaning-of-name-is-lowered-decoded _ _
            ∙ ap (λ us. Name (map lower_token us)) (decoding_keeps_lowered_decoded_text _ _
            (set-text-has-printable-tokens _ w.percent _ part))
            ∙ ap Name (lowering_tokens_is_idempotent _);
        lacks = valid_text_lacks_excluded_marks names (codes "/?#") w.percent
            name-set-excludes-authority-ends (print ts) u valid;
      }

  digit-or-dot-is-unreserved : (c : ℕ) → IsDigitOrDot c → is_ascii_in is_unreserved c ≡ true
  digit-or-dot-is-unreserved c o = grind (arith, common_steps)

  percent-is-not-unreserved : is_unreserved 37 ≡ false
  percent-is-not-unreserved = refl

  dotted-decimal-is-set-text : (text octets : List ℕ) → IsDotted text octets
      → is_set_text names text ≡ true
  dotted-decimal-is-set-text text octets h =
      let chars = ipv4-text-is-digits-and-dots _ _ h in
      ascii-in-test-is-set-text _ _ w.percent percent-is-not-unreserved
      (λ c e. w.unreserved.ascii c e) _ (list_all-from_AllPass _ _ (All-weaker _ _
      (λ c d. digit-or-dot-is-unreserved c d) _ chars))

  -- a host that is printed from its meaning
  pub normal-host-has-meaning : (text : List ℕ) (kind : HostKind)
      → IsUtf8 text → IsHost names text kind → IsHostWithMeaning names
      (host_meaning names text kind) (host_text (host_meaning names text kind))
  normal-host-has-meaning text (Ipv6 segments) u (address, e, groups) =
      let back = ipv6_text-has-its-segments address segments groups in
      let v = bracketed-utf8-is-utf8 (ipv6_text segments) (address-text-is-utf8 (ipv6_text segments)
      (ipv6-text-is-address-text (ipv6_text segments) segments back)) in
      let found = is_host-complete names w.percent apart (bracketed (ipv6_text segments))
      (Ipv6 segments) v (ipv6_text segments, refl, back) in
      record {
        utf8 = v;
        host = (Ipv6 segments, (ipv6_text segments, refl, back));
        meaning = ap (host_meaning names (bracketed (ipv6_text segments))) found.kind;
        lacks = bracketed-address-lacks-delimiters (ipv6_text segments)
            (ipv6-text-lacks-excluded-marks (codes "/?#") ipv_future_set-excludes-delimiters
            (ipv6_text segments) segments back);
      }
  normal-host-has-meaning text IpvFuture u (address, e, future) =
      let dotless_chars = ipvfuture-has-ascii-parts address
      (address-in-brackets-is-utf8 address (subst IsUtf8 e u)) future in
      let low = str_to_ascii_lowercase address in
      let back = lowered-ipvfuture-is-ipvfuture address future dotless_chars in
      let inner = ascii-in-test-is-utf8 is_userinfo_char low (lowered-ascii-passes-test
      is_userinfo_char lowered-userinfo-character-is-userinfo-character address
      (ipvfuture-is-userinfo-characters address future dotless_chars)) in
      let v = bracketed-utf8-is-utf8 low inner in
      let same : str_to_ascii_lowercase text ≡ bracketed low = ap str_to_ascii_lowercase e
      ∙ ap (λ t. 91 ∷ t) (map-append to_ascii_lowercase address (codes "]")) in
      let found = is_host-complete names w.percent apart (bracketed low) IpvFuture v
      (low, refl, back) in
      record {
        utf8 = subst IsUtf8 (sym same) v;
        host = (IpvFuture, (low, same, back));
        meaning = ap (host_meaning names (str_to_ascii_lowercase text))
            (ap host_kind same ∙ found.kind) ∙ ap FutureAddress (lowering-is-idempotent text);
        lacks = subst (Lacks (codes "/?#"))
            (sym same) (bracketed-address-lacks-delimiters low (ipvfuture-text-lacks-excluded-marks
            (codes "/?#") ipv_future_set-excludes-delimiters low inner back));
      }
  normal-host-has-meaning text (Ipv4 octets) u dotted = lowered-decoded-name-has-its-meaning text
      (dotted-decimal-is-set-text text octets dotted)
  normal-host-has-meaning text RegName u (valid, other) = lowered-decoded-name-has-its-meaning text
      (set-text-from-utf8 names text u valid)

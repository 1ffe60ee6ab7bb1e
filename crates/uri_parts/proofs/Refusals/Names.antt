-- The errors of an authority.
use Rattle.uri_parts.proofs.Common.{◌≡◌, ◌≢◌, ℕ, zero, suc, ◌+◌, ◌<◌, ◌≤◌, Bool, true, false, cond, eqb, List, [], ◌∷◌, drop, Some, refl, sym, ap, ◌∙◌, arith, ◌&&◌, ⊎_elim, codes, nat_lt, drop-drop, cond-true, cond-false, cases_Bool, eq-eqb, eqb-true, and_from, and_left, and_right, false≢true, lt-ltb, le-ltb, both_ways, nat_tests, TableSet, is_one_of, digit_set, allows_past_ascii, valid_prefix_from, valid_prefix, after, allows_first, empty_text_has_empty_valid_prefix, ascii_byte_has_no_continuation, nothing_is_scanned_after_valid_prefix, starts, unexpected, stray_percent, OptionalParseError, last_colon, error_from_path, error_from_host, error_from_name, error_from_authority, is_next, scan_end, Kind, is_empty_or_begins_with_any, port_length, name_and_port_length, name_ends_authority, userinfo_length, left_over_error, name_error, error_after_port, port_error, host_error, userinfo_error, other_authority_error, authority_error}
use Rattle.uri_parts.proofs.Authorities.UserinfoLengths.{userinfo_length-is-valid_prefix, further_userinfo_length-is-valid_prefix}
use Rattle.uri_parts.proofs.Refusals.Colons.{last_colon_is_below_position, last_colon-same-or-later, last_colon-after-colon-is-that-colon, last_colon-without-colons-after}
use Rattle.uri_parts.proofs.Refusals.Rooted.{Adjoins, scan-stops-at-stray-percent-or-goes-on, greater-set-goes-on-with-mark, port-end-by-next-colon, nothing-is-scanned-at-mark, valid_prefix-zero-at-mark, error_after_port-is-from-path, host_error-is-error_from_host}
use Rattle.uri_parts.proofs.Splitting.Cuts.{begins-with-further-mark}
use Rattle.uri_parts.proofs.TextKinds.Separations.{SeparatesComponents}

-- parse errors: a digit, as of a port, is ASCII, and not `:` (58)
digit-is-ascii-and-no-colon : (b : ℕ) (bs : List ℕ) → allows_first digit_set b bs ≡ true
    → (b < 128) × (eqb b 58 ≡ false)
unfolding allows_first allows_past_ascii
digit-is-ascii-and-no-colon b bs e = grind (arith, nat_tests)

-- parse errors: a digit at the start is one more of the leading digits
pub valid_prefix-at-digit-is-one-more : (b : ℕ) (bs : List ℕ) → allows_first digit_set b bs ≡ true
    → valid_prefix digit_set (b ∷ bs) ≡ valid_prefix digit_set bs + 1
unfolding valid_prefix_from
valid_prefix-at-digit-is-one-more b bs e =
    grind (arith, nat_tests, ascii_byte_has_no_continuation, digit-is-ascii-and-no-colon)

-- parse errors: another byte at the start begins no digits
pub valid_prefix-at-other-byte-is-zero : (b : ℕ) (bs : List ℕ) → allows_first digit_set b bs ≡ false
    → valid_prefix digit_set (b ∷ bs) ≡ 0
unfolding valid_prefix_from
valid_prefix-at-other-byte-is-zero b bs e = cond-false _ _ _ e

leading-digits-hold-no-colon : (bs : List ℕ) (k : ℕ)
    → k < valid_prefix digit_set bs → starts 58 (drop k bs) ≡ false
leading-digits-hold-no-colon [] k l = absurd
    (let z = empty_text_has_empty_valid_prefix digit_set in omega arith)
leading-digits-hold-no-colon (b ∷ bs) zero l =
    grind (arith, nat_tests, digit-is-ascii-and-no-colon, valid_prefix-at-other-byte-is-zero)
leading-digits-hold-no-colon (b ∷ bs) (suc k) l = ⊎_elim (λ e. leading-digits-hold-no-colon bs k
    (let z = valid_prefix-at-digit-is-one-more b bs e in omega arith))
    (λ e. absurd (let z = valid_prefix-at-other-byte-is-zero b bs e in omega arith))
    (cases_Bool (allows_first digit_set b bs))

-- parse errors: what ends an authority is no delimiter within one
record Ended (bs : List ℕ) : Type 0 where
  percent : starts 37 bs ≡ false
  at : starts 64 bs ≡ false
  bracket : starts 91 bs ≡ false
  all : is_empty_or_begins_with_any (codes "@/?#") bs ≡ true

end-of-authority-is-no-inner-mark : (bs : List ℕ) → is_empty_or_begins_with_any (codes "/?#") bs
    ≡ true → Ended bs
unfolding is_empty_or_begins_with_any
end-of-authority-is-no-inner-mark [] e =
    record { percent = refl; at = refl; bracket = refl; all = refl }
end-of-authority-is-no-inner-mark (b ∷ bs) e = grind (arith, nat_tests)

-- parse errors: a text that begins with one of some delimiters passes the test for them
text-with-mark-begins-with-any : (mark : ℕ) (marks bs : List ℕ) → is_one_of marks mark ≡ true
    → starts mark bs ≡ true → is_empty_or_begins_with_any marks bs ≡ true
unfolding is_empty_or_begins_with_any
text-with-mark-begins-with-any mark marks [] m e = absurd (false≢true e)
text-with-mark-begins-with-any mark marks (b ∷ bs) m e = ap (is_one_of marks) (eqb-true b mark e)
    ∙ m

-- parse errors: a text begins with one byte and so with no other
pub text-begins-with-one-byte-alone : (mark other : ℕ) (bs : List ℕ)
    → eqb mark other ≡ false → starts mark bs ≡ true → starts other bs ≡ false
text-begins-with-one-byte-alone mark other [] n e = absurd (false≢true e)
text-begins-with-one-byte-alone mark other (b ∷ bs) n e = ap (λ c. eqb c other) (eqb-true b mark e)
    ∙ n

module _ (segment : TableSet) (kind : Kind) (w : SeparatesComponents segment kind)
    (a : Adjoins kind)
    (text : List ℕ) where
  -- userinfo stops where a name does and there is no `:`
  pub userinfo-stops-with-name-without-colon : (bs : List ℕ) → valid_prefix kind.reg_name bs ≡ 0
      → starts 58 bs ≡ false → valid_prefix kind.userinfo bs ≡ 0
  userinfo-stops-with-name-without-colon bs z c = ⊎_elim (λ n. n)
      (λ m. nothing-is-scanned-at-mark kind.userinfo [] w.userinfo_lacks refl bs
      (begins-with-further-mark 58 [] bs m c))
      (greater-set-goes-on-with-mark (codes ":") kind.reg_name kind.userinfo a.reg_name_octets
      a.userinfo_octets a.only_colon bs z)

  module _ (i : ℕ) (inside : 0 < i) where
    abbrev rest : List ℕ
    rest = drop i text

    abbrev name : ℕ
    name = scan_end text kind.reg_name i

    abbrev suffix : ℕ
    suffix = i + name_and_port_length kind rest

    abbrev user : ℕ
    user = scan_end text kind.userinfo i

    suffix-is-after-name-and-port : suffix ≡ name + port_length (drop name text)
    unfolding name_and_port_length
    suffix-is-after-name-and-port =
        let d = ap port_length (drop-drop (valid_prefix kind.reg_name rest) i text) in omega
        (arith, d)

    userinfo-end-is-scanned-from-suffix : user ≡ scan_end text kind.userinfo suffix
    unfolding userinfo_length
    userinfo-end-is-scanned-from-suffix =
        let u = userinfo_length-is-valid_prefix segment kind w rest in
        let m = further_userinfo_length-is-valid_prefix segment kind w
        (drop (name_and_port_length kind rest) rest) in
        let d = ap (valid_prefix kind.userinfo)
        (drop-drop (name_and_port_length kind rest) i text) in
        omega (arith, u, m, d)

    -- what `error_from_name` returns, by whether more of userinfo comes after the name and the port
    abbrev found : OptionalParseError
    found = cond (eqb suffix user) (error_after_port kind text user)
        (cond (nat_lt (last_colon text user) suffix) (Some (unexpected suffix))
        (Some (unexpected (last_colon text user))))

    name-without-colon-ends-userinfo : is_next text 58 name ≡ false → (suffix ≡ name)
        × (user ≡ name)
    name-without-colon-ends-userinfo e =
        let p = port-end-by-next-colon segment kind w a text name ∙ cond-false _ _ _ e in
        let b : suffix ≡ name = suffix-is-after-name-and-port ∙ p in
        let here : drop name text ≡ after kind.reg_name rest =
        sym (drop-drop (valid_prefix kind.reg_name rest) i text) in
        let z = userinfo-stops-with-name-without-colon (drop name text)
        (ap (valid_prefix kind.reg_name) here
        ∙ nothing_is_scanned_after_valid_prefix kind.reg_name rest) e in
        let z' = ap (λ n. valid_prefix kind.userinfo (drop n text)) b in
        (b, omega (arith, userinfo-end-is-scanned-from-suffix, b, z, z'))

    name-error-without-colon : is_next text 58 name ≡ false → error_from_name kind text i user
        ≡ found
    unfolding error_from_name
    name-error-without-colon e =
        let n = name-without-colon-ends-userinfo e in
        let l = last_colon_is_below_position text user (omega (arith, n.1, inside)) in
        cond-false _ _ _ (le-ltb name (last_colon text user) (omega (arith, n.1)))
        ∙ cond-false _ _ _ (and_left _ _ (le-ltb name user (omega (arith, n.1))))
        ∙ sym (error_after_port-is-from-path segment kind w a text user)
        ∙ sym (cond-true _ _ _ (eq-eqb suffix user (n.0 ∙ sym n.1)))

    name-error-with-colon : is_next text 58 name ≡ true → error_from_name kind text i user ≡ found
    unfolding error_from_name
    name-error-with-colon e =
        let port : ℕ = scan_end text digit_set (name + 1) in
        let b : suffix ≡ port = suffix-is-after-name-and-port
        ∙ port-end-by-next-colon segment kind w a text name ∙ cond-true _ _ _ e in
        let at_name : last_colon text suffix ≡ name = ap (last_colon text) b
        ∙ last_colon-without-colons-after text (name + 1) (valid_prefix digit_set
        (drop (name + 1) text)) (λ j l. ap (starts 58) (sym (drop-drop j (name + 1) text))
        ∙ leading-digits-hold-no-colon (drop (name + 1) text) j l)
        ∙ last_colon-after-colon-is-that-colon text name e in
        let more : ℕ = valid_prefix kind.userinfo (drop suffix text) in
        let same : suffix + more ≡ user = sym userinfo-end-is-scanned-from-suffix in
        let long : name < port = omega arith in
        ⊎_elim (λ d.
        let u : suffix ≡ user = eqb-true suffix user d in
        let l : last_colon text user ≡ name = ap (last_colon text) (sym u) ∙ at_name in
        cond-false _ _ _ (le-ltb name (last_colon text user) (omega (arith, l)))
        ∙ cond-false _ _ _ (and_right _ _ (le-ltb port user (omega (arith, b, u)))) ∙ sym
        (error_after_port-is-from-path segment kind w a text user) ∙ sym (cond-true _ _ _ d)) (λ d.
        let ne : suffix ≢ user = λ u. both_ways _ d (eq-eqb suffix user u) in
        let more_than : suffix < user = omega (arith, same, ne) in
        ⊎_elim (λ h.
        let l : last_colon text user ≡ name = ap (last_colon text) (sym same) ∙ h ∙ at_name in
        cond-false _ _ _ (le-ltb name (last_colon text user) (omega (arith, l)))
        ∙ cond-true _ _ _ (and_from _ _ (lt-ltb name user (omega (arith, b, more_than)))
        (lt-ltb port user (omega (arith, b, more_than))))
        ∙ ap (λ n. Some (unexpected n)) (sym b) ∙ sym (cond-false _ _ _ d
        ∙ cond-true _ _ _ (lt-ltb (last_colon text user) suffix (omega (arith, l, b))))) (λ h.
        let l : suffix ≤ last_colon text user = omega (arith, h, ap (last_colon text) same) in
        cond-true _ _ _ (lt-ltb name (last_colon text user) (omega (arith, l, b)))
        ∙ sym (cond-false _ _ _ d ∙ cond-false _ _ _ (le-ltb (last_colon text user) suffix l)))
        (last_colon-same-or-later text suffix more)) (cases_Bool (eqb suffix user))

    error_from_name-is-found : error_from_name kind text i user ≡ found
    error_from_name-is-found = ⊎_elim name-error-with-colon name-error-without-colon
        (cases_Bool (is_next text 58 name))

    -- by what is after the userinfo
    abbrev stray : Bool
    stray = kind.userinfo.pct_encoded && is_next text 37 user

    abbrev split : (ℕ → OptionalParseError) → OptionalParseError → OptionalParseError
    split host other = cond stray (Some (stray_percent user))
        (cond (is_next text 64 user) (host (user + 1)) other)

    authority-error-by-what-follows-userinfo : error_from_authority kind text i
        ≡ split (error_from_host kind text)
        (cond (eqb user i) (error_from_host kind text i) (error_from_name kind text i user))
    unfolding error_from_authority
    authority-error-by-what-follows-userinfo = scan-stops-at-stray-percent-or-goes-on text
        kind.userinfo i (λ end. cond (is_next text 64 end) (error_from_host kind text (end + 1))
        (cond (eqb end i) (error_from_host kind text i) (error_from_name kind text i end)))

    -- a host alone
    host-error-without-bracket-is-after-port : is_next text 91 i ≡ false
        → error_from_host kind text i ≡ error_after_port kind text suffix
    unfolding host_error port_error
    host-error-without-bracket-is-after-port e = sym
        (host_error-is-error_from_host segment kind w a text i) ∙ cond-false _ _ _ e
        ∙ ap (error_after_port kind text) (sym suffix-is-after-name-and-port)

    name-ends-authority-iff-mark-follows-port : name_ends_authority kind rest
        ≡ is_empty_or_begins_with_any (codes "/?#") (drop suffix text)
    unfolding name_ends_authority
    name-ends-authority-iff-mark-follows-port = ap (is_empty_or_begins_with_any (codes "/?#"))
        (drop-drop (name_and_port_length kind rest) i text)

    error-after-port-by-next-mark : (b : Bool) → is_empty_or_begins_with_any (codes "/?#")
        (drop suffix text) ≡ b
        → error_after_port kind text suffix
        ≡ cond b (error_from_path kind text suffix) (left_over_error kind text suffix)
    unfolding error_after_port
    error-after-port-by-next-mark b e = ap (λ t. cond t (error_from_path kind text suffix)
        (left_over_error kind text suffix)) e

    authority-error-after-whole-host-is-from-path : is_empty_or_begins_with_any (codes "/?#")
        (drop suffix text) ≡ true
        → error_from_path kind text suffix ≡ error_from_authority kind text i
    authority-error-after-whole-host-is-from-path f =
        let o = end-of-authority-is-no-inner-mark (drop suffix text) f in
        let u : user ≡ suffix =
        let z = valid_prefix-zero-at-mark (codes "@/?#") kind.userinfo w.userinfo_lacks
        w.userinfo_marks
        (drop suffix text) o.all in omega (arith, userinfo-end-is-scanned-from-suffix, z) in
        sym (authority-error-by-what-follows-userinfo ∙ cond-false _ _ _ (and_right _ _
        (ap (is_next text 37) u ∙ o.percent)) ∙ cond-false _ _ _ (ap (is_next text 64) u ∙ o.at)
        ∙ ⊎_elim (λ d. cond-true _ _ _ d ∙ host-error-without-bracket-is-after-port
        (ap (is_next text 91) (sym (eqb-true user i d) ∙ u) ∙ o.bracket)
        ∙ error-after-port-by-next-mark true f) (λ d. cond-false _ _ _ d ∙ error_from_name-is-found
        ∙ cond-true _ _ _ (eq-eqb suffix user (sym u)) ∙ ap (error_after_port kind text) u
        ∙ error-after-port-by-next-mark true f) (cases_Bool (eqb user i)))

    authority-error-of-bracketed-host : is_next text 91 i ≡ true → host_error kind text i
        ≡ error_from_authority kind text i
    authority-error-of-bracketed-host e =
        let z = valid_prefix-zero-at-mark (codes "[") kind.userinfo w.userinfo_lacks
        w.userinfo_starts rest (text-with-mark-begins-with-any 91 (codes "[") rest refl e) in
        let u : user ≡ i = omega (arith, z) in
        host_error-is-error_from_host segment kind w a text i
        ∙ sym (authority-error-by-what-follows-userinfo ∙ cond-false _ _ _ (and_right _ _
        (ap (is_next text 37) u ∙ text-begins-with-one-byte-alone 91 37 rest refl e))
        ∙ cond-false _ _ _ (ap (is_next text 64) u
        ∙ text-begins-with-one-byte-alone 91 64 rest refl e) ∙ cond-true _ _ _ (eq-eqb user i u))

    suffix-is-between-start-and-userinfo-end : (i ≤ suffix) × (suffix ≤ user)
    suffix-is-between-start-and-userinfo-end =
        (omega arith, omega (arith, userinfo-end-is-scanned-from-suffix))

    found-error-is-name-error : is_empty_or_begins_with_any (codes "/?#") (drop suffix text) ≡ false
        → found ≡ name_error kind text suffix user
    unfolding name_error
    found-error-is-name-error f = ⊎_elim (λ d. cond-true _ _ _ d ∙ ap (error_after_port kind text)
        (sym (eqb-true suffix user d)) ∙ error-after-port-by-next-mark false f
        ∙ ap (left_over_error kind text) (eqb-true suffix user d) ∙ sym (cond-true _ _ _ d))
        (λ d. cond-false _ _ _ d ∙ sym (cond-false _ _ _ d)) (cases_Bool (eqb suffix user))

    name-error-of-unbracketed-host : is_empty_or_begins_with_any (codes "/?#") (drop suffix text)
        ≡ false → is_next text 91 i ≡ false → name_error kind text suffix user
        ≡ cond (eqb user i) (error_from_host kind text i) (error_from_name kind text i user)
    unfolding name_error
    name-error-of-unbracketed-host f e = ⊎_elim (λ d.
        let same : suffix ≡ user = let h = eqb-true user i d in omega (
          arith,
          suffix-is-between-start-and-userinfo-end.0,
          suffix-is-between-start-and-userinfo-end.1,
        ) in
        cond-true _ _ _ (eq-eqb suffix user same) ∙ ap (left_over_error kind text) (sym same)
        ∙ sym (error-after-port-by-next-mark false f) ∙ sym (cond-true _ _ _ d
        ∙ host-error-without-bracket-is-after-port e)) (λ d. sym (cond-false _ _ _ d
        ∙ error_from_name-is-found ∙ found-error-is-name-error f)) (cases_Bool (eqb user i))

    authority-error-with-userinfo : is_empty_or_begins_with_any (codes "/?#") (drop suffix text)
        ≡ false → is_next text 91 i ≡ false
        → userinfo_error kind text suffix ≡ error_from_authority kind text i
    unfolding userinfo_error name_error
    authority-error-with-userinfo f e = ⊎_elim (λ m.
        let z = valid_prefix-zero-at-mark
        (codes "@/?#") kind.userinfo w.userinfo_lacks w.userinfo_marks (drop suffix text)
        (text-with-mark-begins-with-any 64 (codes "@/?#") (drop suffix text) refl m) in
        let u : user ≡ suffix = omega (arith, userinfo-end-is-scanned-from-suffix, z) in
        cond-true _ _ _ m ∙ host_error-is-error_from_host segment kind w a text (suffix + 1)
        ∙ sym (authority-error-by-what-follows-userinfo ∙ cond-false _ _ _ (and_right _ _
        (ap (is_next text 37) u ∙ text-begins-with-one-byte-alone 64 37 (drop suffix text) refl m))
        ∙ cond-true _ _ _ (ap (is_next text 64) u ∙ m)
        ∙ ap (λ n. error_from_host kind text (n + 1)) u)) (λ m. cond-false _ _ _ m
        ∙ scan-stops-at-stray-percent-or-goes-on text kind.userinfo suffix (λ end. cond
        (is_next text 64 end) (host_error kind text (end + 1)) (name_error kind text suffix end))
        ∙ ap (λ n. cond (kind.userinfo.pct_encoded && is_next text 37 n) (Some (stray_percent n))
        (cond (is_next text 64 n) (host_error kind text (n + 1)) (name_error kind text suffix n)))
        (sym userinfo-end-is-scanned-from-suffix) ∙ ap (λ h. split (λ n. h)
        (name_error kind text suffix user)) (host_error-is-error_from_host segment kind w a text
        (user + 1)) ∙ ap (split (error_from_host kind text)) (name-error-of-unbracketed-host f e)
        ∙ sym authority-error-by-what-follows-userinfo) (cases_Bool (is_next text 64 suffix))

    pub authority_error-is-error_from_authority : authority_error kind text i
        ≡ error_from_authority kind text i
    unfolding authority_error other_authority_error
    authority_error-is-error_from_authority =
        ⊎_elim (λ f. cond-true _ _ _ (name-ends-authority-iff-mark-follows-port ∙ f)
        ∙ authority-error-after-whole-host-is-from-path f)
        (λ f. cond-false _ _ _ (name-ends-authority-iff-mark-follows-port ∙ f)
        ∙ ⊎_elim (λ e. cond-true _ _ _ e ∙ authority-error-of-bracketed-host e) (λ e.
        cond-false _ _ _ e ∙ authority-error-with-userinfo f e) (cases_Bool (is_next text 91 i)))
        (cases_Bool (is_empty_or_begins_with_any (codes "/?#") (drop suffix text)))

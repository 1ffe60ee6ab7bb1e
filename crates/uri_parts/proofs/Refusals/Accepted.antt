-- A text has no error exactly where it is parsed.
use Rattle.uri_parts.proofs.Common.{◌≡◌, ℕ, ◌+◌, Bool, true, false, not, cond, eqb, List, drop, Some, ap, None, refl, subst, ◌∙◌, arith, lit<, ⊎_elim, ◌&&◌, zero-add, add-zero, add_assoc, drop-drop, and-false, and-true, and_assoc, Ok, Err, codes, is_none, is_ok, Result, result_err, IsUtf8, cases_Bool, and_left, and_right, not_from_false, and_parts, IsUtf8-drop, nat_tests, TableSet, scheme_set, valid_prefix, valid_prefix_ends_at_boundary, ParseError, starts, has_authority, Kind, OptionalParseError, ◌>>=◌, error_from_end, error_from_fragment, error_from_query, error_from_path, error_from_relative_path, is_next, scan_end, scan, is_empty_or_begins_with_any, port_length, name_and_port_length, name_ends_authority, host_end, host_and_port_length, userinfo_length, further_userinfo_length, host_offset, other_authority_length, found_authority_length, left_over_error, name_error, error_after_port, port_error, host_error, userinfo_error, parsed_error, other_authority_error, authority_error, hier_part_error, schemeless_error}
use Rattle.uri_parts.proofs.Parsing.Acceptance.{passes_host, finds_host, passes_user, finds_other, finds_authority, parses_fragment, parses_end, parses_path, parses_authority, parses_relative, parses_hier_part, parses_schemeless, parses}
use Rattle.uri_parts.proofs.Authorities.UserinfoLengths.{userinfo_length-is-valid_prefix}
use Rattle.uri_parts.proofs.Parsing.ScanStops.{utf8_after_mark, utf8_after_slashes}
use Rattle.uri_parts.proofs.Refusals.LiteralEnds.{literal-ends-as-parsed}
use Rattle.uri_parts.proofs.Refusals.Names.{text-begins-with-one-byte-alone}
use Rattle.uri_parts.proofs.Splitting.Relative.{scheme_set_lacks_percent}
use Rattle.uri_parts.proofs.TextKinds.Separations.{SeparatesComponents}

pub result-is-ok-iff-no-error : {A E : Type 0} (r : Result A E) → is_ok r ≡ is_none (result_err r)
result-is-ok-iff-no-error (Ok x) = refl
result-is-ok-iff-no-error (Err e) = refl

-- general fact on options, for parse errors:
-- there is none exactly if there is none in the case that holds
is_none-of-cond : (b : Bool) (x y : OptionalParseError) → is_none (cond b x y)
    ≡ cond b (is_none x) (is_none y)
is_none-of-cond true x y = refl
is_none-of-cond false x y = refl

-- general fact on options, for parse errors
some-error-is-not-none : (e : ParseError) → is_none (Some e) ≡ false
some-error-is-not-none e = refl

-- general fact on options, for parse errors
no-error-is-none : is_none {T = ParseError} None ≡ true
no-error-is-none = refl

-- general fact on booleans, for parse errors
cond-or-false-is-and : (b x : Bool) → cond b x false ≡ (b && x)
cond-or-false-is-and true x = refl
cond-or-false-is-and false x = refl

-- general fact on booleans, for parse errors
cond-of-false-is-not-and : (b x : Bool) → cond b false x ≡ (not b && x)
cond-of-false-is-not-and true x = refl
cond-of-false-is-not-and false x = refl

-- parse errors: a step that must pass a test b to go on has no
-- error exactly if it passes, and the next has none
step-without-error-needs-test-and-next : (b : Bool) (n : ℕ) (e : ParseError) (next : ℕ
    → OptionalParseError) → is_none (cond b (Ok n) (Err e) >>= next) ≡ (b && is_none (next n))
step-without-error-needs-test-and-next true n e next = refl
step-without-error-needs-test-and-next false n e next = refl

scan-has-no-error-iff-no-stray-percent : (text : List ℕ) (set : TableSet) (next : ℕ
    → OptionalParseError) (i : ℕ) → is_none (scan text set i >>= next) ≡ (not (set.pct_encoded
    && is_next text 37 (scan_end text set i)) && is_none (next (scan_end text set i)))
scan-has-no-error-iff-no-stray-percent text set next i = grind arith

ruleset steps = (
  is_none-of-cond,
  some-error-is-not-none,
  no-error-is-none,
  cond-or-false-is-and,
  cond-of-false-is-not-and,
  scan-has-no-error-iff-no-stray-percent,
  and-true,
  and-false,
  and_assoc,
  drop-drop,
)

-- parse errors: a text that begins with `@` (64) does not begin with a `%`
at-sign-is-no-stray-percent : (set : TableSet) (rest : List ℕ) → starts 64 rest ≡ true
    → not (set.pct_encoded && starts 37 rest) ≡ true
at-sign-is-no-stray-percent set rest e = not_from_false _
    (and_right _ _ (text-begins-with-one-byte-alone 64 37 rest refl e))

module _ (kind : Kind) (text : List ℕ) where
  no-fragment-error-iff-parsed : (i : ℕ) → is_none (error_from_fragment kind text i)
      ≡ parses_fragment kind (drop i text)
  unfolding error_from_fragment error_from_end parses_fragment
  no-fragment-error-iff-parsed i = simp steps refl

  no-query-error-iff-parsed : (i : ℕ) → is_none (error_from_query kind text i)
      ≡ parses_end kind (drop i text)
  unfolding error_from_query parses_end
  no-query-error-iff-parsed i = simp (steps, no-fragment-error-iff-parsed) refl

  no-path-error-iff-parsed : (i : ℕ) → is_none (error_from_path kind text i)
      ≡ parses_path kind (drop i text)
  unfolding error_from_path parses_path
  no-path-error-iff-parsed i = simp (steps, no-query-error-iff-parsed) refl

  no-relative-path-error-iff-parsed : (segment : TableSet) (i : ℕ) → is_none
      (error_from_relative_path kind text segment i) ≡ parses_relative segment kind (drop i text)
  unfolding error_from_relative_path parses_relative
  no-relative-path-error-iff-parsed segment i = simp (steps, no-path-error-iff-parsed) refl

  left-over-text-is-an-error : (i : ℕ) → is_none (left_over_error kind text i) ≡ false
  unfolding left_over_error
  left-over-text-is-an-error i = simp steps refl

  name-error-is-an-error : (i end : ℕ) → is_none (name_error kind text i end) ≡ false
  unfolding name_error
  name-error-is-an-error i end = simp (steps, left-over-text-is-an-error) refl

  -- a port, and what follows it
  abbrev ends : List ℕ → Bool
  ends rest = is_empty_or_begins_with_any (codes "/?#") rest && parses_path kind rest

  no-port-error-iff-parsed : (i : ℕ)
      → is_none (port_error kind text i) ≡ ends (drop (port_length (drop i text)) (drop i text))
  unfolding port_error error_after_port
  no-port-error-iff-parsed i = simp (steps, left-over-text-is-an-error, no-path-error-iff-parsed)
      refl

  abbrev from_length : List ℕ → Bool
  from_length rest = finds_host kind rest && parses_path kind
      (drop (host_and_port_length kind rest) rest)

  no-host-error-iff-parsed : (i : ℕ) → IsUtf8 (drop i text)
      → is_none (host_error kind text i) ≡ from_length (drop i text)
  unfolding host_error finds_host passes_host host_and_port_length host_end
  no-host-error-iff-parsed i u = ⊎_elim (λ (e : starts 91 (drop i text) ≡ true).
      let (x, l) = literal-ends-as-parsed text (i + 1) (subst IsUtf8 (drop-drop 1 i text)
      (utf8_after_mark 91 (lit< tt) (drop i text) e u)) in
      simp (
        e,
        l,
        step-without-error-needs-test-and-next,
        no-port-error-iff-parsed,
        steps,
        add_assoc,
      ) refl) (λ (e : starts 91 (drop i text)
      ≡ false). simp (e, no-port-error-iff-parsed, steps, add_assoc) refl)
      (cases_Bool (starts 91 (drop i text)))

  -- where userinfo ends
  abbrev user : ℕ → ℕ
  user i = i + further_userinfo_length kind (drop i text)

  no-userinfo-error-iff-at-sign-and-host : (i : ℕ) → is_none (userinfo_error kind text i)
      ≡ (starts 64 (drop (user i) text) && is_none (host_error kind text (user i + 1)))
  unfolding userinfo_error further_userinfo_length
  no-userinfo-error-iff-at-sign-and-host i =
      grind (arith, nat_tests, at-sign-is-no-stray-percent, name-error-is-an-error)

  module _ (segment : TableSet) (w : SeparatesComponents segment kind) where
    -- what follows userinfo and its `@`
    no-host-error-after-userinfo-iff-parsed : (i : ℕ) → IsUtf8 (drop i text)
        → let end : ℕ = user (i + name_and_port_length kind (drop i text)) in
        starts 64 (drop end text) ≡ true
        → is_none (host_error kind text (end + 1)) ≡ from_length (drop (end + 1) text)
    unfolding userinfo_length
    no-host-error-after-userinfo-iff-parsed i u e =
        let rest : List ℕ = drop i text in
        let n : ℕ = valid_prefix kind.userinfo rest in
        let end : ℕ = user (i + name_and_port_length kind rest) in
        let a = userinfo_length-is-valid_prefix segment kind w rest in
        let d = ap (further_userinfo_length kind)
        (drop-drop (name_and_port_length kind rest) i text) in
        let long : i + n ≡ end = omega (arith, a, d) in
        no-host-error-iff-parsed (end + 1)
        (subst IsUtf8 (drop-drop 1 end text) (utf8_after_mark 64 (lit< tt) (drop end text) e
        (subst IsUtf8 (drop-drop n i text ∙ ap (λ k. drop k text) long) (IsUtf8-drop rest n u
        (valid_prefix_ends_at_boundary kind.userinfo w.userinfo_lacks rest u)))))

    no-other-authority-error-iff-found : (i : ℕ) → IsUtf8 (drop i text)
        → is_none (other_authority_error kind text i) ≡ (finds_other kind (drop i text)
        && parses_path kind (drop (other_authority_length kind (drop i text)) (drop i text)))
    unfolding other_authority_error finds_other other_authority_length host_offset passes_user
        userinfo_length
    no-other-authority-error-iff-found i u =
        let at : ℕ = i + name_and_port_length kind (drop i text) in
        let end : ℕ = user at in ⊎_elim (λ (b : starts 91 (drop i text)
        ≡ true). simp (b, no-host-error-iff-parsed i u, steps, zero-add, add-zero, add_assoc) refl)
        (λ (b : starts 91 (drop i text) ≡ false). ⊎_elim (λ (e : starts 64 (drop end text) ≡ true).
        let h = simp add_assoc at (no-userinfo-error-iff-at-sign-and-host at
        ∙ ap (λ t. t && is_none (host_error kind text (end + 1))) e
        ∙ no-host-error-after-userinfo-iff-parsed i u e) in
        simp (b, h, simp add_assoc at e, steps, add_assoc)
        refl) (λ (e : starts 64 (drop end text) ≡ false). simp (
          b,
          no-userinfo-error-iff-at-sign-and-host at ∙ and_left _ _ e,
          simp add_assoc at e,
          steps,
          add_assoc,
        ) refl) (cases_Bool (starts 64 (drop end text)))) (cases_Bool (starts 91 (drop i text)))

    no-authority-error-iff-parsed : (i : ℕ) → IsUtf8 (drop i text)
        → is_none (authority_error kind text i) ≡ parses_authority kind (drop i text)
    unfolding authority_error parses_authority finds_authority found_authority_length
    no-authority-error-iff-parsed i u = ⊎_elim (λ (e : name_ends_authority kind (drop i text)
        ≡ true). simp (e, no-path-error-iff-parsed, steps) refl)
        (λ (e : name_ends_authority kind (drop i text)
        ≡ false). simp (e, no-other-authority-error-iff-found i u, steps) refl)
        (cases_Bool (name_ends_authority kind (drop i text)))

    no-error-after-slashes-iff-parsed : (i : ℕ) → IsUtf8 (drop i text) → has_authority (drop i text)
        ≡ true
        → is_none (authority_error kind text (i + 2)) ≡ parses_authority kind (drop (i + 2) text)
    no-error-after-slashes-iff-parsed i u a = no-authority-error-iff-parsed
        (i + 2) (subst IsUtf8 (drop-drop 2 i text) (utf8_after_slashes (drop i text) a u))

    no-hier-part-error-iff-parsed : (i : ℕ) → IsUtf8 (drop i text)
        → is_none (hier_part_error kind text i) ≡ parses_hier_part kind (drop i text)
    unfolding hier_part_error parses_hier_part
    no-hier-part-error-iff-parsed i u = ⊎_elim (λ (a : has_authority (drop i text)
        ≡ true). simp (a, no-error-after-slashes-iff-parsed i u a, steps) refl)
        (λ (a : has_authority (drop i text)
        ≡ false). simp (a, no-path-error-iff-parsed, steps) refl)
        (cases_Bool (has_authority (drop i text)))

    no-schemeless-error-iff-parsed : (i : ℕ) → IsUtf8 (drop i text) → is_none
        (schemeless_error segment kind text i) ≡ parses_schemeless segment kind i (drop i text)
    unfolding schemeless_error parses_schemeless
    no-schemeless-error-iff-parsed i u = ⊎_elim
        (λ (a : (eqb i 0 && has_authority (drop i text)) ≡ true).
        simp (a, no-error-after-slashes-iff-parsed i u (and_parts (eqb i 0) _ a).1, steps) refl)
        (λ (a : (eqb i 0 && has_authority (drop i text)) ≡ false). simp
        (a, no-relative-path-error-iff-parsed, steps) refl)
        (cases_Bool (eqb i 0 && has_authority (drop i text)))

    pub no-error-iff-text-is-parsed : IsUtf8 text → is_none (parsed_error segment kind text)
        ≡ parses segment kind text
    unfolding parsed_error parses
    no-error-iff-text-is-parsed u =
        let n : ℕ = valid_prefix scheme_set text in
        let v = IsUtf8-drop text n u
        (valid_prefix_ends_at_boundary scheme_set scheme_set_lacks_percent text u) in ⊎_elim
        (λ (e : starts 58 (drop n text) ≡ true). simp (
          e,
          no-hier-part-error-iff-parsed (n + 1) (subst IsUtf8 (drop-drop 1 n text)
              (utf8_after_mark 58 (lit< tt) (drop n text) e v)),
          steps,
          zero-add,
        ) refl) (λ (e : starts 58 (drop n text)
        ≡ false). simp (e, no-schemeless-error-iff-parsed n v, steps, zero-add) refl)
        (cases_Bool (starts 58 (drop n text)))

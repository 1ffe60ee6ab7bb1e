use Rattle.uri_ops.proofs.Common.{◌≡◌, ◌<◌, ◌≤◌, List, ℕ, true, length, arith, ap, option_map, sym, subst, ◌∙◌, IfSome, is_some, IsUtf8, both_ways, authority_parts, authority_text, Components, components, core_text, positions_of, AreUnchanged, HasUnchangedOctets, IsUnchangedPort, IsUnchangedPrefix, is_unchanged_at, default_port_of, text_underflows}
use Rattle.uri_ops.proofs.Normal.UnchangedPaths.{path-of-unchanged-text-is-unchanged, text-has-unchanged-octets}
use Rattle.uri_ops.proofs.Normal.UnchangedTexts.{unchanged-text-is-its-normal-text}
use Rattle.uri_ops.proofs.TextKinds.FourKinds.{one-of-four-kinds-has-sets}
use Rattle.uri_ops.proofs.normalize.unchanged.is_found_normal_by_ports.Goals as goal
use Rattle.uri_ops.proofs.normalize.unchanged.is_found_normal_by_ports.Goals.{then-has_scheme, else-has_scheme}

unchanged : (g : _) (c : goal.After-is_port_unchanged g) → c.is_unchanged_from.result ≡ true
    → HasUnchangedOctets c.lacks_past_ascii.result (core_text c.args.core)
    × AreUnchanged (components (core_text c.args.core))
unchanged g c e =
    let text : List ℕ = core_text c.args.core in
    let p : Components = components text in
    let alone = c.lacks_past_ascii.result in
    let start : ℕ = c.unchanged_prefix_len-start.result in
    let limit : ℕ = c.if-has_scheme.limit in
    let later : 0 < start = omega (arith, c.if-start-eq0.false) in
    let prefix : IsUnchangedPrefix text start = c.unchanged_prefix_len-start.ensures later in
    let each : (k : ℕ) → start ≤ k → k < length text → is_unchanged_at alone limit text k ≡ true =
    subst (λ t. (k : ℕ) → start ≤ k → k < length t → is_unchanged_at alone limit t k ≡ true)
    (c.as_bytes-bytes.ensures.value ∙ c.as_str.ensures.text) (c.is_unchanged_from.ensures e) in
    let ends : is_some p.scheme ≡ true → limit ≡ (positions_of p).path_end =
    λ some. elim c.if-has_scheme.branch [
      | then-has_scheme w ↦ w.limit-is ∙ ap (λ q. q.path_end) w.packed_positions.ensures
      | else-has_scheme w ↦ absurd (both_ways _ (sym c.has_scheme.ensures ∙ w.if-has_scheme.false)
          some)
    ] in (
      text-has-unchanged-octets alone text start limit later prefix.literal each,
      record {
        scheme = prefix.scheme;
        host = prefix.host;
        path = path-of-unchanged-text-is-unchanged alone text start limit later prefix.literal
            each prefix.path ends;
      },
    )

pub returns-then-is_unchanged_from-clause-text : goal.returns-then-is_unchanged_from-clause-text
returns-then-is_unchanged_from-clause-text g c = λ e.
    let kind = g.K.Kind.kind in
    let text = core_text c.args.core in
    let ports = (g.S.SchemeRules.rules_of c.args.rules.now).ports in
    let both = unchanged g c c.if-is_unchanged_from.true in
    let port : IfSome (components text).authority (λ a. IsUnchangedPort
    (default_port_of ports (components text).scheme) (authority_parts a).port) =
    subst (λ o. IfSome o (λ a. IsUnchangedPort (default_port_of ports (components text).scheme)
    (authority_parts a).port)) c.authority.ensures (subst (λ s. IfSome
    (option_map authority_text c.authority.result) (λ a. IsUnchangedPort (default_port_of ports s)
    (authority_parts a).port)) c.scheme.ensures (c.is_port_unchanged.ensures e)) in
    unchanged-text-is-its-normal-text kind (one-of-four-kinds-has-sets kind g.met.K.Kind.known)
    c.lacks_past_ascii.result c.lacks_past_ascii.ensures ports text (record {
      utf8 = subst IsUtf8 c.as_str.ensures.text c.as_str.utf8;
      grammar = c.args.core.of_kind;
    }) both.0 both.1 port

pub returns-then-is_unchanged_from-clause-underflow :
    goal.returns-then-is_unchanged_from-clause-underflow
unfolding text_underflows
returns-then-is_unchanged_from-clause-underflow g c =
    λ e. (unchanged g c c.if-is_unchanged_from.true).1.path.underflow

use Rattle.uri_relative.proofs.Common.{◌≡◌, ap, arith, length, length-append, rules, string_bytes, subst, ◌++◌, ◌∙◌, sym, None, false, IsAbemptyPath, recompose, components_of, components-are-split-of-text, IsPathTo, shortest_or_preferred_path, IsShortestPath}
use Rattle.uri_relative.proofs.Forms.{path-form-is-reference}
use Rattle.uri_relative.proofs.RootedTargets.{base-that-is-not-opaque-is-rooted}
use Rattle.uri_relative.proofs.Leading.{pushed-path-and-tail-are-appended}
use Rattle.uri_relative.proofs.Rules.{rule-gives-path-for-same-authority, unguarded-path-is-without-dots}
use Rattle.uri_relative.proofs.reference.push_reference_with_path.Goals as goal

pub push_path-requires : goal.push_path-requires
push_path-requires c = record {
  base = subst IsAbemptyPath (sym c.path.ensures)
      (base-that-is-not-opaque-is-rooted c.args.base.now.text.now c.requires.path.opaque);
  path = c.without_guard.ensures.absolute;
  dotless = c.without_guard.ensures.dotless;
}

pub returns-clause-leads : goal.returns-clause-leads
returns-clause-leads c =
    let b = components_of c.args.base.now in
    let t = components_of c.args.target.now in
    let found = c.in_ok-push_path.ensures.way in
    let p = c.requires.path in
    let old = string_bytes c.args.out.now in
    let new = string_bytes c.push_path.new.out in
    let start : c.len-start.result ≡ length old = search rules in
    let end : c.len.result ≡ length new = search rules in (
      record t { scheme = None; authority = None; path = found.0 },
      pushed-path-and-tail-are-appended (string_bytes c.args.out.now)
          (string_bytes c.push_path.new.out) (string_bytes c.push_str.new.self) found.0
          c.after_path.result.now _ found.1 c.in_ok-push_str.ensures.bytes c.after_path.ensures,
      c.positions_with_path.ensures found.0
          (omega (arith, start, end, ap length found.1, length-append old found.0)),
      λ kind w. path-form-is-reference kind c.args.prefers_relative b t w
          c.without_guard.result.now found.0 p.scheme p.authority
          (base-that-is-not-opaque-is-rooted c.args.base.now.text.now p.opaque) p.opaque
          c.without_guard.ensures
          (subst (λ q. IsPathTo q c.without_guard.result.now found.0) c.path.ensures found.2)
          found.3
          (subst (λ q. c.args.prefers_relative ≡ false
          → IsShortestPath q c.without_guard.result.now found.0) c.path.ensures found.4)
          (components-are-split-of-text c.args.base.now.text.now).no_authority p.needs p.absolute,
    )

pub returns-clause-text : goal.returns-clause-text
returns-clause-text c =
    let b = components_of c.args.base.now in
    let t = components_of c.args.target.now in
    let p = c.requires.path in
    let prefers = c.args.prefers_relative in
    let path = c.without_guard.result.now in
    pushed-path-and-tail-are-appended (string_bytes c.args.out.now)
    (string_bytes c.push_path.new.out) (string_bytes c.push_str.new.self)
    (shortest_or_preferred_path prefers c.path.result.now path) c.after_path.result.now _
    c.in_ok-push_path.ensures.text c.in_ok-push_str.ensures.bytes c.after_path.ensures ∙ ap
    (λ r. string_bytes c.args.out.now ++ recompose r) (rule-gives-path-for-same-authority prefers b
    t p.scheme p.authority p.needs p.opaque p.absolute
    (shortest_or_preferred_path prefers c.path.result.now path)
    (ap (λ q. shortest_or_preferred_path prefers q path) c.path.ensures ∙ ap
    (shortest_or_preferred_path prefers b.path)
    (unguarded-path-is-without-dots t path c.without_guard.ensures)))

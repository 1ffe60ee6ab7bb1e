use Rattle.uri_ops.proofs.Common.{◌≡◌, [], ◌+◌, ◌++◌, ap, codes, cond, false, length, string_bytes, ◌∙◌, components, marked, core_text, before_path, changed_components}
use Rattle.uri_ops.proofs.Builders.BuilderGrowth.{string_len-is-length-of-bytes}
use Rattle.uri_ops.proofs.SchemeRules.RuledCopies.{changed-copy-has-positions}
use Rattle.uri_ops.proofs.normalize.ruled_copies.changed_copy.Goals as goal

pub returns-clause-places : goal.returns-clause-places
returns-clause-places g c =
    let p = components (core_text c.args.core) in
    let drops = c.args.drops_host in
    let prefix = c.prefix_under_rules-prefix.result.now in
    let root = c.added_path-root.result.now in
    let seen = c.of_core-view.ensures.components in
    let written : string_bytes c.push_short_str.new.out ≡ prefix ++ root =
    c.in_ok-push_short_str.ensures ∙ ap (λ t. t ++ root) (c.in_ok-push_str.ensures.bytes
    ∙ ap (λ t. t ++ prefix) c.in_ok-text.ensures.bytes) in
    let end : c.len-end.result ≡ length (prefix ++ root) = c.len-end.ensures
    ∙ string_len-is-length-of-bytes c.push_short_str.new.out ∙ ap length written in
    let path = c.path-path.ensures ∙ ap (λ q. q.path) seen in
    let query = c.query_with_delimiter.ensures ∙ ap (λ q. marked (codes "?") q.query []) seen in
    let places = c.packed_positions.ensures in
    c.shifted.ensures ∙ (λ i. record (places i) {
      host_end = cond drops (places i).host_start (places i).host_end;
      path_start = length prefix;
      path_end = c.len-end.result + length c.path-path.result.now;
      query_end = c.len-end.result
          + (length c.path-path.result.now + length c.query_with_delimiter.result.now);
    }) ∙ changed-copy-has-positions drops c.args.adds_root p c.requires.root prefix root
    (c.prefix_under_rules-prefix.ensures ∙ ap (λ q. before_path (changed_components drops false q))
    seen) c.added_path-root.ensures _ _ c.requires.host (λ i. end i + length (path i)) (λ i. end i
    + (length (path i) + length (query i)))

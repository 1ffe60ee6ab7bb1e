use Rattle.uri_relative.proofs.Common.{◌≡◌, ◌+◌, ◌≤◌, false, length, drop, subst, sym, ap, ◌∙◌, arith, None, OnOk, not-true, not-false, guarded, slashes, relative_path, IsShortestPath}
use Rattle.uri_pct.specs.Texts.{Pushes}
use Rattle.uri_relative.proofs.Ways.{path-from-root-leads-to-path, relative-path-leads-to-path, pushed-path-leads-to-path, boundary-after-last-slash, shared-prefix-of-equals, pushed-relative-path-leads-to-path, relative-path-is-no-longer-than-from-root}
use Rattle.uri_ops.proofs.Offered.{slice_from-is-drop}
use Rattle.uri_relative.proofs.ShortestPaths.{path-from-root-is-shorter, last-shared-slash-of-equals, no-longer-than-both-paths-is-shortest}
use Rattle.uri_relative.proofs.Rules.{relative-path-by-longest-prefix, relative-path-if-no-longer, path-from-root-for-base-with-dots, path-from-root-if-shorter}
use Rattle.uri_relative.proofs.paths.push_path.Goals as goal

pub returns-then-has_dot_segments-clause-way : goal.returns-then-has_dot_segments-clause-way
returns-then-has_dot_segments-clause-way c = pushed-path-leads-to-path _ _
    (λ way. c.args.prefers_relative ≡ false → length way ≤ length (guarded None c.args.path.now))
    (λ way. c.args.prefers_relative ≡ false → IsShortestPath c.args.base.now c.args.path.now way)
    (guarded None c.args.path.now) c.args.base.now c.args.path.now c.push_guarded_path.ensures
    (path-from-root-leads-to-path c.args.base.now c.args.path.now c.requires.path c.requires.dotless
    c.utf8.path)
    (λ _. omega arith) (grind (arith, not-true))

pub returns-then-has_dot_segments-clause-text : goal.returns-then-has_dot_segments-clause-text
returns-then-has_dot_segments-clause-text c = subst
    (λ way. OnOk c.push_guarded_path.result (Pushes c.args.out.now c.push_guarded_path.new.out way))
    (grind (arith, path-from-root-for-base-with-dots, not-true)) c.push_guarded_path.ensures

pub range_from-rest-requires : goal.range_from-rest-requires
range_from-rest-requires c = λ _. grind (arith, boundary-after-last-slash)

pub returns-then-uses_relative_path-clause-way : goal.returns-then-uses_relative_path-clause-way
returns-then-uses_relative_path-clause-way c =
    let n = c.last_shared_slash-last.result + 1 in
    let base = c.path_or_slash-base.result.now in
    let path = c.args.path.now in
    let fits = λ (e : c.args.prefers_relative ≡ false). relative-path-is-no-longer-than-from-root n
    path c.range_from-rest.result.now
    (relative_path c.count_slashes-double_dots.result c.range_from-rest.result.now)
    c.guard_len-guard.result c.range_from-rest.ensures.value (grind arith)
    c.guard_len-guard.ensures.length
    (c.uses_relative_path.ensures.short c.if-uses_relative_path.true e) in
    let double_dots : c.count_slashes-double_dots.result ≡ slashes (drop n base) =
    grind (arith, slice_from-is-drop) in
    pushed-relative-path-leads-to-path _ _
    (λ way. c.args.prefers_relative ≡ false → length way ≤ length (guarded None path))
    (λ way. c.args.prefers_relative ≡ false → IsShortestPath c.args.base.now path way) n base
    c.args.base.now path c.count_slashes-double_dots.result c.range_from-rest.result.now double_dots
    c.range_from-rest.ensures.value c.push_relative_path.ensures (relative-path-leads-to-path n base
    c.args.base.now path c.path_or_slash-base.ensures.directory
    c.path_or_slash-base.ensures.absolute
    (not-false _ (sym c.has_dot_segments.ensures ∙ c.if-has_dot_segments.false)) c.requires.path
    c.requires.dotless c.utf8.path (shared-prefix-of-equals n _ _ _ _ c.as_bytes.ensures.value
    c.as_bytes-2.ensures.value c.last_shared_slash-last.ensures.shared)) fits
    (λ e. no-longer-than-both-paths-is-shortest c.args.base.now base path _
    c.last_shared_slash-last.result
    c.path_or_slash-base.ensures.directory c.path_or_slash-base.ensures.absolute
    (not-false _ (sym c.has_dot_segments.ensures ∙ c.if-has_dot_segments.false))
    (last-shared-slash-of-equals c.as_bytes.result.now base c.as_bytes-2.result.now path
    c.last_shared_slash-last.result c.as_bytes.ensures.value c.as_bytes-2.ensures.value
    (record {
      in_base = c.last_shared_slash-last.ensures.in_base;
      in_path = c.last_shared_slash-last.ensures.in_path;
      base_at = c.last_shared_slash-last.ensures.base_at;
      path_at = c.last_shared_slash-last.ensures.path_at;
      longest = c.last_shared_slash-last.ensures.longest;
    })) (fits e) (omega (
      arith,
      ap (λ m. length (relative_path m c.range_from-rest.result.now)) double_dots,
      ap (λ t. length (relative_path (slashes (drop n base)) t)) c.range_from-rest.ensures.value,
    )))

pub returns-then-uses_relative_path-clause-text : goal.returns-then-uses_relative_path-clause-text
returns-then-uses_relative_path-clause-text c =
    let n = c.last_shared_slash-last.result + 1 in
    let base = c.path_or_slash-base.result.now in
    let path = c.args.path.now in
    let rest = c.range_from-rest.result.now in
    let double_dots : c.count_slashes-double_dots.result ≡ slashes (drop n base) =
    grind (arith, slice_from-is-drop) in
    let found = relative-path-by-longest-prefix c.args.base.now base path c.as_bytes.result.now
    c.as_bytes-2.result.now rest c.last_shared_slash-last.result c.count_slashes-double_dots.result
    c.path_or_slash-base.ensures.root c.as_bytes.ensures.value c.as_bytes-2.ensures.value
    c.last_shared_slash-last.ensures.in_base c.last_shared_slash-last.ensures.shared
    c.last_shared_slash-last.ensures.longest double_dots c.range_from-rest.ensures.value in
    let within : n ≤ length path = grind arith in
    grind (arith, relative-path-if-no-longer, not-false, relative-path-is-no-longer-than-from-root)

pub returns-clause-way : goal.returns-clause-way
returns-clause-way c =
    let n = c.last_shared_slash-last.result + 1 in
    let base = c.path_or_slash-base.result.now in
    let path = c.args.path.now in
    let rest = c.range_from-rest.result.now in
    let double_dots : c.count_slashes-double_dots.result ≡ slashes (drop n base) =
    grind (arith, slice_from-is-drop) in
    let within : n ≤ length path = grind arith in
    pushed-path-leads-to-path _ _
    (λ way. c.args.prefers_relative ≡ false → length way ≤ length (guarded None path))
    (λ way. c.args.prefers_relative ≡ false → IsShortestPath c.args.base.now path way)
    (guarded None path) c.args.base.now path c.push_guarded_path-2.ensures
    (path-from-root-leads-to-path c.args.base.now path c.requires.path c.requires.dotless
    c.utf8.path)
    (λ _. omega arith)
    (λ _. no-longer-than-both-paths-is-shortest c.args.base.now base path (guarded None path)
    c.last_shared_slash-last.result c.path_or_slash-base.ensures.directory
    c.path_or_slash-base.ensures.absolute
    (not-false _ (sym c.has_dot_segments.ensures ∙ c.if-has_dot_segments.false))
    (last-shared-slash-of-equals c.as_bytes.result.now base c.as_bytes-2.result.now path
    c.last_shared_slash-last.result c.as_bytes.ensures.value c.as_bytes-2.ensures.value
    (record {
      in_base = c.last_shared_slash-last.ensures.in_base;
      in_path = c.last_shared_slash-last.ensures.in_path;
      base_at = c.last_shared_slash-last.ensures.base_at;
      path_at = c.last_shared_slash-last.ensures.path_at;
      longest = c.last_shared_slash-last.ensures.longest;
    })) (omega arith) (omega (
      arith,
      path-from-root-is-shorter n c.guard_len-guard.result path rest
          (relative_path c.count_slashes-double_dots.result rest) c.range_from-rest.ensures.value
          within c.guard_len-guard.ensures.length
          (c.uses_relative_path.ensures.longer c.if-uses_relative_path.false),
      ap (λ m. length (relative_path m rest)) double_dots,
      ap (λ t. length (relative_path (slashes (drop n base)) t)) c.range_from-rest.ensures.value,
    )))

pub returns-clause-text : goal.returns-clause-text
returns-clause-text c =
    let n = c.last_shared_slash-last.result + 1 in
    let base = c.path_or_slash-base.result.now in
    let path = c.args.path.now in
    let rest = c.range_from-rest.result.now in
    let double_dots : c.count_slashes-double_dots.result ≡ slashes (drop n base) =
    grind (arith, slice_from-is-drop) in
    let found = relative-path-by-longest-prefix c.args.base.now base path c.as_bytes.result.now
    c.as_bytes-2.result.now rest c.last_shared_slash-last.result c.count_slashes-double_dots.result
    c.path_or_slash-base.ensures.root c.as_bytes.ensures.value c.as_bytes-2.ensures.value
    c.last_shared_slash-last.ensures.in_base c.last_shared_slash-last.ensures.shared
    c.last_shared_slash-last.ensures.longest double_dots c.range_from-rest.ensures.value in
    let within : n ≤ length path = grind arith in
    grind (arith, path-from-root-if-shorter, path-from-root-is-shorter)

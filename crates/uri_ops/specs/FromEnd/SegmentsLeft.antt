-- The segments that are left of a path when its dot segments are removed: RFC 3986, section 5.2.4.
use Rattle.std.specs.Prelude.{◌≡◌, ◌<◌, ◌||◌, ◌++◌, ℕ, zero, suc, Bool, true, false, List, ◌∷◌, codes, length, if◌then◌else◌}
use Rattle.uri_pct.specs.Prelude.{slash}
use Rattle.uri_parts.specs.Prelude.{starts}
use Rattle.uri_ops.specs.Dots.{before_last_slash, has_slash, is_double_dot, is_empty, is_single_dot, remove_dot_segments}

-- whether a path may follow an authority: it is empty or begins with `/` (section 3.3)
abbrev pub is_abempty_path : List ℕ → Bool
is_abempty_path path = is_empty path || starts slash path

-- The segments that are left of a prefix of a path, each with the `/` before it: `/a/c` of
-- `/a/b/../c`, and `/a` of `/a/b/..`.
-- A `/` closes the last segment, so that a dot segment leaves no `/` of its own.
unfoldable pub segments_left : List ℕ → List ℕ
segments_left prefix = before_last_slash (remove_dot_segments (prefix ++ codes "/"))

-- the segments that are left with one more segment: a double dot takes the last one
abbrev pub with_segment : List ℕ → List ℕ → List ℕ
with_segment left segment =
    if is_single_dot segment then left
    else (if is_double_dot segment then before_last_slash left else left ++ slash ∷ segment)

-- the segments that are left without the last ones, as many as double dots after them take
unfoldable pub without_last_segments : ℕ → List ℕ → List ℕ
without_last_segments zero left = left
without_last_segments (suc climbs) left = without_last_segments climbs (before_last_slash left)

-- the last segment that is left of a path, and the prefix of the path that the other segments that
-- are left are in
pub record IsLastSegmentLeft (path prefix segment : List ℕ) : Type 0 where
  pub left : segments_left path ≡ segments_left prefix ++ slash ∷ segment
  pub rooted : is_abempty_path prefix ≡ true
  pub lacks_slash : has_slash segment ≡ false
  pub shorter : length prefix < length path

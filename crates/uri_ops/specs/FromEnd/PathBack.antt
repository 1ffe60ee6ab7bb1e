-- What is left of a path that is read from its end: RFC 3986, sections 6.2.2.2 and 6.2.2.3.
use Rattle.std.specs.Prelude.{ℕ, false, List, [], ◌++◌, codes, if◌then◌else◌}
use Rattle.uri_pct.specs.Prelude.{set_of}
use Rattle.uri_ops.specs.declared.read_back.path_back.PathBack.{PathBack}
use Rattle.uri_ops.specs.FromEnd.NormalComponents.{normal_component}
use Rattle.uri_ops.specs.FromEnd.OctetsBack.{octets_unread}
use Rattle.uri_ops.specs.FromEnd.SegmentsLeft.{segments_left}

-- the text that is left of a path: the segments that are left of its prefix, decoded, and then the
-- current segment with the `/` before it, as far as they are left
abbrev pub path_unread : PathBack → List ℕ
path_unread p = normal_component false (set_of p.table) (segments_left p.rest.now)
    ++ ((if p.follows_slash then codes "/" else []) ++ octets_unread p.segment)

use Rattle.uri_ops.proofs.Common.{arith, subst, IsUtf8-from_is_utf8, is_utf8-from_IsUtf8, set_of, octets_unread, segments_left}
use Rattle.uri_ops.proofs.FromEnd.PathBack.{IsDecodableText, decodable-text-splits, unread-of-begun-segment, unread-of-read-path}
use Rattle.uri_ops.specs.Dots.{remove_dot_segments, run}
use Rattle.uri_ops.proofs.read_back.path_back.PathBack.begin_segment.Goals as goal

pub new-requires : goal.new-requires
new-requires c =
    let path = c.args.self.now in
    let whole : IsDecodableText (segments_left path.rest.now) = (
      IsUtf8-from_is_utf8 (segments_left path.rest.now) path.utf8,
      path.valid,
    ) in
    let parts = decodable-text-splits (segments_left c.in-Some.prefix.now) c.in-Some.segment.now
    (subst IsDecodableText c.in-Some.ensures.left whole) in
    parts.1.1

pub invariant_of-self : goal.invariant_of-self
invariant_of-self c =
    let path = c.args.self.now in
    let whole : IsDecodableText (segments_left path.rest.now) = (
      IsUtf8-from_is_utf8 (segments_left path.rest.now) path.utf8,
      path.valid,
    ) in
    let parts = decodable-text-splits (segments_left c.in-Some.prefix.now) c.in-Some.segment.now
    (subst IsDecodableText c.in-Some.ensures.left whole) in
    record {
      rooted = c.in-Some.ensures.rooted;
      utf8 = is_utf8-from_IsUtf8 (segments_left c.in-Some.prefix.now) parts.0.0;
      valid = parts.0.1;
    }

pub returns-in-Some-clause-same : goal.returns-in-Some-clause-same
returns-in-Some-clause-same c =
    let path = c.args.self.now in
    let whole : IsDecodableText (segments_left path.rest.now) = (
      IsUtf8-from_is_utf8 (segments_left path.rest.now) path.utf8,
      path.valid,
    ) in
    let parts = decodable-text-splits (segments_left c.in-Some.prefix.now) c.in-Some.segment.now
    (subst IsDecodableText c.in-Some.ensures.left whole) in
    unread-of-begun-segment (set_of path.table) path.follows_slash (segments_left path.rest.now)
    (segments_left c.in-Some.prefix.now) c.in-Some.segment.now (octets_unread c.new.result)
    (octets_unread path.segment) c.if-self.false c.requires parts.0.0 c.in-Some.ensures.left
    c.new.ensures

pub returns-in-None-clause-none : goal.returns-in-None-clause-none
returns-in-None-clause-none c = grind (arith, unread-of-read-path)

pub returns-then-is_empty-clause-none : goal.returns-then-is_empty-clause-none
unfolding segments_left remove_dot_segments run
returns-then-is_empty-clause-none c = grind (arith, unread-of-read-path)

use Rattle.uri_ops.proofs.Common.{arith, inr, is_utf8-from_IsUtf8, segments_left}
use Rattle.uri_ops.proofs.FromEnd.PathBack.{empty-text-is-decodable, segments_left-are-decodable, unread-of-dotless-path}
use Rattle.uri_ops.proofs.FromEnd.SegmentsLeft.{abempty-path-passes-test}
use Rattle.uri_ops.proofs.read_back.path_back.PathBack.dotless.Goals as goal

pub new-requires : goal.new-requires
new-requires c = empty-text-is-decodable.1

pub invariant_of-result : goal.invariant_of-result
invariant_of-result c =
    let left = segments_left-are-decodable c.args.path.now c.ends_in_dot_segment.result
    c.requires.absolute (c.utf8.path, c.requires.valid) c.ends_in_dot_segment.ensures in
    record {
      rooted = abempty-path-passes-test c.args.path.now (inr c.requires.absolute);
      utf8 = is_utf8-from_IsUtf8 (segments_left c.args.path.now) left.0;
      valid = left.1;
    }

pub returns : goal.returns
returns c = grind (arith, segments_left-are-decodable, unread-of-dotless-path)

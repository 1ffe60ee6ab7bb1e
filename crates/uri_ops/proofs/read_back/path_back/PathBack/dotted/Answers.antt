use Rattle.uri_ops.proofs.Common.{[], refl, ap, subst, sym, ◌∙◌, is_utf8, is_utf8-from_IsUtf8, widest_set, set_of, IsValidFor, octets_unread}
use Rattle.uri_ops.proofs.FromEnd.PathBack.{empty-text-is-decodable, unread-of-dotted-path}
use Rattle.uri_ops.proofs.FromEnd.SegmentsLeft.{segments_left-of-nothing}
use Rattle.uri_ops.proofs.read_back.path_back.PathBack.dotted.Goals as goal

pub invariant_of-result : goal.invariant_of-result
invariant_of-result c = record {
  rooted = refl;
  utf8 = ap is_utf8 segments_left-of-nothing ∙ is_utf8-from_IsUtf8 [] empty-text-is-decodable.0;
  valid = subst (IsValidFor widest_set) (sym segments_left-of-nothing) empty-text-is-decodable.1;
}

pub returns : goal.returns
returns c = unread-of-dotted-path (set_of c.args.table.now) c.args.path.now
    (octets_unread c.new.result) c.new.ensures

use Rattle.uri_ops.proofs.Common.{components_of}
use Rattle.uri_ops.proofs.Targeting.TargetCases.{base-scheme-before-reference-authority, reference-authority-after-base-scheme}
use Rattle.uri_ops.proofs.resolve.dotted_target.with_authority.Goals as goal

pub returns : goal.returns
returns c =
    let b = components_of c.args.base.now in
    let r = components_of c.args.reference.now in
    record {
      before = base-scheme-before-reference-authority b r c.scheme_with_delimiter-scheme.result.now
          c.before_path.result.now c.requires c.scheme_with_delimiter-scheme.ensures
          c.before_path.ensures;
      path = c.path.ensures;
      rooted = tt;
      query = c.query_with_delimiter.ensures;
      fragment = c.fragment_with_delimiter.ensures;
      scheme_end = c.scheme_end.ensures;
      authority = reference-authority-after-base-scheme b r
          c.scheme_with_delimiter-scheme.result.now c.authority_after.result
          c.scheme_with_delimiter-scheme.ensures c.authority_after.ensures;
    }

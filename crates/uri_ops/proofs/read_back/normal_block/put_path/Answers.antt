use Rattle.uri_ops.proofs.Common.{◌≡◌, ◌&&◌, false, true, arith, subst, IsUtf8, is_some, starts, text_of}
use Rattle.uri_ops.proofs.Meanings.Decodable.{valid-text-is-decodable}
use Rattle.uri_ops.proofs.FromEnd.Blocks.{put_text_is_slice}
use Rattle.uri_ops.proofs.FromEnd.NormalParts.{normal_path_under_scheme, path_after_authority_gets_no_guard, path_without_two_slashes_gets_no_guard}
use Rattle.uri_ops.proofs.Normal.NormalPieces.{absolute-is-leading-slash, path-with-dots-is-normal-when-decoded}
use Rattle.uri_ops.proofs.read_back.normal_block.put_path.Goals as goal

pub put_decoded_path-start-requires-clause-valid : goal.put_decoded_path-start-requires-clause-valid
put_decoded_path-start-requires-clause-valid g c = valid-text-is-decodable
    c.table.result g.E.Encoder.set c.as_str.result.now c.table.ensures c.as_str.ensures.valid

pub returns-then-not-removes_dots-clause-text : goal.returns-then-not-removes_dots-clause-text
returns-then-not-removes_dots-clause-text g c = λ scheme authority s a some.
    let path = text_of c.args.path in
    elim c.then-not-removes_dots.branch [
      | goal.then-not-removes_dots-via-then-not-removes_dots w ↦
          let off : (is_some scheme && starts 47 path) ≡ false =
          grind (arith, absolute-is-leading-slash) in
          let same = path-with-dots-is-normal-when-decoded g.E.Encoder.set c.requires.set scheme
          authority path (subst IsUtf8 c.as_str.ensures.text c.as_str.utf8) c.args.path.valid off in
          grind (arith)
      | goal.then-not-removes_dots-via-else-not-removes_dots+then-has_authority w ↦
          let on : is_some scheme ≡ true = grind (arith) in
          let absolute : starts 47 path ≡ true = grind (arith, absolute-is-leading-slash) in
          let under = normal_path_under_scheme g.E.Encoder.set scheme authority path on absolute in
          grind (arith, path_after_authority_gets_no_guard)
    ]

pub returns-clause-text : goal.returns-clause-text
returns-clause-text g c = λ scheme authority s a some.
    let path = text_of c.args.path in
    let on : is_some scheme ≡ true = grind (arith) in
    let absolute : starts 47 path ≡ true = grind (arith, absolute-is-leading-slash) in
    let under = normal_path_under_scheme g.E.Encoder.set scheme authority path on absolute in
    let slice = put_text_is_slice _ _ _ _ _ c.told-block c.put_decoded_path-start.array_long
    c.requires.end c.put_decoded_path-start.ensures.within c.put_decoded_path-start.ensures.text
    some in
    grind (arith, path_without_two_slashes_gets_no_guard)

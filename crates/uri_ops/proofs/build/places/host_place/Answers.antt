use Rattle.uri_ops.proofs.Common.{◌≡◌, length, sym, ap, ◌∙◌, arith, option_map, text_of, authority_text, host_start_of, delimited_length}
use Rattle.uri_ops.proofs.Builders.DraftHosts.{host-range-from-ends}
use Rattle.uri_ops.proofs.build.places.host_place.Goals as goal
use Rattle.uri_ops.proofs.build.places.host_place.Goals.{in-Some, in-None}

pub returns : goal.returns
returns g c =
    let a = authority_text c.args.authority in
    let start : c.match-userinfo.start ≡ host_start_of a = elim c.match-userinfo.branch [
      | in-Some w ↦
          let same = ap (delimited_length 1)
          (sym (ap (option_map text_of) w.in-Some.is) ∙ c.userinfo.ensures) in
          omega (arith, w.start-is, w.len.ensures, same)
      | in-None w ↦
          let same = ap (delimited_length 1)
          (sym (ap (option_map text_of) w.in-None.is) ∙ c.userinfo.ensures) in
          omega (arith, w.start-is, same)
    ] in
    let host = ap length c.host-host_len.ensures in
    host-range-from-ends _ _ _ a c.args.authority.valid start (omega (arith, start, host))

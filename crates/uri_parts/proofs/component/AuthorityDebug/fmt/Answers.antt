use Rattle.uri_parts.proofs.Common.{ap, subst, ◌∙◌, List, ℕ, Option, take-length, DisplaysOnOk, debug_option, debug_str, text_of, authority_parts, authority_text, host_kind, debug_authority}
use Rattle.uri_parts.proofs.PrintedComponents.{debug_option-of-map, debug_host-of-kind, debug_authority_of-equal}
use Rattle.uri_parts.proofs.component.AuthorityDebug.fmt.Goals as goal

pub returns-then-is_plain : goal.returns-then-is_plain
unfolding debug_authority
returns-then-is_plain g c =
    let host : List ℕ = (authority_parts (authority_text c.args.self.now)).host in
    record {
      writes = subst (λ (o : Option (List ℕ)). DisplaysOnOk g.W.Write.write_str_gives c.args.f.now
          c.write.result o c.write.new.self) (debug_authority_of-equal (debug_option-of-map
          text_of debug_str c.userinfo-userinfo.result ∙ ap (debug_option debug_str)
          c.userinfo-userinfo.ensures) (ap debug_str (take-length c.host-host.result.now
          ∙ c.host-host.ensures)) (debug_host-of-kind c.host_parsed-parsed.result
          (host_kind host) host c.host_parsed-parsed.ensures.kind c.host_parsed-parsed.ensures.name)
          (debug_option-of-map text_of debug_str c.port-port.result
          ∙ ap (debug_option debug_str) c.port-port.ensures)) c.write.ensures.writes;
    }

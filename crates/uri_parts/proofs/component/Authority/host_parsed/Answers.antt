use Rattle.uri_parts.proofs.Common.{◌≡◌, ◌∙◌, ap, sym, true, false, Some, None, arith, starts, host_kind}
use Rattle.uri_parts.specs.Addresses.{ipv4_octets, ipv6_segments}
use Rattle.uri_parts.proofs.Authorities.AuthorityPlaces.{holds, reg_name_host_is_valid, kind_of_unbracketed_host, kind_of_bracketed_host, host_in_brackets_is_closed}
use Rattle.uri_parts.proofs.component.Authority.host_parsed.Goals as goal

pub new_or_panic-requires : goal.new_or_panic-requires
new_or_panic-requires g c = grind (arith, holds, reg_name_host_is_valid)

pub range-requires-clause-end_boundary : goal.range-requires-clause-end_boundary
range-requires-clause-end_boundary g c = (host_in_brackets_is_closed g.R.Encoder.set
    c.host-host.result.now _ (grind (arith, holds)) (sym c.in-Some.ensures.begins)
    c.in-Some.ensures.rest).0

pub returns-in-Some-parse-clause-kind : goal.returns-in-Some-parse-clause-kind
returns-in-Some-parse-clause-kind g c =
    let host = c.host-host.result.now in
    let s : starts 91 host ≡ true = sym c.in-Some.ensures.begins in
    let a = c.range.ensures.value ∙ (host_in_brackets_is_closed g.R.Encoder.set host _
    (grind (arith, holds)) s c.in-Some.ensures.rest).1 in
    kind_of_bracketed_host host c.range.result.now
    (Some (ipv6_segments c.in-Some-parse.address)) s a c.in-Some-parse.ensures
    ∙ ap host_kind c.host-host.ensures

pub returns-in-None-parse-clause-kind : goal.returns-in-None-parse-clause-kind
returns-in-None-parse-clause-kind g c =
    let host = c.host-host.result.now in
    let s : starts 91 host ≡ true = sym c.in-Some.ensures.begins in
    let a = c.range.ensures.value ∙ (host_in_brackets_is_closed g.R.Encoder.set host _
    (grind (arith, holds)) s c.in-Some.ensures.rest).1 in
    kind_of_bracketed_host host c.range.result.now None s a c.in-None-parse.ensures
    ∙ ap host_kind c.host-host.ensures

pub returns-in-Some-parse-2-clause-kind : goal.returns-in-Some-parse-2-clause-kind
returns-in-Some-parse-2-clause-kind g c =
    let host = c.host-host.result.now in
    let s : starts 91 host ≡ false = sym c.in-None.ensures.begins in
    kind_of_unbracketed_host host (Some (ipv4_octets c.in-Some-parse-2.address))
    s c.in-Some-parse-2.ensures ∙ ap host_kind c.host-host.ensures

pub returns-in-None-parse-2-clause-kind : goal.returns-in-None-parse-2-clause-kind
returns-in-None-parse-2-clause-kind g c =
    let host = c.host-host.result.now in
    let s : starts 91 host ≡ false = sym c.in-None.ensures.begins in
    kind_of_unbracketed_host host None s c.in-None-parse-2.ensures
    ∙ ap host_kind c.host-host.ensures

use Rattle.uri_parts.proofs.Common.{◌≡◌, ◌-◌, IsCharBoundary, ipv4_end, octets_end}
use Rattle.uri_parts.proofs.ip_literal.ipv4_end.Given as goal

abbrev pub invariant-loop-dots : goal.invariant-loop-dots
invariant-loop-dots l = record {
  boundary : IsCharBoundary l.text l.end;
  left : ipv4_end l.text l.start ≡ octets_end l.text (3 - l.dots) l.end;
}

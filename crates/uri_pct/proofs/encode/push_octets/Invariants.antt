use Rattle.uri_pct.proofs.Common.{◌≡◌, ◌++◌, map, take, string_bytes, Octet, print}
use Rattle.uri_pct.proofs.encode.push_octets.Given as goal

abbrev pub invariant-loop-byte : goal.invariant-loop-byte
invariant-loop-byte l = string_bytes l.out
    ≡ string_bytes l.fn.out ++ print (map Octet (take l.byte-index l.bytes))

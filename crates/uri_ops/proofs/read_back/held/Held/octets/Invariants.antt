-- The octets of the bytes so far are held.
use Rattle.uri_ops.proofs.Common.{◌≡◌, ◌*◌, take, map, Octet, print, held_text}
use Rattle.uri_ops.proofs.read_back.held.Held.octets.Given as goal

abbrev pub invariant-loop-byte : goal.invariant-loop-byte
invariant-loop-byte l = record {
  text : held_text l.held ≡ print (map Octet (take l.byte-index l.utf8));
  len : l.held.len ≡ 3 * l.byte-index;
}

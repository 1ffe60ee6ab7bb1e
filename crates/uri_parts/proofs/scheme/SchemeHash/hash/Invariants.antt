use Rattle.uri_parts.proofs.Common.{◌≡◌, take, fold, flat_map, str_to_ascii_lowercase}
use Rattle.std.specs.Hash as fed
use Rattle.uri_parts.proofs.scheme.SchemeHash.hash.Given as goal

abbrev pub invariant-loop-byte : goal.invariant-loop-byte
invariant-loop-byte g l = l.state ≡ fold g.H.Hasher.write l.initial.state (flat_map fed.u8
    (str_to_ascii_lowercase (take l.byte-index l.bytes)))

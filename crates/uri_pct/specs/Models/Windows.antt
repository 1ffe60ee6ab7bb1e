-- What a window on a run of octets holds: RFC 3986, section 2.1.
use Rattle.std.specs.Prelude.{ℕ, List, take}
use Rattle.uri_pct.specs.declared.window.Window.{Window}

-- the bytes that a `Window` on a run of percent-encoded octets holds: of its array the first `len`
abbrev pub window_bytes : Window → List ℕ
window_bytes w = take w.len w.bytes

use Rattle.uri_parts.proofs.Common.{◌≡◌, ◌≤◌, ◌-◌, ◌==◌, true, take, drop, length, Some, read_segments, read_separator}
use Rattle.std.specs.Net.Reader.{after}
use Rattle.uri_parts.proofs.address_reader.read_groups.Given as goal

abbrev pub invariant-loop-i : goal.invariant-loop-i
invariant-loop-i l = record {
  found : read_segments l.room true (drop l.start l.text)
      ≡ after (take l.i l.segments) (read_segments (l.room - l.i) (l.i == 0) (drop l.end l.text));
  next : Some (drop l.group l.text) ≡ read_separator (l.i == 0) (drop l.end l.text);
  group : l.group ≤ length l.text;
  end : l.end ≤ length l.text;
  others : drop l.i l.segments ≡ drop l.i l.fn.segments;
}

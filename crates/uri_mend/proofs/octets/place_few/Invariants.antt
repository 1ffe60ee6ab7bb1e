use Rattle.uri_mend.proofs.Common.{◌≡◌, ◌+◌, ◌-◌, ◌*◌, ◌≤◌, ◌++◌, length, map, take, Octet, print}
use Rattle.uri_mend.proofs.octets.place_few.Given as goal

abbrev pub invariant-loop-done : goal.invariant-loop-done
invariant-loop-done l = record {
  inside : l.done ≤ length l.bytes;
  at : l.at ≡ l.start + 3 * l.done;
  text : take l.at l.out ≡ take l.start l.fn.out ++ print (map Octet (take l.done l.bytes));
}

abbrev pub decreases-loop-done : goal.decreases-loop-done
decreases-loop-done l = length l.bytes - l.done

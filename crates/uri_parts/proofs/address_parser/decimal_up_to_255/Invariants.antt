use Rattle.uri_parts.proofs.Common.{◌≡◌, ◌≤◌, take, AllDigits, digits_value}
use Rattle.uri_parts.proofs.address_parser.decimal_up_to_255.Given as goal

abbrev pub invariant-loop-byte : goal.invariant-loop-byte
invariant-loop-byte l = record {
  counted : l.count ≡ l.byte-index;
  digits : AllDigits 10 (take l.count l.text);
  value : l.value ≡ digits_value 10 (take l.count l.text);
  small : l.value ≤ 255;
}

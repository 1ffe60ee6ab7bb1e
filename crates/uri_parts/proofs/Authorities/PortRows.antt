-- Rows of the table of default ports, and ports as numbers.
use Rattle.uri_parts.proofs.Common.{◌≡◌, [], map, refl, Some, None, codes, str_to_ascii_lowercase, scheme_ports, default_port}
use Rattle.uri_parts.specs.Ports.{port_number}

names-of-default-ports-are-lower-case : map (λ row. str_to_ascii_lowercase row.0) scheme_ports
    ≡ map (λ row. row.0) scheme_ports
names-of-default-ports-are-lower-case = refl

each-row-gives-its-default-port : map (λ row. default_port row.0) scheme_ports
    ≡ map (λ row. Some row.1) scheme_ports
unfolding default_port
each-row-gives-its-default-port = refl

-- examples of default ports: a scheme that is not in the table has none
unknown-scheme-has-no-default-port : default_port (codes "httpx") ≡ None
unfolding default_port
unknown-scheme-has-no-default-port = refl

-- examples of default ports: a scheme in upper case has that of the scheme in lower case
default-port-ignores-case : default_port (str_to_ascii_lowercase (codes "COAP+TCP")) ≡ Some 5683
unfolding default_port
default-port-ignores-case = refl

leading-zeros-keep-port-number : port_number (Some (codes "00000000000000000080")) ≡ Some 80
leading-zeros-keep-port-number = refl

port-number-may-pass-65535 : port_number (Some (codes "65536")) ≡ Some 65536
port-number-may-pass-65535 = refl

empty-port-has-no-number : port_number (Some []) ≡ None
empty-port-has-no-number = refl

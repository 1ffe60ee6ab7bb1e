-- The setting of an order of normal forms: RFC 3986, section 6.2.3.
use Rattle.uri_order.specs.declared.normal_order.NormalOrder.{NormalOrder}

-- the setting of an order: the rules of schemes that normal forms are under
abbrev pub scheme_rules_of : {S : Type 0} → NormalOrder S → S
scheme_rules_of order = order.rules

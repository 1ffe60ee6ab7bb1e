use Rattle.fluent_uri_c.proofs.Places.{AreSpansOf-of-equal-text, AreSpansOf-with-authority}
use Rattle.fluent_uri_c.proofs.parts.write_parts.Goals as goal

pub returns-in-Some-clause-spans : goal.returns-in-Some-clause-spans
returns-in-Some-clause-spans g c =
    let made = c.write_authority.ensures in
    AreSpansOf-of-equal-text _ _ _ c.as_str-text.ensures.text
    (AreSpansOf-with-authority c.as_str-text.result.now c.write_authority.new.parts
    c.scheme_up_to-parts.result c.path-parts.result c.query-parts.result c.fragment-parts.result
    made.index made.scheme made.path made.query made.fragment
    c.scheme_up_to-parts.ensures c.path-parts.ensures c.query-parts.ensures c.fragment-parts.ensures
    made.authority made.userinfo made.host made.port made.host_kind)

pub returns-in-None-clause-spans : goal.returns-in-None-clause-spans
returns-in-None-clause-spans g c =
    let made = c.write_authority-in-None.ensures in
    AreSpansOf-of-equal-text _ _ _ c.as_str-text.ensures.text
    (AreSpansOf-with-authority c.as_str-text.result.now c.write_authority-in-None.new.parts
    c.no_scheme-parts.result c.path-parts.result c.query-parts.result c.fragment-parts.result
    made.index made.scheme made.path made.query made.fragment
    c.no_scheme-parts.ensures c.path-parts.ensures c.query-parts.ensures c.fragment-parts.ensures
    made.authority made.userinfo made.host made.port made.host_kind)

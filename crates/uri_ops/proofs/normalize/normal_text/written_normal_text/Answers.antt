use Rattle.uri_ops.proofs.Common.{◌≡◌, [], ◌+◌, ◌++◌, codes, length, sym, ap, ◌∙◌, option_map, rules, string_bytes, subst, is_some, IsUtf8, authority_text, components, marked, core_text, IsTextOf, packed, authority_meaning, meaning_of, default_port_of, normal_authority_with_delimiter, normal_authority, normal_part, normal_parts, normal_path_text, normal_scheme, normal_text, path_underflows, text_underflows, ruled_components, ruled_text, authority_parts_at, is_some-option_map}
use Rattle.uri_parts.specs.Schemes.{scheme_text}
use Rattle.uri_ops.proofs.Builders.BuilderGrowth.{string_len-is-length-of-bytes}
use Rattle.uri_ops.proofs.Normal.NormalPieces.{is_some-of-mapped-twice}
use Rattle.uri_ops.proofs.Normal.NormalPlaces.{written-positions-are-of-normal-text}
use Rattle.uri_ops.proofs.Normal.WrittenPlaces.{pushed-components-are-normal-text}
use Rattle.uri_ops.proofs.SchemeRules.RuledParts.{ruled-components-underflow-alike}
use Rattle.uri_ops.proofs.SchemeRules.RuledTexts.{components-of-ruled_text, ruled-text-has-meaning-under, ruled-text-is-text-of-kind}
use Rattle.uri_ops.proofs.normalize.normal_text.written_normal_text.Goals as goal

pub ruled_path-path-requires : goal.ruled_path-path-requires
ruled_path-path-requires g c = c.requires

pub returns : goal.returns
unfolding text_underflows
returns g c =
    let kind = g.K.Kind.kind in
    let scheme_rules = g.S.SchemeRules.rules_of c.args.rules.now in
    let ports = scheme_rules.ports in
    let given = core_text c.args.core in
    let given_is_of_kind : IsTextOf kind given = record {
      utf8 = subst IsUtf8 c.as_str.ensures.text c.as_str.utf8;
      grammar = c.args.core.of_kind;
    } in
    let text = ruled_text kind scheme_rules given in
    let p = components text in
    let split = components-of-ruled_text kind scheme_rules c.requires given in
    let scheme = c.scheme-scheme.ensures ∙ ap (λ q. q.scheme) (sym split) in
    let given_authority = c.ruled_authority-authority.ensures ∙ ap (λ q. q.authority) (sym split) in
    let given_path = c.ruled_path-path.ensures ∙ ap (λ q. q.path) (sym split) in
    let query = c.query.ensures ∙ ap (λ q. q.query) (sym split) in
    let fragment = c.fragment.ensures ∙ ap (λ q. q.fragment) (sym split) in
    let meaning = authority_meaning kind (default_port_of ports p.scheme) in
    let authority = option_map normal_authority (option_map meaning p.authority) in
    let old = string_bytes c.in_ok-text.text in
    let empty : old ≡ [] = search rules in
    let o1 = string_bytes c.push_scheme.new.out in
    let o2 = string_bytes c.push_authority.new.out in
    let o3 = string_bytes c.push_normal_path.new.out in
    let o4 = string_bytes c.push_with_delimiter.new.out in
    let users = sym g.met.K.Kind.userinfo_set in
    let names = sym g.met.K.Kind.reg_name_set in
    let has_scheme : is_some p.scheme ≡ c.is_some.result =
    ap is_some (sym scheme) ∙ is_some-option_map scheme_text _ ∙ sym c.is_some.ensures in
    let written = pushed-components-are-normal-text kind ports text old o1 o2 o3 o4
    (string_bytes c.push_with_delimiter-2.new.out) c.len-path_start.result c.len-path_end.result
    c.in_ok-scheme_end.scheme_end c.in_ok-query_end.query_end c.in_ok-places.places
    (c.in_ok-scheme_end.ensures.text
    ∙ (λ i. old ++ marked [] (normal_scheme (scheme i)) (codes ":")))
    (c.in_ok-places.ensures.text kind users names ∙ (λ i. o1
    ++ normal_authority_with_delimiter kind (default_port_of ports (scheme i)) (given_authority i)))
    (c.in_ok-underflows.ensures.text p.scheme authority has_scheme
    (is_some-of-mapped-twice meaning normal_authority p.authority ∙ ap is_some (sym given_authority)
    ∙ is_some-option_map authority_text _ ∙ sym c.is_some-has_authority.ensures)
    ∙ (λ i. o2 ++ normal_path_text (g.met.K.Kind.path_set i) p.scheme authority (given_path i)))
    (c.in_ok-query_end.ensures.text
    ∙ (λ i. o3 ++ marked (codes "?") (normal_part (g.met.K.Kind.query_set i) (query i)) []))
    (c.in_ok-push_with_delimiter.ensures.text
    ∙ (λ i. o4 ++ marked (codes "#") (normal_part (g.met.K.Kind.fragment_set i) (fragment i)) []))
    (c.len-path_start.ensures ∙ string_len-is-length-of-bytes c.push_authority.new.out)
    (c.len-path_end.ensures ∙ string_len-is-length-of-bytes c.push_normal_path.new.out)
    (c.in_ok-scheme_end.ensures.end
    ∙ (λ i. option_map (λ s. length old + length s) (normal_scheme (scheme i))))
    (c.in_ok-places.ensures.places kind users names ∙ (λ i. option_map (λ a. authority_parts_at
    (length o1 + 2) (normal_parts (authority_meaning kind (default_port_of ports (scheme i)) a)))
    (given_authority i))) (c.in_ok-query_end.ensures.end ∙ (λ i. option_map
    (λ s. length o3 + 1 + length s) (normal_part (g.met.K.Kind.query_set i) (query i)))) in
    let whole = written.0 ∙ ap (λ t. t ++ normal_text (meaning_of kind ports text)) empty in
    record {
      text = record {
        text = whole ∙ ap normal_text
            (ruled-text-has-meaning-under kind scheme_rules c.requires given given_is_of_kind);
      };
      at = written-positions-are-of-normal-text kind c.requires ports text
          (string_bytes c.push_with_delimiter-2.new.out) c.of-positions.result
          (ruled-text-is-text-of-kind kind scheme_rules c.requires given given_is_of_kind)
          whole (c.of-positions.ensures ∙ ap packed (written.1 empty));
      underflow = c.in_ok-underflows.ensures.underflow p.scheme has_scheme
          ∙ ap (path_underflows p.scheme) c.ruled_path-path.ensures ∙ ap (λ q. path_underflows
          q.scheme (ruled_components kind scheme_rules (components given)).path) split
          ∙ ruled-components-underflow-alike kind scheme_rules (components given);
    }

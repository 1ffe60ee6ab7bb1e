use Rattle.uri_ops.proofs.Common.{sym, ◌∙◌, text_of, is_some-option_map, authority_text, option_map, Components, components, core_text, authority_meaning, default_port_of, normal_authority}
use Rattle.uri_ops.proofs.FromEnd.NormalParts.{pieces_are_normal_text, two_pieces}
use Rattle.uri_ops.proofs.Normal.NormalPieces.{is_some-of-mapped-twice}
use Rattle.uri_ops.proofs.read_back.normal_back.normal_back.Goals as goal

pub returns : goal.returns
returns g c =
    let kind = g.K.Kind.kind in
    let ports = (g.S.SchemeRules.rules_of c.args.rules.now).ports in
    let p : Components = record (components (core_text c.args.core)) {
      authority = option_map authority_text c.args.authority;
      path = text_of c.args.path;
    } in
    let meaning = authority_meaning kind (default_port_of ports p.scheme) in
    two_pieces _ _ _ _ _ c.join-4.ensures c.scheme_back.ensures
    (two_pieces _ _ _ _ _ c.join-3.ensures
    (c.authority_back.ensures kind (sym g.met.K.Kind.userinfo_set) (sym g.met.K.Kind.reg_name_set))
    (two_pieces _ _ _ _ _ c.join-2.ensures (c.normal_path_back.ensures p.scheme
    (option_map normal_authority (option_map meaning p.authority)) (sym c.has_scheme.ensures)
    (is_some-of-mapped-twice meaning normal_authority p.authority
    ∙ is_some-option_map authority_text c.args.authority ∙ sym c.is_some.ensures))
    (two_pieces _ _ _ _ _ c.join.ensures c.part_back.ensures c.part_back-2.ensures)))
    ∙ pieces_are_normal_text kind ports p _ _ _ _ _ _ c.scheme-scheme.ensures c.query.ensures
    c.fragment.ensures g.met.K.Kind.path_set g.met.K.Kind.query_set g.met.K.Kind.fragment_set

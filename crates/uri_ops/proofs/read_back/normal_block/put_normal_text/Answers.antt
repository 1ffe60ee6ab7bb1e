use Rattle.uri_ops.proofs.Common.{codes, sym, subst, ◌∙◌, arith, drop_all, append-nil, IsUtf8, option_map, option_and_then, str_to_ascii_lowercase, text_of, is_some-option_map, authority_text, Components, components, components_meaning, core_text, authority_meaning, normal_authority, normal_text}
use Rattle.uri_ops.specs.ComponentSets.{IsComponentSet}
use Rattle.uri_ops.proofs.FromEnd.Blocks.{put_before}
use Rattle.uri_ops.proofs.FromEnd.NormalParts.{pieces_are_normal_text}
use Rattle.uri_ops.proofs.Normal.NormalPieces.{is_some-of-mapped-twice}
use Rattle.uri_ops.proofs.SchemeRules.RuledParts.{ruled_components-have-normal-text}
use Rattle.uri_ops.proofs.TextKinds.FourKinds.{one-of-four-kinds-has-sets}
use Rattle.uri_ops.proofs.read_back.normal_block.put_normal_text.Goals as goal

pub ruled_path-path-requires : goal.ruled_path-path-requires
ruled_path-path-requires g c = one-of-four-kinds-has-sets g.K.Kind.kind g.met.K.Kind.known

pub put_path-end-requires-clause-set : goal.put_path-end-requires-clause-set
put_path-end-requires-clause-set g c = subst (IsComponentSet (codes "?#[]"))
    (sym g.met.K.Kind.path_set) (one-of-four-kinds-has-sets g.K.Kind.kind g.met.K.Kind.known).path

pub returns-clause-text : goal.returns-clause-text
returns-clause-text g c some =
    let kind = g.K.Kind.kind in
    let rules = g.S.SchemeRules.rules_of c.args.rules.now in
    let text = core_text c.args.core in
    let p : Components = record (components text) {
      authority = option_map authority_text c.ruled_authority-authority.result;
      path = text_of c.ruled_path-path.result;
    } in
    let default = option_and_then rules.ports (option_map str_to_ascii_lowercase p.scheme) in
    let authority = option_map normal_authority
    (option_map (authority_meaning kind default) p.authority) in
    let put = put_before _ _ 1024 _ _ c.args.block.now _ _ c.put_scheme.ensures.within
    (put_before _ _ 1024 _ _ c.args.block.now _ _ c.put_authority-end.ensures.within
    (put_before _ _ 1024 _ _ c.args.block.now _ _ c.put_path-end.ensures.within
    (put_before _ _ 1024 _ _ c.args.block.now _ _ c.put_part-end-2.ensures.within
    c.put_part-end.ensures.text c.put_part-end-2.ensures.text)
    (c.put_path-end.ensures.text p.scheme authority (sym c.has_scheme.ensures)
    (is_some-of-mapped-twice (authority_meaning kind default) normal_authority p.authority
    ∙ is_some-option_map authority_text c.ruled_authority-authority.result
    ∙ sym c.is_some.ensures)))
    (c.put_authority-end.ensures.text kind (sym g.met.K.Kind.userinfo_set)
    (sym g.met.K.Kind.reg_name_set))) c.put_scheme.ensures.text in
    put some ∙ rw (drop_all 1024 c.args.block.now (omega arith)) (append-nil _)
    ∙ pieces_are_normal_text kind rules.ports p _ _ _ _ _ _ c.scheme-scheme.ensures c.query.ensures
    c.fragment.ensures g.met.K.Kind.path_set g.met.K.Kind.query_set g.met.K.Kind.fragment_set
    ∙ (λ i. normal_text (components_meaning kind rules.ports (record (components text) {
      authority = c.ruled_authority-authority.ensures i;
      path = c.ruled_path-path.ensures i;
    }))) ∙ ruled_components-have-normal-text kind rules
    (one-of-four-kinds-has-sets kind g.met.K.Kind.known) text (record {
      utf8 = subst IsUtf8 c.as_str.ensures.text c.as_str.utf8;
      grammar = c.args.core.of_kind;
    })

-- The components of a reference to build, as the texts that hold them: RFC 3986, section 3.
use Rattle.std.specs.Prelude.{option_copied, option_map}
use Rattle.fluent_uri.specs.Prelude.{AuthorityParts, Components, recompose_authority}
use Rattle.fluent_uri_c.specs.declared.building.AuthorityTexts.{AuthorityTexts}
use Rattle.fluent_uri_c.specs.declared.building.Texts.{Texts}

-- the components of an authority that these texts are (section 3.2)
abbrev pub authority_of : AuthorityTexts → AuthorityParts
authority_of a = record {
  userinfo = option_copied a.userinfo;
  host = a.host.now;
  port = option_copied a.port;
}

-- the components of a reference that these texts are
abbrev pub components_of : Texts → Components
components_of t = record {
  scheme = option_copied t.scheme;
  authority = option_map (λ a. recompose_authority (authority_of a)) t.authority;
  path = t.tail.path.now;
  query = option_copied t.tail.query;
  fragment = option_copied t.tail.fragment;
}

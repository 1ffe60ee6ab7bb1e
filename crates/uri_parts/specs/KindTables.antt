-- The kind that the tables of the code represent: RFC 3986, section 3, and RFC 3987, section 2.2.
use Rattle.uri_pct.specs.Prelude.{TableSet, set_of}
use Rattle.uri_parts.specs.Grammar.{Kind}
use Rattle.uri_parts.specs.declared.kind_tables.KindTables.{KindTables}

-- the kind whose sets these tables of the code represent
abbrev pub kind_of : KindTables → Kind
kind_of g = record {
  userinfo = set_of g.userinfo;
  reg_name = set_of g.reg_name;
  path = set_of g.path;
  query = set_of g.query;
  fragment = set_of g.fragment;
  needs_scheme = g.needs_scheme;
}

-- the set for a first segment without `:` that these tables of the code represent (RFC 3986,
-- section 3.3)
abbrev pub segment_nz_nc_of : KindTables → TableSet
segment_nz_nc_of g = set_of g.segment_nz_nc

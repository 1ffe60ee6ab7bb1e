-- `Texts` as contracts see it: components.
use Rattle.std.specs.Prelude.{option_map}
use Rattle.fluent_uri.specs.Prelude.{Components}
use Rattle.uri_commands.specs.declared.lines.Texts.{Texts}

-- the components of a text of `uritool parse`, as bytes, that `Texts` borrows from it
abbrev pub components_in : Texts → Components
components_in texts = record {
  scheme = option_map (λ t. t.now) texts.scheme;
  authority = option_map (λ t. t.now) texts.authority;
  path = texts.path.now;
  query = option_map (λ t. t.now) texts.query;
  fragment = option_map (λ t. t.now) texts.fragment;
}

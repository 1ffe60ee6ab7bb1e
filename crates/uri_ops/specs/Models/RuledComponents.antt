-- Components as the rules of their scheme have them: RFC 3986, section 6.2.3.
use Rattle.std.specs.Prelude.{ℕ, Bool, false, ◌&&◌, List, [], codes, bytes_eq, Option, Some, None, is_some, option_map, if◌then◌else◌}
use Rattle.std.specs.Option.{option_and_then}
use Rattle.std.specs.Str.{str_to_ascii_lowercase}
use Rattle.uri_parts.specs.Prelude.{Components, Kind, components, recompose}
use Rattle.uri_ops.specs.Dots.{is_empty}
use Rattle.uri_ops.specs.Meaning.{authority_meaning}
use Rattle.uri_ops.specs.Normal.{normal_scheme}
use Rattle.uri_ops.specs.SchemeRules.{Rules, is_localhost, is_scheme_of}

-- the authority as the rules of its scheme have it: empty if its normal form is `localhost` and
-- that is the default host
abbrev pub ruled_authority : Kind → Option ℕ → Bool → List ℕ → List ℕ
ruled_authority kind default local authority =
    if local && is_localhost (authority_meaning kind default authority) then [] else authority

-- the path as the rules of its scheme have it: `/` for an empty one after an authority
abbrev pub ruled_path : Bool → Bool → List ℕ → List ℕ
ruled_path rooted follows_authority path =
    if (rooted && follows_authority) && is_empty path then codes "/" else path

-- the components as the rules of their scheme have them
abbrev pub ruled_components : Kind → Rules → Components → Components
ruled_components kind rules p =
    let scheme = option_map str_to_ascii_lowercase p.scheme in
    record p {
      authority = option_map (ruled_authority kind (option_and_then rules.ports scheme)
          (is_scheme_of rules.locals scheme)) p.authority;
      path = ruled_path (is_scheme_of rules.roots scheme) (is_some p.authority) p.path;
    }

-- the text as the rules of its scheme have it
abbrev pub ruled_text : Kind → Rules → List ℕ → List ℕ
ruled_text kind rules text = recompose (ruled_components kind rules (components text))

-- whether a component is this text
abbrev pub is_text : List ℕ → Option (List ℕ) → Bool
is_text text None = false
is_text text (Some part) = bytes_eq part text

-- whether the authority is `localhost`, which is the default host by the rule
abbrev pub has_default_host : (List ℕ → Bool) → Components → Bool
has_default_host locals p =
    is_scheme_of locals (normal_scheme p.scheme) && is_text (codes "localhost") p.authority

-- whether the path is empty after an authority, and `/` by the rule
abbrev pub has_root_path : (List ℕ → Bool) → Components → Bool
has_root_path roots p =
    (is_scheme_of roots (normal_scheme p.scheme) && is_some p.authority) && is_empty p.path

-- the components with an empty authority in place of `localhost`, and with the path `/` in place of
-- an empty one, if each is to be
abbrev pub changed_components : Bool → Bool → Components → Components
changed_components drops_host adds_root p = record p {
  authority = if drops_host then Some [] else p.authority;
  path = if adds_root then codes "/" else p.path;
}

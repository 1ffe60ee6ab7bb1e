-- The reference that a call for C builds of components: RFC 3986, sections 3 and 5.3.
use Rattle.std.specs.Prelude.{◌≡◌, ℕ, ◌-◌, ◌^◌, ◌==◌, ◌&&◌, ◌||◌, Bool, true, List, [], length, nat_le, Option, Some, None, Ok, IfSome, is_none, is_some, option_map, slice_index, slice_range, unwrap_or, if◌then◌else◌}
use Rattle.std.specs.Char.{is_ascii_alphabetic}
use Rattle.std.specs.Str.{is_utf8}
use Rattle.fluent_uri.specs.Prelude.{AuthorityParts, Components, IsOfKind, Kind, TableSet, absent_or_passes, authority_parts, components, digit_set, is_host, recompose, recompose_authority, scheme_set, starts}
use Rattle.uri_ops.specs.declared.build.error.BuildError.{BuildError}
use Rattle.uri_ops.specs.declared.build.error.BuildError.TheVariants as Build
use Rattle.uri_ops.specs.Prelude.{build_error_of_path, is_authority_text, is_scheme_text, is_text_for}
use Rattle.uri_pct.specs.Prelude.{left_bracket}
use Rattle.fluent_uri_c.specs.declared.building.ComponentSpans.{ComponentSpans}
use Rattle.fluent_uri_c.specs.declared.errors.Error.{Error}
use Rattle.fluent_uri_c.specs.declared.errors.Error.TheVariants as Of
use Rattle.fluent_uri_c.specs.declared.errors.Rejection.{Rejection}
use Rattle.fluent_uri_c.specs.declared.parts.Span.{Span}
use Rattle.fluent_uri_c.specs.Errors.{in_component, rejected, rejected_at}
use Rattle.fluent_uri_c.specs.Kinds.{kind_numbered}
use Rattle.fluent_uri_c.specs.Results.{Returned, component_error, first_rejection, length_error, rejection_or_result, utf8_error, with_valid_number}

-- whether a span that C gives says that its component is absent
abbrev pub is_absent : Span → Bool
is_absent span = span.start == 2 ^ 64 - 1 && span.end == 2 ^ 64 - 1

-- whether a span that C gives is within a text
abbrev pub is_within : List ℕ → Span → Bool
is_within text span = nat_le span.start span.end && nat_le span.end (length text)

-- the component that C gives as a span of a text, if it is present
abbrev pub given : List ℕ → Span → Option (List ℕ)
given text span =
    if is_absent span then None else Some (slice_range text span.start span.end)

-- the authority's components that C gives as spans of a text, if it has a host (section 3.2)
abbrev pub given_authority : List ℕ → ComponentSpans → Option AuthorityParts
given_authority text spans = option_map (λ host. record {
  userinfo = given text spans.userinfo;
  host = host;
  port = given text spans.port;
}) (given text spans.host)

-- the components that C gives as spans of a text: a path that is absent is empty (section 3)
abbrev pub given_components : List ℕ → ComponentSpans → Components
given_components text spans = record {
  scheme = given text spans.scheme;
  authority = option_map recompose_authority (given_authority text spans);
  path = unwrap_or (given text spans.path) [];
  query = given text spans.query;
  fragment = given text spans.fragment;
}

-- why bytes are rejected as a scheme, if they are: a letter and characters of schemes (section 3.1)
abbrev pub scheme_error : List ℕ → Option Rejection
scheme_error bytes =
    if is_ascii_alphabetic (slice_index bytes 0) then component_error scheme_set bytes
    else Some (rejected_at Of.UnexpectedChar 0)

-- why bytes are rejected as a host, if they are; the set is that of registered names. What begins
-- with `[` has to be an address in brackets, of which the index is that of its first byte (section
-- 3.2.2)
abbrev pub host_error : TableSet → List ℕ → Option Rejection
host_error names bytes =
    if starts left_bracket bytes
    then first_rejection (utf8_error bytes)
    (if is_host names bytes then None else Some (rejected_at Of.InvalidIpv6Addr 1))
    else component_error names bytes

-- whether bytes may be a host: UTF-8 that is one; the set is that of registered names (section
-- 3.2.2)
unfoldable pub is_host_text : TableSet → List ℕ → Bool
is_host_text names bytes = is_utf8 bytes && is_host names bytes

-- why a component that C gives as a span of a text is rejected, if it is; the number is its own,
-- and the function has the error of its bytes
abbrev pub given_error : ℕ → (List ℕ → Option Rejection) → List ℕ → Span → Option Rejection
given_error n error text span =
    if is_absent span then None
    else option_map (in_component n) (if is_within text span
    then error (slice_range text span.start span.end)
    else Some (rejected Of.InvalidArgument))

-- the rejection for a component that is not there, where the Bool says that one is needed
abbrev pub missing : ℕ → Bool → Option Rejection
missing n is_needed =
    if is_needed then Some (in_component n (rejected Of.MissingComponent)) else None

-- why the components of an authority are rejected, if they are: userinfo and port need a host
-- (section 3.2)
abbrev pub authority_rejection : Kind → List ℕ → ComponentSpans → Option Rejection
authority_rejection kind text spans =
    first_rejection (given_error 0 (component_error kind.userinfo) text spans.userinfo)
    (first_rejection (given_error 1 (host_error kind.reg_name) text spans.host)
    (first_rejection (given_error 7 (component_error digit_set) text spans.port)
    (missing 1 (is_none (given text spans.host)
    && (is_some (given text spans.userinfo) || is_some (given text spans.port))))))

-- the error of the C header for an error of a builder
abbrev pub error_of_building : BuildError → Error
error_of_building Build.NonemptyRootlessPath = Of.NonemptyRootlessPath
error_of_building Build.PathStartsWithDoubleSlash = Of.PathStartsWithDoubleSlash
error_of_building Build.FirstPathSegmentContainsColon = Of.FirstPathSegmentContainsColon
error_of_building Build.OutOfMemory = Of.OutOfMemory

-- why the path, the query and the fragment are rejected, if they are (sections 3.3 to 3.5)
abbrev pub tail_rejection : Kind → List ℕ → ComponentSpans → Option Rejection
tail_rejection kind text spans =
    first_rejection (given_error 2 (component_error kind.path) text spans.path)
    (first_rejection (given_error 3 (component_error kind.query) text spans.query)
    (given_error 4 (component_error kind.fragment) text spans.fragment))

-- why the path is rejected beside the others, if it is, by sections 3.3 and 4.2
abbrev pub path_rejection : Components → Option Rejection
path_rejection c = option_map (λ e. in_component 2 (rejected (error_of_building e)))
    (build_error_of_path (is_some c.scheme) (is_some c.authority) c.path)

-- why components that C gives as spans of a text are rejected by their rules, if they are
abbrev pub parts_rejection : Kind → List ℕ → ComponentSpans → Option Rejection
parts_rejection kind text spans =
    first_rejection (given_error 5 scheme_error text spans.scheme)
    (first_rejection (authority_rejection kind text spans) (tail_rejection kind text spans))

-- why components of a text of the kind are rejected together, if they are: it may need a scheme,
-- and the path may not follow what is before it
abbrev pub together_rejection : Kind → Components → Option Rejection
together_rejection kind c =
    first_rejection (missing 5 (kind.needs_scheme && is_none c.scheme)) (path_rejection c)

-- why the components that C gives as spans of a text are rejected as those of a text of the kind,
-- if they are: each by its rule, and then what they are together (sections 3 and 4.2)
abbrev pub build_rejection : Kind → List ℕ → ComponentSpans → Option Rejection
build_rejection kind text spans =
    first_rejection (parts_rejection kind text spans)
    (together_rejection kind (given_components text spans))

-- the text that is built of the components that C gives as spans of a text (section 5.3)
abbrev pub built_text : List ℕ → ComponentSpans → List ℕ
built_text text spans = recompose (given_components text spans)

-- the result of a call for C that builds a text of the kind of components, given as spans of a text
abbrev pub built_result : Kind → List ℕ → ComponentSpans → Returned
built_result kind text spans =
    rejection_or_result (first_rejection (length_error text) (build_rejection kind text spans))
    (Ok (built_text text spans))

-- the result of `fluent_uri_build` for the kind with a number of the C header
abbrev pub build_result : ℕ → List ℕ → ComponentSpans → Returned
build_result n text spans =
    with_valid_number (kind_numbered n) λ kind. built_result kind text spans

-- the authority that C gives as spans of a text is one of the kind, with the components that were
-- given, if it has a host (section 3.2)
abbrev pub HasValidAuthority : Kind → List ℕ → ComponentSpans → Type 0
HasValidAuthority kind text spans = IfSome (given_authority text spans) (λ parts.
    (is_authority_text kind (recompose_authority parts) ≡ true)
    × (authority_parts (recompose_authority parts) ≡ parts))

-- the path, the query and the fragment that C gives as spans of a text are each of its rule, if
-- they are present
pub record HasValidTail (kind : Kind) (text : List ℕ) (spans : ComponentSpans) : Type 0 where
  pub path : absent_or_passes (given text spans.path) (is_text_for kind.path) ≡ true
  pub query : absent_or_passes (given text spans.query) (is_text_for kind.query) ≡ true
  pub fragment : absent_or_passes (given text spans.fragment) (is_text_for kind.fragment) ≡ true

-- the components that C gives as spans of a text are each of its rule, if they are present
pub record HasValidParts (kind : Kind) (text : List ℕ) (spans : ComponentSpans) : Type 0 where
  pub scheme : absent_or_passes (given text spans.scheme) is_scheme_text ≡ true
  pub authority : HasValidAuthority kind text spans
  pub tail : HasValidTail kind text spans

-- The text that is built is of the kind, and has the components that were given and no others.
pub record HasGivenComponents (kind : Kind) (text : List ℕ) (spans : ComponentSpans)
    : Type 0 where
  pub of_kind : IsOfKind kind (built_text text spans)
  pub components : components (built_text text spans) ≡ given_components text spans
  pub authority : IfSome (given_authority text spans) (λ parts.
      authority_parts (recompose_authority parts) ≡ parts)

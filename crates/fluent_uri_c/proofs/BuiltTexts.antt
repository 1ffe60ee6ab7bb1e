-- The text that is built of components has them again.
use Rattle.fluent_uri_c.proofs.Common.{arith, ◌≡◌, ℕ, Bool, true, false, ◌&&◌, ◌||◌, not, List, [], ◌++◌, refl, Option, Some, None, IfSome, codes, is_none, is_some, option_map, slice_index, unwrap_or, IsUtf8, and_from, and_parts, none-some, IsUtf8-append, IsUtf8-from_is_utf8, is_utf8-from_IsUtf8, Kind, absent_or_passes, BuilderParts, is_authority_text, is_scheme_text, is_text_for, meet_rules, Rejection, HasGivenComponents, HasValidAuthority, HasValidTail, error_of_building, given, given_authority, given_components, is_host_text, missing, path_rejection, together_rejection, in_component, rejected, first_rejection}
use Rattle.std.specs.Char.{is_ascii_alphabetic}
use Rattle.fluent_uri.specs.Prelude.{AuthorityParts, HasComponentSets, IsAuthorityFor, TableSet, authority_parts, digit_set, marked, recompose_authority, scheme_set, starts}
use Rattle.fluent_uri.specs.Hosts.{host_kind, is_host}
use Rattle.fluent_uri.specs.Tokens.{is_valid_for}
use Rattle.uri_parts.proofs.Offered.{authority_parts-are-unique, is_authority_for-complete, is_host-sound}
use Rattle.uri_ops.specs.declared.build.error.BuildError.{BuildError}
use Rattle.uri_ops.specs.Built.{build_error_of_path}
use Rattle.uri_ops.proofs.Offered.{authority-text-from-rule, accepted-parts-have-their-text, ascii-bytes-are-utf8, kind-sets-lack-authority-delimiters}
use Rattle.fluent_uri_c.specs.declared.building.ComponentSpans.{ComponentSpans}

-- building for C: a component that passes its test is UTF-8, and valid for its set
text-for-set : (set : TableSet) (x : List ℕ) → is_text_for set x ≡ true
    → IsUtf8 x × (is_valid_for set x ≡ true)
unfolding is_text_for
text-for-set set x e = let p = and_parts _ (is_valid_for set x) e in
    (IsUtf8-from_is_utf8 x p.0, p.1)

pub scheme-from-characters : (set : TableSet) (bytes : List ℕ) → set ≡ scheme_set
    → is_text_for set bytes ≡ true → is_ascii_alphabetic (slice_index bytes 0) ≡ true
    → is_scheme_text bytes ≡ true
unfolding is_text_for is_scheme_text
scheme-from-characters set bytes same e letter = grind arith

-- building for C: an address in brackets is a host
pub host-from-literal : (names : TableSet) (bytes : List ℕ) → IsUtf8 bytes
    → is_host names bytes ≡ true → is_host_text names bytes ≡ true
unfolding is_host_text
host-from-literal names bytes utf8 host = and_from _ _ (is_utf8-from_IsUtf8 bytes utf8) host

-- building for C: a text of the characters of names that does not begin with `[` (91) is a host
pub host-from-characters : (names : TableSet) (bytes : List ℕ) → starts 91 bytes ≡ false
    → is_text_for names bytes ≡ true → is_host_text names bytes ≡ true
unfolding is_host_text is_text_for is_host
host-from-characters names bytes plain e = grind arith

-- building for C: the empty text is UTF-8
nothing-is-utf8 : IsUtf8 []
nothing-is-utf8 = ascii-bytes-are-utf8 [] refl

-- building for C: a component between ASCII delimiters is UTF-8
marked-is-utf8 : (set : TableSet) (before after : List ℕ) (part : Option (List ℕ))
    → IsUtf8 before → IsUtf8 after → absent_or_passes part (is_text_for set) ≡ true
    → IsUtf8 (marked before part after)
marked-is-utf8 set before after None b a e = nothing-is-utf8
marked-is-utf8 set before after (Some x) b a e =
    IsUtf8-append (before ++ x) after (IsUtf8-append before x b (text-for-set set x e).0) a

passing-is-valid : (set : TableSet) (part : Option (List ℕ))
    → absent_or_passes part (is_text_for set) ≡ true → IfSome part (λ x. is_valid_for set x ≡ true)
passing-is-valid set part e = grind (arith, text-for-set)

-- building for C: userinfo, host and port, each by its rule, are an authority, which has them again
recomposed-authority-has-its-parts : (kind : Kind) → HasComponentSets kind
    → (user port : Option (List ℕ)) (host : List ℕ)
    → absent_or_passes user (is_text_for kind.userinfo) ≡ true
    → is_host_text kind.reg_name host ≡ true
    → absent_or_passes port (is_text_for digit_set) ≡ true
    → (is_authority_text kind
    (recompose_authority (record { userinfo = user; host = host; port = port })) ≡ true)
    × (authority_parts (recompose_authority (record { userinfo = user; host = host; port = port }))
    ≡ record { userinfo = user; host = host; port = port })
unfolding is_host_text
recomposed-authority-has-its-parts kind sets user port host u h d =
    let p : AuthorityParts = record { userinfo = user; host = host; port = port } in
    let text : List ℕ = recompose_authority p in
    let apart = kind-sets-lack-authority-delimiters kind sets in
    let both = and_parts _ (is_host kind.reg_name host) h in
    let utf8 : IsUtf8 text = IsUtf8-append (marked [] user (codes "@"))
    (host ++ marked (codes ":") port []) (marked-is-utf8 kind.userinfo [] (codes "@") user
    nothing-is-utf8 (ascii-bytes-are-utf8 (codes "@") refl) u) (IsUtf8-append host
    (marked (codes ":") port []) (IsUtf8-from_is_utf8 host both.0) (marked-is-utf8 digit_set
    (codes ":") [] port (ascii-bytes-are-utf8 (codes ":") refl) nothing-is-utf8 d)) in
    let grammar : IsAuthorityFor kind.userinfo kind.reg_name text p = record {
      whole = refl;
      userinfo = passing-is-valid kind.userinfo user u;
      host = (host_kind host, is_host-sound kind.reg_name host both.1);
      port = passing-is-valid digit_set port d;
    } in (
      authority-text-from-rule kind text utf8
          (is_authority_for-complete kind.userinfo kind.reg_name apart text p utf8 grammar),
      authority_parts-are-unique kind.userinfo kind.reg_name apart text p utf8 grammar,
    )

pub given-authority-is-valid : (kind : Kind) → HasComponentSets kind
    → (text : List ℕ) (spans : ComponentSpans) (host : Option (List ℕ))
    → given text spans.host ≡ host
    → absent_or_passes (given text spans.userinfo) (is_text_for kind.userinfo) ≡ true
    → absent_or_passes host (is_host_text kind.reg_name) ≡ true
    → absent_or_passes (given text spans.port) (is_text_for digit_set) ≡ true
    → HasValidAuthority kind text spans
given-authority-is-valid kind sets text spans host e u h d =
    grind (arith, recomposed-authority-has-its-parts)

valid-authority-passes : (kind : Kind) (authority : Option AuthorityParts)
    → IfSome authority (λ parts. (is_authority_text kind (recompose_authority parts) ≡ true)
    × (authority_parts (recompose_authority parts) ≡ parts))
    → absent_or_passes (option_map recompose_authority authority) (is_authority_text kind) ≡ true
valid-authority-passes kind authority valid = grind arith

valid-authority-has-its-parts : (kind : Kind) (authority : Option AuthorityParts)
    → IfSome authority (λ parts. (is_authority_text kind (recompose_authority parts) ≡ true)
    × (authority_parts (recompose_authority parts) ≡ parts))
    → IfSome authority (λ parts. authority_parts (recompose_authority parts) ≡ parts)
valid-authority-has-its-parts kind authority valid = grind arith

no-scheme-is-missing : (needs : Bool) (scheme : Option (List ℕ)) (other : Option Rejection)
    → first_rejection (missing 5 (needs && is_none scheme)) other ≡ None
    → ((is_some scheme || not needs) ≡ true) × (other ≡ None)
no-scheme-is-missing needs scheme other e = grind (arith, none-some)

-- building for C: what is not there after a function was not there before it
none-before-map : (o : Option BuildError) (f : BuildError → Rejection) → option_map f o ≡ None
    → o ≡ None
none-before-map o f e = grind (arith, none-some)

pub built-text-has-given-components : (kind : Kind) → HasComponentSets kind
    → (text : List ℕ) (spans : ComponentSpans)
    → absent_or_passes (given text spans.scheme) is_scheme_text ≡ true
    → HasValidAuthority kind text spans → HasValidTail kind text spans
    → together_rejection kind (given_components text spans) ≡ None
    → HasGivenComponents kind text spans
built-text-has-given-components kind sets text spans s a tail none =
    let authority = given_authority text spans in
    let parts : BuilderParts = record {
      scheme = given text spans.scheme;
      authority = option_map recompose_authority authority;
      path = given text spans.path;
      query = given text spans.query;
      fragment = given text spans.fragment;
      failed = false;
    } in
    let rules : meet_rules kind parts ≡ true = and_from _ _ s
    (and_from _ _ (valid-authority-passes kind authority a)
    (and_from _ _ tail.path (and_from _ _ tail.query tail.fragment))) in
    let both = no-scheme-is-missing kind.needs_scheme (given text spans.scheme)
    (path_rejection (given_components text spans)) none in
    let error = none-before-map (build_error_of_path (is_some (given text spans.scheme))
    (is_some (option_map recompose_authority authority)) (unwrap_or (given text spans.path) []))
    (λ e. in_component 2 (rejected (error_of_building e))) both.1 in
    let made = accepted-parts-have-their-text kind sets parts rules both.0 error in
    record {
      of_kind = made.of_kind;
      components = made.components;
      authority = valid-authority-has-its-parts kind authority a;
    }

-- A ruled text is a text with what the rules of its scheme change, not yet normal. Under default
-- ports alone it has the meaning that the text has under the rules. So the laws of normal texts
-- hold under any rules.
use Rattle.uri_ops.proofs.Common.{arith, ◌≡◌, ℕ, Bool, true, false, cond, List, [], refl, ap, ◌∙◌, ◌&&◌, ◌||◌, Option, Some, None, option_map, not, rules, lit<, subst, codes, is_some, IfSome, IfNone, ◌↔◌, option_and_then, str_to_ascii_lowercase, IsUtf8, chars, All-cons, All-nil, cond_both, tokens_from_chars, is_valid_for, TableSet, decode_unreserved, decode_run, decode_after_run, pieces_from, ascii_char_separates_encode_formatting, read_ipv4, read_octet, read_number, host_kind, ipv4_value, Components, IsSplitOf, Lacks, IsAbemptyPath, components, recompose, has_authority, has_scheme, starts, Kind, IsTextOf, is_authority, has_colon_in_first_segment, empty_is_authority, components-are-split-of-text, components_of_parts, only-split-is-components, HasComponentSets, IsComponentSet, is_empty, authority_meaning, dotless_path, components_meaning, meaning_of, normal_text, ruled_authority, ruled_components, ruled_path, ruled_text, print_decoded, Rules, empty_authority, has_no_token, is_localhost, is_scheme_of, root, authority_under, path_under, under_rules, meaning_under, common_steps}
use Rattle.uri_ops.proofs.Meanings.AllowedParts.{is_set_text, set-text-from-utf8, validity-splits-at-slash}
use Rattle.uri_ops.proofs.Meanings.AsciiCharacters.{ascii-bytes-are-utf8}
use Rattle.uri_ops.proofs.Meanings.TextParts.{ArePartsOfKind, components-of-kind-meet-grammar}
use Rattle.uri_ops.proofs.Normal.NormalTexts.{meaning_of-normal_text, normal-text-is-text-of-kind, recomposed-components-are-utf8, text-has-parts-of-kind}
use Rattle.uri_ops.proofs.Paths.DotLaws.{remove-dots-of-dotless}
use Rattle.uri_ops.proofs.Paths.DecodedStarts.{decoding-keeps-emptiness}
use Rattle.uri_ops.proofs.Paths.PathMeanings.{path-without-dots-is-set-text, removing-dots-keeps-leading-slash}
use Rattle.uri_ops.proofs.SchemeRules.RuledMeanings.{map-cond, print-is-empty-without-tokens, under_rules-is-idempotent}

empty-authority-means-no-host : (kind : Kind) (default : Option ℕ)
    → authority_meaning kind default [] ≡ empty_authority
unfolding host_kind ipv4_value read_ipv4 read_octet read_number chars tokens_from_chars
    decode_after_run decode_run pieces_from
empty-authority-means-no-host kind default = refl

-- rules: `/` is itself as tokens
slash-means-root : (set : TableSet) → decode_unreserved set (codes "/") ≡ root
unfolding chars tokens_from_chars decode_after_run decode_run pieces_from
slash-means-root set = ascii_char_separates_encode_formatting set [] 47 [] (lit< tt)

text-with-slash-is-not-empty : (text : List ℕ) → starts 47 text ≡ true → is_empty text ≡ false
text-with-slash-is-not-empty text e = grind (arith, common_steps)

module _ (set : TableSet) (w : IsComponentSet (codes "?#[]") set)
    (slash : set.ascii 47 ≡ true) where
  -- a path that is not empty has tokens
  path-has-tokens-unless-empty : (path : List ℕ) → is_set_text set path ≡ true
      → has_no_token (decode_unreserved set path) ≡ is_empty path
  unfolding print_decoded
  path-has-tokens-unless-empty path e =
      grind (arith, print-is-empty-without-tokens, decoding-keeps-emptiness)

  -- removing dot segments leaves a path that is not empty
  dotless-path-keeps-emptiness : (scheme : Option (List ℕ)) (path : List ℕ)
      → is_empty (dotless_path scheme path) ≡ is_empty path
  dotless-path-keeps-emptiness scheme path =
      grind (arith, common_steps, text-with-slash-is-not-empty, removing-dots-keeps-leading-slash)

  dotless-path-is-set-text : (scheme : Option (List ℕ)) (path : List ℕ)
      → is_set_text set path ≡ true → is_set_text set (dotless_path scheme path) ≡ true
  dotless-path-is-set-text None path e = e
  dotless-path-is-set-text (Some s) path e = path-without-dots-is-set-text set w slash path e

  slash-is-dotless : (scheme : Option (List ℕ))
      → decode_unreserved set (dotless_path scheme (codes "/")) ≡ root
  slash-is-dotless scheme = grind (arith, common_steps, slash-means-root, remove-dots-of-dotless)

  -- a ruled path means what the rules make of the path's meaning
  ruled_path-has-meaning-under : (rooted after : Bool) (scheme : Option (List ℕ))
      (path : List ℕ) → is_set_text set path ≡ true
      → decode_unreserved set (dotless_path scheme (ruled_path rooted after path))
      ≡ path_under rooted after (decode_unreserved set (dotless_path scheme path))
  ruled_path-has-meaning-under rooted after scheme path e =
      grind (
        arith,
        path-has-tokens-unless-empty,
        dotless-path-is-set-text,
        dotless-path-keeps-emptiness,
        slash-is-dotless,
      )

pub ruled_authority-has-meaning-under :
    (kind : Kind) (default : Option ℕ) (local : Bool) (o : Option (List ℕ))
    → option_map (authority_meaning kind default) (option_map (ruled_authority kind default local)
    o) ≡ option_map (authority_under local) (option_map (authority_meaning kind default) o)
ruled_authority-has-meaning-under kind default local None = refl
ruled_authority-has-meaning-under kind default local (Some a) =
    let m = authority_meaning kind default a in
    ap Some (map-cond (authority_meaning kind default) (local && is_localhost m) [] a
    ∙ ap (λ t. cond (local && is_localhost m) t m) (empty-authority-means-no-host kind default))

-- rules: without a scheme, components are as they are
ruled_authority-without-rule : (kind : Kind) (default : Option ℕ) (o : Option (List ℕ))
    → option_map (ruled_authority kind default false) o ≡ o
ruled_authority-without-rule kind default o = grind (arith, common_steps)

pub components-without-scheme-are-ruled : (kind : Kind) (rules : Rules)
    (authority : Option (List ℕ)) (path : List ℕ) (query fragment : Option (List ℕ))
    → ruled_components kind rules (components_of_parts None authority path query fragment)
    ≡ components_of_parts None authority path query fragment
components-without-scheme-are-ruled kind rules authority path query fragment =
    grind (arith, ruled_authority-without-rule)

pub path-without-authority-is-ruled : (rooted : Bool) (path : List ℕ)
    → ruled_path rooted false path ≡ path
path-without-authority-is-ruled rooted path = grind (arith, common_steps)

ruled-authority-lacks-ends : (kind : Kind) (default : Option ℕ) (local rooted : Bool) (o : Option
    (List ℕ)) (path : List ℕ) → IfSome o (λ a. Lacks (codes "/?#") a × IsAbemptyPath path)
    → IfSome (option_map (ruled_authority kind default local) o) (λ a. Lacks (codes "/?#") a
    × IsAbemptyPath (ruled_path rooted (is_some o) path))
ruled-authority-lacks-ends kind default local rooted o path h = grind (arith, cond_both)

ruled-path-lacks-ends : (rooted after : Bool) (path : List ℕ) → Lacks (codes "?#") path
    → Lacks (codes "?#") (ruled_path rooted after path)
ruled-path-lacks-ends rooted after path h = search (rules, cond_both, All-cons, All-nil)

ruled-text-has-no-scheme : (kind : Kind) (rules : Rules) (scheme authority : Option (List ℕ))
    (path : List ℕ) (query fragment : Option (List ℕ)) (text : List ℕ)
    → recompose (components_of_parts scheme authority path query fragment) ≡ text
    → IfNone scheme (has_scheme text ≡ false)
    → IfNone scheme (has_scheme (recompose (ruled_components kind rules
    (components_of_parts scheme authority path query fragment))) ≡ false)
ruled-text-has-no-scheme kind rules scheme authority path query fragment text whole h =
    grind (arith, common_steps, components-without-scheme-are-ruled)

ruled-path-has-no-authority : (kind : Kind) (default : Option ℕ) (local rooted : Bool)
    (o : Option (List ℕ)) (path : List ℕ) → IfNone o (has_authority path ≡ false)
    → IfNone (option_map (ruled_authority kind default local) o)
    (has_authority (ruled_path rooted (is_some o) path) ≡ false)
ruled-path-has-no-authority kind default local rooted o path h =
    grind (arith, common_steps, path-without-authority-is-ruled, h)

ruled-authority-is-of-kind : (kind : Kind) (default : Option ℕ) (local : Bool)
    (o : Option (List ℕ)) → IfSome o (λ a. IsUtf8 a × (is_authority kind a ≡ true))
    → IfSome (option_map (ruled_authority kind default local) o)
    (λ a. IsUtf8 a × (is_authority kind a ≡ true))
ruled-authority-is-of-kind kind default local o h = grind (arith, cond_both, empty_is_authority)

pub slash-is-set-text : (set : TableSet) → set.ascii 47 ≡ true → is_set_text set (codes "/") ≡ true
unfolding is_valid_for chars tokens_from_chars
slash-is-set-text set slash =
    grind (arith, set-text-from-utf8, ascii-bytes-are-utf8, validity-splits-at-slash)

-- the rule of a kind about schemes and colons
abbrev meets_needs : Kind → Components → Type 0
meets_needs kind p = (is_some p.scheme
    || (not kind.needs_scheme && (is_some p.authority || not (has_colon_in_first_segment p.path))))
    ≡ true

ruled-components-keep-needs : (kind : Kind) (rules : Rules) (scheme authority : Option
    (List ℕ)) (path : List ℕ) (query fragment : Option (List ℕ))
    → meets_needs kind (components_of_parts scheme authority path query fragment) → meets_needs kind
    (ruled_components kind rules (components_of_parts scheme authority path query fragment))
ruled-components-keep-needs kind rules None authority path query fragment h =
    grind (arith, components-without-scheme-are-ruled)
ruled-components-keep-needs kind rules (Some s) authority path query fragment h = refl

module _ (kind : Kind) (rules : Rules) (sets : HasComponentSets kind) where
  ruled-components-are-split : (text : List ℕ) (p : Components) → IsSplitOf text p
      → IsSplitOf (recompose (ruled_components kind rules p)) (ruled_components kind rules p)
  ruled-components-are-split text p split =
      let scheme = option_map str_to_ascii_lowercase p.scheme in
      let default = option_and_then rules.ports scheme in
      let local = is_scheme_of rules.locals scheme in
      let rooted = is_scheme_of rules.roots scheme in
      record {
        whole = refl;
        scheme = split.scheme;
        authority = ruled-authority-lacks-ends kind default local rooted p.authority p.path
            split.authority;
        path = ruled-path-lacks-ends rooted (is_some p.authority) p.path split.path;
        query = split.query;
        no_scheme = ruled-text-has-no-scheme kind rules p.scheme p.authority p.path p.query
            p.fragment text split.whole split.no_scheme;
        no_authority = ruled-path-has-no-authority kind default local rooted p.authority p.path
            split.no_authority;
      }

  ruled-components-are-of-kind : (p : Components) → ArePartsOfKind kind p
      → ArePartsOfKind kind (ruled_components kind rules p)
  ruled-components-are-of-kind p parts =
      grind (arith, ruled-authority-is-of-kind, slash-is-set-text, ruled-components-keep-needs)

  -- ruled components mean what the rules make of the components' meaning
  pub ruled_components-have-meaning-under : (p : Components) → is_set_text kind.path p.path ≡ true
      → components_meaning kind rules.ports (ruled_components kind rules p)
      ≡ under_rules rules (components_meaning kind rules.ports p)
  ruled_components-have-meaning-under p valid =
      grind (arith, ruled_authority-has-meaning-under, ruled_path-has-meaning-under)

  pub components-of-ruled_text : (text : List ℕ)
      → components (ruled_text kind rules text) ≡ ruled_components kind rules (components text)
  components-of-ruled_text text = only-split-is-components _ _
      (ruled-components-are-split text (components text) (components-are-split-of-text text))

  -- a ruled text is of the kind,
  pub ruled-text-is-text-of-kind : (text : List ℕ) → IsTextOf kind text
      → IsTextOf kind (ruled_text kind rules text)
  ruled-text-is-text-of-kind text w =
      let parts = ruled-components-are-of-kind (components text)
      (text-has-parts-of-kind kind text w) in
      record {
        utf8 = recomposed-components-are-utf8 kind _ parts;
        grammar = cc (components-of-ruled_text text, components-of-kind-meet-grammar kind _ parts);
      }

  -- and has, without rules but those of ports, the meaning that the text has under the rules
  pub ruled-text-has-meaning-under : (text : List ℕ) → IsTextOf kind text
      → meaning_of kind rules.ports (ruled_text kind rules text) ≡ meaning_under kind rules text
  ruled-text-has-meaning-under text w = ap (components_meaning kind rules.ports)
      (components-of-ruled_text text) ∙ ruled_components-have-meaning-under
      (components text) (text-has-parts-of-kind kind text w).path

  pub normal-text-under-rules-is-text-of-kind : (text : List ℕ) → IsTextOf kind text
      → IsTextOf kind (normal_text (meaning_under kind rules text))
  normal-text-under-rules-is-text-of-kind text w = subst (λ m. IsTextOf kind (normal_text m))
      (ruled-text-has-meaning-under text w) (normal-text-is-text-of-kind kind rules.ports sets
      (ruled_text kind rules text) (ruled-text-is-text-of-kind text w))

  pub meaning_under-normal_text : (text : List ℕ) → IsTextOf kind text → meaning_under kind rules
      (normal_text (meaning_under kind rules text)) ≡ meaning_under kind rules text
  meaning_under-normal_text text w =
      ap (under_rules rules) (subst (λ m. meaning_of kind rules.ports (normal_text m) ≡ m)
      (ruled-text-has-meaning-under text w) (meaning_of-normal_text kind rules.ports sets
      (ruled_text kind rules text) (ruled-text-is-text-of-kind text w)))
      ∙ under_rules-is-idempotent rules (meaning_of kind rules.ports text)

  pub normal_text-is-idempotent : (text : List ℕ) → IsTextOf kind text
      → normal_text (meaning_under kind rules (normal_text (meaning_under kind rules text)))
      ≡ normal_text (meaning_under kind rules text)
  normal_text-is-idempotent text w = ap normal_text (meaning_under-normal_text text w)

  pub same-normal-text-same-meaning : (t u : List ℕ) → IsTextOf kind t → IsTextOf kind u
      → (normal_text (meaning_under kind rules t) ≡ normal_text (meaning_under kind rules u))
      ↔ (meaning_under kind rules t ≡ meaning_under kind rules u)
  same-normal-text-same-meaning t u v w = (
    λ e. cc (meaning_under-normal_text t v, meaning_under-normal_text u w),
    λ e. ap normal_text e,
  )

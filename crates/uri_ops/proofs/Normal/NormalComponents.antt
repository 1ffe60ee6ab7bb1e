-- The components of a normal text: they meet the grammar, are cut apart where the text is, and have
-- the meaning that the text was printed from.
use Rattle.uri_parts.proofs.Offered.{valid_ascii_text}
use Rattle.uri_ops.proofs.Common.{◌≡◌, ℕ, ◌<◌, Bool, true, false, cond, not, List, [], ◌++◌, length, refl, ap, ◌∙◌, ◌&&◌, ◌||◌, arith, option_map, codes, Option, Some, None, IfSome, IfNone, is_some, slice_index, option_and_then, is_ascii_alphabetic, IsUtf8, str_to_ascii_lowercase, and_parts, nat_tests, TableSet, scheme_set, print, is_valid_for, decode_unreserved, excludes, Components, IsSplitOf, Lacks, IsAbemptyPath, marked, has_scheme, has_authority, recompose, Kind, is_scheme, has_colon_in_first_segment, is_authority, query_text, scheme_set_lacks_percent, scheme_set_excludes_delimiters, valid_text_lacks_excluded_marks, dotless_if_absolute, guarded, IsComponentSet, HasComponentSets, PortFunction, authority_meaning, dotless_path, components_meaning, normal_authority, normal_components, print_decoded, common_steps}
use Rattle.uri_ops.proofs.Meanings.ComponentEnds.{no_scheme, path-set-excludes-its-ends, query-set-excludes-its-end}
use Rattle.uri_ops.proofs.Meanings.PortMeanings.{authority_meaning-from-bare-meaning}
use Rattle.uri_ops.proofs.Targeting.Targets.{guarded-path-without-authority-has-no-two-slashes, dotless-abempty-path-is-abempty}
use Rattle.uri_ops.proofs.Meanings.AllowedParts.{is_set_text, set-text-is-utf8, set-text-is-valid, print_decoded-of-nil-is-nil, decode_unreserved-is-idempotent, decoded-set-text-is-set-text}
use Rattle.uri_ops.proofs.Paths.DecodedStarts.{decoding-keeps-leading-slash, decoding-keeps-two-slashes, decoding-adds-no-colon-first}
use Rattle.uri_ops.proofs.Paths.PathMeanings.{guarded-set-text-is-set-text, path-without-dots-is-set-text, normal-path-decodes-as-path}
use Rattle.uri_ops.proofs.Meanings.AsciiCharacters.{lowering-is-idempotent, lowered-scheme-is-utf8, lowered-ascii-passes-test, lowered-scheme-character-is-scheme-character, lowered-text-keeps-leading-letter}
use Rattle.uri_ops.proofs.Meanings.TextParts.{ArePartsOfKind}

-- normal texts: an authority that is printed from its meaning is one, lacks the delimiters that
-- would end it, and has that meaning
pub record NormalAuthoritiesKeepMeaning (kind : Kind) : Type 0 where
  pub utf8 : (default : Option ℕ) (a : List ℕ) → IsUtf8 a → is_authority kind a ≡ true
      → IsUtf8 (normal_authority (authority_meaning kind default a))
  pub meets : (default : Option ℕ) (a : List ℕ) → IsUtf8 a → is_authority kind a ≡ true
      → is_authority kind (normal_authority (authority_meaning kind default a)) ≡ true
  pub lacks : (default : Option ℕ) (a : List ℕ) → IsUtf8 a → is_authority kind a ≡ true
      → Lacks (codes "/?#") (normal_authority (authority_meaning kind default a))
  pub bare : (default : Option ℕ) (a : List ℕ) → IsUtf8 a → is_authority kind a ≡ true
      → authority_meaning kind None (normal_authority (authority_meaning kind default a))
      ≡ authority_meaning kind default a

-- normal texts: the text is a scheme in UTF-8
abbrev IsSchemePart : List ℕ → Type 0
IsSchemePart s = IsUtf8 s × (is_scheme s ≡ true)

lowered-scheme-part-is-scheme-part : (scheme : Option (List ℕ)) → IfSome scheme IsSchemePart
    → IfSome (option_map str_to_ascii_lowercase scheme) IsSchemePart
lowered-scheme-part-is-scheme-part None h = tt
lowered-scheme-part-is-scheme-part (Some s) h =
    grind (
      arith,
      lowered-scheme-is-utf8,
      lowered-ascii-passes-test,
      lowered-scheme-character-is-scheme-character,
      valid_ascii_text,
      lowered-text-keeps-leading-letter,
    )

pub text-with-first-letter-is-not-empty : (s : List ℕ) → is_ascii_alphabetic (slice_index s 0)
    ≡ true → 0 < length s
text-with-first-letter-is-not-empty s e = grind (arith, common_steps)

scheme-part-is-not-empty-and-lacks-ends : (scheme : Option (List ℕ)) → IfSome scheme IsSchemePart
    → IfSome scheme (λ s. (0 < length s) × Lacks (codes ":/?#") s)
scheme-part-is-not-empty-and-lacks-ends None h = tt
scheme-part-is-not-empty-and-lacks-ends (Some s) h =
    let q = and_parts (is_ascii_alphabetic (slice_index s 0)) (is_valid_for scheme_set s) h.1 in (
      text-with-first-letter-is-not-empty s q.0,
      valid_text_lacks_excluded_marks scheme_set
          (codes ":/?#") scheme_set_lacks_percent scheme_set_excludes_delimiters s h.0 q.1,
    )

-- normal texts: a scheme, if there is one, in lower case twice is in lower case once
pub lowering-scheme-is-idempotent : (scheme : Option (List ℕ)) → option_map str_to_ascii_lowercase
    (option_map str_to_ascii_lowercase scheme) ≡ option_map str_to_ascii_lowercase scheme
lowering-scheme-is-idempotent scheme = grind (arith, common_steps, lowering-is-idempotent)

-- the decoded form of a component that may be absent, as printed
module _ (set : TableSet) (marks : List ℕ) (w : IsComponentSet marks set) where
  pub normal-component-is-part : (o : Option (List ℕ)) → IfSome o (λ x. is_set_text set x ≡ true)
      → IfSome (option_map print (option_map (decode_unreserved set) o))
      (λ x. is_set_text set x ≡ true)
  unfolding print_decoded
  normal-component-is-part o h = grind (arith, common_steps, decoded-set-text-is-set-text)

  pub normal-component-decodes-as-component : (o : Option (List ℕ))
      → IfSome o (λ x. is_set_text set x ≡ true)
      → option_map (decode_unreserved set) (option_map print (option_map (decode_unreserved set) o))
      ≡ option_map (decode_unreserved set) o
  unfolding print_decoded
  normal-component-decodes-as-component o h =
      grind (arith, common_steps, decode_unreserved-is-idempotent)

  pub part-lacks-excluded-characters : (some : List ℕ) → excludes set some ≡ true → (o : Option
      (List ℕ)) → IfSome o (λ x. is_set_text set x ≡ true) → IfSome o (λ x. Lacks some x)
  part-lacks-excluded-characters some outside None h = tt
  part-lacks-excluded-characters some outside (Some x) h =
      grind (arith, nat_tests, valid_text_lacks_excluded_marks, set-text-is-utf8, set-text-is-valid)

-- normal texts: the path, without dot segments and decoded, after its guard if there is a scheme
abbrev normal_path_of : TableSet → Option (List ℕ) → Option (List ℕ) → List ℕ → List ℕ
normal_path_of set scheme authority path = cond (is_some (option_map str_to_ascii_lowercase scheme))
    (guarded authority (print (decode_unreserved set (dotless_path scheme path))))
    (print (decode_unreserved set (dotless_path scheme path)))

module _ (set : TableSet) (w : IsComponentSet (codes "?#[]") set)
    (slash : set.ascii 47 ≡ true) where
  normal-path-is-set-text : (scheme authority : Option (List ℕ)) (path : List ℕ)
      → is_set_text set path ≡ true
      → is_set_text set (normal_path_of set scheme authority path) ≡ true
  unfolding print_decoded
  normal-path-is-set-text scheme authority path h =
      grind (
        arith,
        common_steps,
        decoded-set-text-is-set-text,
        guarded-set-text-is-set-text,
        path-without-dots-is-set-text,
      )

  normal-path-decodes-as-dotless-path : (scheme authority : Option (List ℕ)) (path : List ℕ)
      → is_set_text set path ≡ true
      → decode_unreserved set (dotless_path (option_map str_to_ascii_lowercase scheme)
      (normal_path_of set scheme authority path)) ≡ decode_unreserved set (dotless_path scheme path)
  unfolding print_decoded
  normal-path-decodes-as-dotless-path None authority path h = decode_unreserved-is-idempotent set
      w.percent path h
  normal-path-decodes-as-dotless-path (Some s) authority path h = normal-path-decodes-as-path set w
      slash authority path h

  pub decoded-abempty-path-is-abempty : (path : List ℕ)
      → is_set_text set path ≡ true → IsAbemptyPath path → IsAbemptyPath (print_decoded set path)
  decoded-abempty-path-is-abempty path h rooted =
      grind (arith, print_decoded-of-nil-is-nil, decoding-keeps-leading-slash)

  normal-path-after-authority-is-abempty : (scheme : Option (List ℕ)) (a path : List ℕ)
      → is_set_text set path ≡ true
      → IsAbemptyPath path → IsAbemptyPath (normal_path_of set scheme (Some a) path)
  unfolding print_decoded
  normal-path-after-authority-is-abempty None a path h rooted = decoded-abempty-path-is-abempty
      path h rooted
  normal-path-after-authority-is-abempty (Some s) a path h rooted = decoded-abempty-path-is-abempty
      (dotless_if_absolute path) (path-without-dots-is-set-text set w slash path h)
      (dotless-abempty-path-is-abempty path rooted)

  normal-path-begins-with-no-two-slashes : (scheme : Option (List ℕ)) (path : List ℕ)
      → is_set_text set path ≡ true
      → has_authority path ≡ false → has_authority (normal_path_of set scheme None path) ≡ false
  unfolding print_decoded
  normal-path-begins-with-no-two-slashes None path h e = decoding-keeps-two-slashes set w.percent
      w.unreserved path h ∙ e
  normal-path-begins-with-no-two-slashes (Some s) path h e =
      grind (arith, nat_tests, guarded-path-without-authority-has-no-two-slashes, print_decoded)

module _ (kind : Kind) (sets : HasComponentSets kind) (keeps : NormalAuthoritiesKeepMeaning kind)
    (ports : PortFunction) where
  abbrev IsAuthorityPart : List ℕ → Type 0
  IsAuthorityPart a = IsUtf8 a × (is_authority kind a ≡ true)

  abbrev printed : Option ℕ → Option (List ℕ) → Option (List ℕ)
  printed default o = option_map normal_authority (option_map (authority_meaning kind default) o)

  normal-authority-if-some-is-of-kind : (default : Option ℕ) (o : Option (List ℕ))
      → IfSome o IsAuthorityPart → IfSome (printed default o) IsAuthorityPart
  normal-authority-if-some-is-of-kind default o h = grind (arith, common_steps)

  normal-authority-lacks-ends-before-path :
      (default : Option ℕ) (scheme o : Option (List ℕ)) (path : List ℕ) → is_set_text kind.path path
      ≡ true → IfSome o IsAuthorityPart → IfSome o (λ a. Lacks (codes "/?#") a × IsAbemptyPath path)
      → IfSome (printed default o) (λ a. Lacks (codes "/?#") a
      × IsAbemptyPath (normal_path_of kind.path scheme (printed default o) path))
  normal-authority-lacks-ends-before-path default scheme None path part h cut = tt
  normal-authority-lacks-ends-before-path default scheme (Some a) path part h cut =
      grind (arith, nat_tests, normal-path-after-authority-is-abempty)

  normal-path-without-authority-has-none :
      (default : Option ℕ) (scheme o : Option (List ℕ)) (path : List ℕ) → is_set_text kind.path path
      ≡ true → IfNone o (has_authority path ≡ false) → IfNone (printed default o)
      (has_authority (normal_path_of kind.path scheme (printed default o) path) ≡ false)
  normal-path-without-authority-has-none default scheme o path part h =
      grind (arith, common_steps, normal-path-begins-with-no-two-slashes)

  normal-authority-keeps-meaning : (default other : Option ℕ) → other ≡ default
      → (o : Option (List ℕ)) → IfSome o IsAuthorityPart → option_map (authority_meaning kind other)
      (printed default o) ≡ option_map (authority_meaning kind default) o
  normal-authority-keeps-meaning default other e q h =
      grind (arith, common_steps, authority_meaning-from-bare-meaning)

  -- a scheme if the kind needs one, and no `:` in the first segment of a path that is alone
  abbrev meets_needs : Option (List ℕ) → Option (List ℕ) → List ℕ → Bool
  meets_needs scheme o path = is_some scheme
      || (not kind.needs_scheme && (is_some o || not (has_colon_in_first_segment path)))

  decoding-keeps-first-segment-without-colon : (path : List ℕ)
      → is_set_text kind.path path ≡ true → has_colon_in_first_segment path ≡ false
      → has_colon_in_first_segment (print (decode_unreserved kind.path path)) ≡ false
  unfolding print_decoded
  decoding-keeps-first-segment-without-colon path part e =
      grind (arith, nat_tests, decoding-adds-no-colon-first)

  normal-components-keep-scheme-or-colon-rule : (default : Option ℕ) (scheme o : Option
      (List ℕ)) (path : List ℕ) → is_set_text kind.path path ≡ true
      → meets_needs scheme o path ≡ true → meets_needs (option_map str_to_ascii_lowercase scheme)
      (printed default o) (normal_path_of kind.path scheme (printed default o) path) ≡ true
  normal-components-keep-scheme-or-colon-rule default scheme o path part h =
      grind (arith, common_steps, decoding-keeps-first-segment-without-colon)

  normal-text-without-scheme-has-none : (default : Option ℕ) (scheme o : Option (List ℕ))
      (path : List ℕ) (query fragment : Option (List ℕ)) → is_set_text kind.path path ≡ true
      → meets_needs scheme o path ≡ true → IfNone (option_map str_to_ascii_lowercase scheme)
      (has_scheme (marked [] (option_map str_to_ascii_lowercase scheme) (codes ":")
      ++ (marked (codes "//") (printed default o) [] ++ (normal_path_of kind.path scheme
      (printed default o) path ++ query_text query fragment))) ≡ false)
  normal-text-without-scheme-has-none default scheme o path query fragment part h =
      grind (arith, no_scheme, decoding-keeps-first-segment-without-colon)

  abbrev pub components_of_normal_text : Components → Components
  components_of_normal_text p = normal_components (components_meaning kind ports p)

  -- each component meets its rule
  pub normal-components-are-of-kind : (p : Components) → ArePartsOfKind kind p
      → ArePartsOfKind kind (components_of_normal_text p)
  normal-components-are-of-kind p parts =
      let default = option_and_then ports (option_map str_to_ascii_lowercase p.scheme) in
      record {
        scheme = lowered-scheme-part-is-scheme-part p.scheme parts.scheme;
        authority = normal-authority-if-some-is-of-kind default p.authority parts.authority;
        path = normal-path-is-set-text
            kind.path sets.path sets.slash p.scheme (printed default p.authority) p.path parts.path;
        query = normal-component-is-part kind.query (codes "#[]") sets.query p.query parts.query;
        fragment = normal-component-is-part kind.fragment (codes "#[]") sets.fragment p.fragment
            parts.fragment;
        needs = normal-components-keep-scheme-or-colon-rule default p.scheme p.authority p.path
            parts.path parts.needs;
      }

  -- the normal components are the components of their text
  pub normal-components-are-split : (text : List ℕ) (p : Components) → IsSplitOf text p
      → ArePartsOfKind kind p
      → IsSplitOf (recompose (components_of_normal_text p)) (components_of_normal_text p)
  normal-components-are-split text p split parts =
      let default = option_and_then ports (option_map str_to_ascii_lowercase p.scheme) in
      let done = normal-components-are-of-kind p parts in
      record {
        whole = refl;
        scheme = scheme-part-is-not-empty-and-lacks-ends
            (option_map str_to_ascii_lowercase p.scheme) done.scheme;
        authority = normal-authority-lacks-ends-before-path
            default p.scheme p.authority p.path parts.path parts.authority split.authority;
        path = valid_text_lacks_excluded_marks kind.path (codes "?#") sets.path.percent
            (path-set-excludes-its-ends kind sets) (components_of_normal_text p).path
            (set-text-is-utf8 kind.path (components_of_normal_text p).path done.path)
            (set-text-is-valid kind.path (components_of_normal_text p).path done.path);
        query = part-lacks-excluded-characters kind.query (codes "#[]") sets.query (codes "#")
            (query-set-excludes-its-end kind sets) (components_of_normal_text p).query done.query;
        no_scheme = normal-text-without-scheme-has-none default p.scheme p.authority p.path
            (components_of_normal_text p).query
            (components_of_normal_text p).fragment parts.path parts.needs;
        no_authority = normal-path-without-authority-has-none
            default p.scheme p.authority p.path parts.path split.no_authority;
      }

  -- the normal components have the meaning of the components that they were made from
  pub normal-components-have-same-meaning : (p : Components) → ArePartsOfKind kind p
      → components_meaning kind ports (components_of_normal_text p)
      ≡ components_meaning kind ports p
  normal-components-have-same-meaning p parts =
      let scheme = option_map str_to_ascii_lowercase p.scheme in
      let twice = lowering-scheme-is-idempotent p.scheme in
      let default = option_and_then ports scheme in
      let authority = normal-authority-keeps-meaning default
      (option_and_then ports (option_map str_to_ascii_lowercase scheme))
      (ap (option_and_then ports) twice) p.authority parts.authority in
      let path = normal-path-decodes-as-dotless-path kind.path sets.path sets.slash p.scheme
      (printed default p.authority) p.path parts.path in
      let query = normal-component-decodes-as-component kind.query (codes "#[]") sets.query p.query
      parts.query in
      let fragment = normal-component-decodes-as-component kind.fragment
      (codes "#[]") sets.fragment p.fragment parts.fragment in
      λ i. record {
        scheme = twice i;
        authority = authority i;
        path = path i;
        query = query i;
        fragment = fragment i;
      }

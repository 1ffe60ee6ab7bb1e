-- The reference that a text is mended to has all that is said of one.
use Rattle.uri_mend.proofs.Common.{◌≡◌, ◌+◌, length, true, false, refl, sym, ap, ◌∙◌, subst, List, ℕ, ◌≤◌, arith, length-append, length-take-le, Bool, IfSome, None, Option, ◌++◌, ◌-◌, drop, option_map, take, IsUtf8, LacksPercent, TableSet, Components, components, Kind, IsOfKind, components_meet_rules, HasComponentSets, components-of-utf8-are-utf8, grammar-gives-components-of-kind, IsLink, mended, dot_segment_if, mended_tail, Link, can_be_mended, has_false_scheme, link_components, mended_components, mended_text, with_dot_segment}
use Rattle.uri_ops.proofs.Offered.{recomposed-components-are-utf8}
use Rattle.uri_mend.specs.Encodings.{AreComponentsEncodedAs, DecodeAlike}
use Rattle.uri_mend.specs.Mended.{IsMended}
use Rattle.uri_mend.proofs.FewestEncodings.{mended-components-are-encoded, mended-components-decode-alike, mended-components-encode-fewest}
use Rattle.uri_mend.proofs.LinkComponents.{false-scheme-gets-dot-segment, link-components-without-false-scheme, with_dot_segment-is-utf8}
use Rattle.uri_mend.proofs.MendedTokens.{mended-text-is-utf8}
use Rattle.uri_mend.proofs.MendedLengths.{length-of-mended-text}
use Rattle.uri_mend.proofs.MendedReferences.{components-of-mended-text, mended-text-is-of-kind}
use Rattle.uri_mend.proofs.Unchanged.{text-of-kind-can-be-mended, text-of-kind-is-unchanged}

-- mending: a component that is mended, or none, is UTF-8
mended-part-is-utf8 : (set : TableSet) (o : Option (List ℕ)) → LacksPercent set → IfSome o IsUtf8
    → IfSome (option_map (mended set) o) IsUtf8
mended-part-is-utf8 set o lacks h = grind (arith, mended-text-is-utf8)

pub pieces-are-mended-text : (kind : Kind) → HasComponentSets kind → (text : List ℕ) (link : Link)
    → IsLink text link → (dot_segment_if link.has_false_scheme ++ take link.path_start text)
    ++ mended_tail kind (drop link.path_start text) ≡ mended_text kind text
pieces-are-mended-text kind sets text link h = grind arith

pub start-of-mended-text : (text out : List ℕ) (at n : ℕ) (dot : Bool)
    → take at out ≡ dot_segment_if dot
    → take at out ++ take (n - 0) (drop 0 text) ≡ dot_segment_if dot ++ take n text
start-of-mended-text text out at n dot e = ap (λ t. t ++ take (n - 0) (drop 0 text)) e
    ∙ ap (λ k. dot_segment_if dot ++ take k text) (omega arith)

-- mending: how long is what is written before a position
pub length-of-start : (text : List ℕ) (n : ℕ) (dot : Bool) → n ≤ length text
    → length (dot_segment_if dot ++ take n text) ≡ n + length (dot_segment_if dot)
length-of-start text n dot inside =
    length-append (dot_segment_if dot) (take n text) ∙ omega (arith, length-take-le n text inside)

module _ (kind : Kind) (sets : HasComponentSets kind) (text : List ℕ) (u : IsUtf8 text) where
  -- mending: the components of the mended text
  made-components : components (mended_text kind text)
      ≡ mended_components kind (link_components text)
  made-components = components-of-mended-text kind sets text u

  -- mending: without a false scheme the mended text has the scheme and the authority of the text
  made-prefix : has_false_scheme text ≡ false
      → components (mended_text kind text) ≡ mended_components kind (components text)
  made-prefix e =
      made-components ∙ ap (mended_components kind) (link-components-without-false-scheme text e)

  -- mending: with a false scheme the mended text has neither a scheme nor an authority
  made-prefix-is-empty : has_false_scheme text ≡ true
      → ((components (mended_text kind text)).scheme ≡ None)
      × ((components (mended_text kind text)).authority ≡ None)
  unfolding link_components
  made-prefix-is-empty e = grind (arith, made-components, components, false-scheme-gets-dot-segment)

  -- mending: the mended text of a text that can be mended is what it is mended to
  mended-text-is-mended : can_be_mended kind text ≡ true
      → IsMended kind text (mended_text kind text)
  mended-text-is-mended mendable = record {
    mendable = mendable;
    text = refl;
    of_kind = mended-text-is-of-kind kind sets text u mendable;
    unchanged = text-of-kind-is-unchanged kind sets text u;
    split = made-components;
    scheme = λ e. ap (λ (p : Components). p.scheme) (made-prefix e);
    authority = λ e. ap (λ (p : Components). p.authority) (made-prefix e);
    bare = made-prefix-is-empty;
    decoded = subst (λ p. DecodeAlike p (link_components text)) (sym made-components)
        (mended-components-decode-alike kind sets text u);
    encoded = subst (AreComponentsEncodedAs (link_components text)) (sym made-components)
        (mended-components-are-encoded kind sets text u);
    fewest = λ other is h. subst (λ p. AreComponentsEncodedAs p (components other))
        (sym made-components) (mended-components-encode-fewest kind sets text u other is h);
    size = length-of-mended-text kind text u;
  }

  -- mending: a text that is equal to the mended text of a text that can be mended is what it is
  -- mended to
  pub equal-to-mended-text-is-mended : (made : List ℕ) → can_be_mended kind text ≡ true
      → made ≡ mended_text kind text → IsMended kind text made
  equal-to-mended-text-is-mended made mendable same =
      subst (IsMended kind text) (sym same) (mended-text-is-mended mendable)

  -- mending: a text of the kind is what it is mended to
  pub equal-to-text-of-kind-is-mended : (made : List ℕ) → IsOfKind kind text → made ≡ text
      → IsMended kind text made
  equal-to-text-of-kind-is-mended made is same =
      equal-to-mended-text-is-mended made (text-of-kind-can-be-mended kind sets text is)
      (same ∙ sym (text-of-kind-is-unchanged kind sets text u is))

  -- mending: the mended text of a text that can be mended is UTF-8
  pub mended-text-of-link-is-utf8 : can_be_mended kind text ≡ true → IsUtf8 (mended_text kind text)
  unfolding link_components mended_text
  mended-text-of-link-is-utf8 mendable =
      let p = link_components text in
      let parts = components-of-utf8-are-utf8 (with_dot_segment text)
      (with_dot_segment-is-utf8 text u) in
      recomposed-components-are-utf8 kind (mended_components kind p)
      (grammar-gives-components-of-kind kind (mended_components kind p) (record {
        scheme = parts.scheme;
        authority = parts.authority;
        path = mended-text-is-utf8 kind.path p.path sets.path.percent parts.path;
        query = mended-part-is-utf8 kind.query p.query sets.query.percent parts.query;
        fragment = mended-part-is-utf8 kind.fragment p.fragment sets.fragment.percent
            parts.fragment;
      }) (subst (λ c. components_meet_rules kind c ≡ true) made-components
      (mended-text-is-of-kind kind sets text u mendable)))

-- If base and reference are replaced by their normal texts, the target is equivalent, and the
-- errors are the same.
use Rattle.uri_ops.proofs.Common.{common_steps, ◌≡◌, ℕ, true, false, cond, List, [], ◌∷◌, ◌++◌, refl, sym, ap, ◌∙◌, ◌||◌, ⊎_elim, option_map, arith, codes, Option, Some, None, IfSome, is_some, is_none, IsUtf8, cases_Bool, cond-true, cond-false, false≢true, nat_tests, TableSet, print, decode_unreserved, Components, starts, IsAbemptyPath, Kind, is_authority, components_of_parts, is_empty, directory, is_opaque, is_fragment_only, is_opaque_rejection, dotted_target, dotless_if_absolute, guarded, IsComponentSet, HasComponentSets, PortFunction, Meaning, authority_meaning, components_meaning, normal_authority, normal_components, reference_kind, print_decoded, is_none-option_map}
use Rattle.uri_ops.proofs.Meanings.AllowedParts.{is_set_text, print_decoded-of-nil-is-nil, decode_unreserved-is-idempotent}
use Rattle.uri_ops.proofs.Paths.DecodedStarts.{decoding-keeps-emptiness, decoding-keeps-leading-slash}
use Rattle.uri_ops.proofs.Paths.PathMeanings.{removing-dots-keeps-leading-slash, dotless_if_absolute-is-idempotent, guard-is-removed-as-dot-segment, path-without-dots-is-set-text, dotless_if_absolute-and-decoding-swap}
use Rattle.uri_ops.proofs.Meanings.PortMeanings.{with_default, bare-authority-meaning-with_default}
use Rattle.uri_ops.proofs.Meanings.TextParts.{ArePartsOfKind}
use Rattle.uri_ops.proofs.Meanings.AsciiCharacters.{lowering-is-idempotent}
use Rattle.uri_ops.proofs.Normal.NormalComponents.{normal-component-decodes-as-component, normal-components-have-same-meaning}
use Rattle.uri_ops.proofs.Meanings.AuthorityMeanings.{normal-authorities-are-authorities}
use Rattle.uri_ops.proofs.Paths.MergedPaths.{merged-normal-paths-decode-as-merged}

-- targets: what holds of all components with a scheme (s) holds of components that have one
pub with_scheme : (P : Components → Type 0)
    → ((s : List ℕ) (a : Option (List ℕ)) (p : List ℕ) (q f : Option (List ℕ))
    → P (components_of_parts (Some s) a p q f)) → (c : Components) → is_some c.scheme ≡ true → P c
with_scheme P each c h = some c.scheme h
  where
    some : (o : Option (List ℕ)) → is_some o ≡ true
        → P (components_of_parts o c.authority c.path c.query c.fragment)
    some None e = absurd (false≢true e)
    some (Some s) e = each s c.authority c.path c.query c.fragment

module _ (set : TableSet) (w : IsComponentSet (codes "?#[]") set)
    (slash : set.ascii 47 ≡ true) where
  -- dot segments may be removed from a path or from its decoded form
  removing-dots-of-decoded-path-decodes-same : (path : List ℕ) → is_set_text set path ≡ true
      → decode_unreserved set (dotless_if_absolute (print (decode_unreserved set path)))
      ≡ decode_unreserved set (dotless_if_absolute path)
  unfolding print_decoded
  removing-dots-of-decoded-path-decodes-same path e =
      grind (
        arith,
        dotless_if_absolute-and-decoding-swap,
        decode_unreserved-is-idempotent,
        path-without-dots-is-set-text,
      )

  normal-path-keeps-emptiness : (path : List ℕ) → is_set_text set path ≡ true
      → is_empty (print (decode_unreserved set path)) ≡ is_empty path
  unfolding print_decoded
  normal-path-keeps-emptiness path e = decoding-keeps-emptiness set w.percent w.unreserved path e

  normal-path-keeps-leading-slash : (path : List ℕ) → is_set_text set path ≡ true
      → starts 47 (print (decode_unreserved set path)) ≡ starts 47 path
  unfolding print_decoded
  normal-path-keeps-leading-slash path e = decoding-keeps-leading-slash set w.percent
      w.unreserved path e

  -- the path that is merged
  merged-normal-path-decodes-same : (authority : Option (List ℕ)) (base path : List ℕ)
      → IsAbemptyPath base → is_set_text set base ≡ true → is_set_text set path ≡ true
      → decode_unreserved set (dotless_if_absolute (directory (guarded authority (print
      (decode_unreserved set (dotless_if_absolute base)))) ++ print (decode_unreserved set path)))
      ≡ decode_unreserved set (dotless_if_absolute (directory base ++ path))
  unfolding print_decoded
  merged-normal-path-decodes-same authority base path h e f =
      merged-normal-paths-decode-as-merged set w slash authority base path h e f

module _ (kind : Kind) (sets : HasComponentSets kind) (ports : PortFunction) where
  pub reference-kind-has-component-sets : HasComponentSets (reference_kind kind)
  reference-kind-has-component-sets = grind (arith, nat_tests)

  abbrev meaning : Components → Meaning
  meaning p = components_meaning kind ports p

  abbrev pub normal : Components → Components
  normal p = normal_components (components_meaning kind ports p)

  -- the target's path has lost its dot segments, and may have a guard
  pub target-path-has-meaning-of-joined : (t : Components) → is_some t.scheme ≡ true
      → meaning (record t { path = guarded t.authority (dotless_if_absolute t.path) }) ≡ meaning t
  target-path-has-meaning-of-joined =
      grind (arith, with_scheme, guard-is-removed-as-dot-segment, dotless_if_absolute-is-idempotent)

  -- an authority that came without a scheme
  normal-bare-authority-has-meaning-under-default : (default : Option ℕ) (a : List ℕ)
      → IsUtf8 a → is_authority kind a ≡ true → authority_meaning kind default
      (normal_authority (authority_meaning kind None a)) ≡ authority_meaning kind default a
  normal-bare-authority-has-meaning-under-default default a u e =
      sym (bare-authority-meaning-with_default kind default
      (normal_authority (authority_meaning kind None a)))
      ∙ ap (with_default default) ((normal-authorities-are-authorities kind sets).bare None a u e)
      ∙ bare-authority-meaning-with_default kind default a

  normal-query-decodes-as-query : (o : Option (List ℕ)) → IfSome o (λ x. is_set_text kind.query x
      ≡ true) → option_map (decode_unreserved kind.query) (option_map print
      (option_map (decode_unreserved kind.query) o)) ≡ option_map (decode_unreserved kind.query) o
  normal-query-decodes-as-query o h = normal-component-decodes-as-component kind.query
      (codes "#[]") sets.query o h

  normal-fragment-decodes-as-fragment : (o : Option (List ℕ))
      → IfSome o (λ x. is_set_text kind.fragment x ≡ true)
      → option_map (decode_unreserved kind.fragment) (option_map print (option_map
      (decode_unreserved kind.fragment) o)) ≡ option_map (decode_unreserved kind.fragment) o
  normal-fragment-decodes-as-fragment o h = normal-component-decodes-as-component kind.fragment
      (codes "#[]") sets.fragment o h

  -- the query of the reference, or else of the base
  chosen-normal-query-decodes-as-chosen : (q : Option (List ℕ)) (other base : Option (List ℕ))
      → IfSome q (λ x. is_set_text kind.query x ≡ true)
      → option_map (decode_unreserved kind.query) other
      ≡ option_map (decode_unreserved kind.query) base → option_map (decode_unreserved kind.query)
      (cond (is_some (option_map print (option_map (decode_unreserved kind.query) q)))
      (option_map print (option_map (decode_unreserved kind.query) q)) other)
      ≡ option_map (decode_unreserved kind.query) (cond (is_some q) q base)
  chosen-normal-query-decodes-as-chosen q other base h e =
      grind (arith, common_steps, e, normal-query-decodes-as-query)

  -- a reference without a scheme, an authority or a path, against a base with a scheme
  reference-without-path-has-same-target-meaning : (base : Components) (q f : Option (List ℕ))
      → ArePartsOfKind kind base → IfSome q (λ x. is_set_text kind.query x ≡ true)
      → IfSome f (λ x. is_set_text kind.fragment x ≡ true)
      → meaning (dotted_target (normal base) (normal (components_of_parts None None [] q f)))
      ≡ meaning (dotted_target base (components_of_parts None None [] q f))
  unfolding print_decoded
  reference-without-path-has-same-target-meaning base q f parts hq hf =
      grind (
        arith,
        common_steps,
        normal-components-have-same-meaning,
        normal-authorities-are-authorities,
        print_decoded-of-nil-is-nil,
        chosen-normal-query-decodes-as-chosen,
        normal-fragment-decodes-as-fragment,
      )

  -- a reference with a path, but neither scheme nor authority, against a base with a scheme
  reference-with-path-has-same-target-meaning : (b : List ℕ) (ba : Option
      (List ℕ)) (bp : List ℕ) (bq bf : Option (List ℕ)) (p : List ℕ) (q f : Option (List ℕ))
      → ArePartsOfKind kind (components_of_parts (Some b) ba bp bq bf)
      → is_set_text kind.path p ≡ true → IfSome q (λ x. is_set_text kind.query x ≡ true)
      → IfSome f (λ x. is_set_text kind.fragment x ≡ true)
      → is_empty p ≡ false → (starts 47 p ≡ false → IsAbemptyPath bp)
      → meaning (dotted_target (normal (components_of_parts (Some b) ba bp bq bf))
      (normal (components_of_parts None None p q f))) ≡ meaning (dotted_target
      (components_of_parts (Some b) ba bp bq bf) (components_of_parts None None p q f))
  reference-with-path-has-same-target-meaning b ba bp bq bf p q f parts hp hq hf some rooted =
      let base = components_of_parts (Some b) ba bp bq bf in
      let r = components_of_parts None None p q f in
      let same = normal-components-have-same-meaning kind sets
      (normal-authorities-are-authorities kind sets) ports base parts in
      let query = normal-query-decodes-as-query q hq in
      let fragment = normal-fragment-decodes-as-fragment f hf in
      let first = normal-path-keeps-leading-slash kind.path sets.path sets.slash p hp in
      ap meaning (cond-false _ _ _
      (normal-path-keeps-emptiness kind.path sets.path sets.slash p hp ∙ some)) ∙ ⊎_elim (λ h.
      let path = removing-dots-of-decoded-path-decodes-same kind.path sets.path sets.slash p hp in
      ap meaning (cond-true _ _ _ (first ∙ h)) ∙ (λ i. record {
        scheme = (same i).scheme;
        authority = (same i).authority;
        path = path i;
        query = query i;
        fragment = fragment i;
      }) ∙ sym (ap meaning (cond-false _ _ _ some ∙ cond-true _ _ _ h))) (λ h.
      let path = merged-normal-path-decodes-same kind.path sets.path sets.slash
      (normal base).authority bp p (rooted h) parts.path hp in
      ap meaning (cond-false _ _ _ (first ∙ h)) ∙ (λ i. record {
        scheme = (same i).scheme;
        authority = (same i).authority;
        path = path i;
        query = query i;
        fragment = fragment i;
      }) ∙ sym (ap meaning (cond-false _ _ _ some ∙ cond-false _ _ _ h))) (cases_Bool (starts 47 p))

  -- a reference with an authority, but no scheme, against a base with a scheme
  reference-with-authority-has-same-target-meaning : (b : List ℕ) (ba : Option
      (List ℕ)) (bp : List ℕ) (bq bf : Option (List ℕ)) (a p : List ℕ) (q f : Option (List ℕ))
      → IsUtf8 a → is_authority kind a ≡ true → is_set_text kind.path p ≡ true
      → IfSome q (λ x. is_set_text kind.query x ≡ true) → IfSome f (λ x. is_set_text kind.fragment x
      ≡ true) → meaning (dotted_target (normal (components_of_parts (Some b) ba bp bq bf))
      (normal (components_of_parts None (Some a) p q f))) ≡ meaning (dotted_target
      (components_of_parts (Some b) ba bp bq bf) (components_of_parts None (Some a) p q f))
  reference-with-authority-has-same-target-meaning b ba bp bq bf a p q f u e hp hq hf =
      grind (
        arith,
        lowering-is-idempotent,
        normal-bare-authority-has-meaning-under-default,
        removing-dots-of-decoded-path-decodes-same,
        normal-query-decodes-as-query,
        normal-fragment-decodes-as-fragment,
      )

  -- the target's components, before dot segments are removed, are equivalent to those of the
  -- normal texts
  pub joined-normal-components-have-same-meaning : (b : List ℕ) (ba : Option (List ℕ)) (bp : List ℕ)
      (bq bf : Option (List ℕ)) (s a : Option (List ℕ)) (p : List ℕ) (q f : Option (List ℕ))
      → ArePartsOfKind kind (components_of_parts (Some b) ba bp bq bf)
      → ArePartsOfKind (reference_kind kind) (components_of_parts s a p q f)
      → (is_none s ≡ true → is_none a ≡ true → is_empty p ≡ false → IsAbemptyPath bp)
      → meaning (dotted_target (normal (components_of_parts (Some b) ba bp bq bf))
      (normal (components_of_parts s a p q f))) ≡ meaning
      (dotted_target (components_of_parts (Some b) ba bp bq bf) (components_of_parts s a p q f))
  joined-normal-components-have-same-meaning b ba bp bq bf (Some s) a p q f base r rooted =
      normal-components-have-same-meaning (reference_kind kind) reference-kind-has-component-sets
      (normal-authorities-are-authorities (reference_kind kind) reference-kind-has-component-sets)
      ports (components_of_parts (Some s) a p q f) r
  joined-normal-components-have-same-meaning b ba bp bq bf None (Some a) p q f base r rooted =
      reference-with-authority-has-same-target-meaning b ba bp bq bf a p q f r.authority.0
      r.authority.1 r.path r.query r.fragment
  joined-normal-components-have-same-meaning b ba bp bq bf None None [] q f base r rooted =
      reference-without-path-has-same-target-meaning (components_of_parts (Some b) ba bp bq bf) q f
      base r.query r.fragment
  joined-normal-components-have-same-meaning b ba bp bq bf None None (c ∷ p) q f base r rooted =
      reference-with-path-has-same-target-meaning b ba bp bq bf
      (c ∷ p) q f base r.path r.query r.fragment refl (λ h. rooted refl refl refl)

  normal-base-is-opaque-as-base : (b : List ℕ) (ba : Option (List ℕ)) (bp : List ℕ) (bq bf : Option
      (List ℕ)) → is_set_text kind.path bp ≡ true
      → is_opaque (normal (components_of_parts (Some b) ba bp bq bf))
      ≡ is_opaque (components_of_parts (Some b) ba bp bq bf)
  normal-base-is-opaque-as-base b ba bp bq bf h =
      grind (
        arith,
        normal-path-keeps-leading-slash,
        path-without-dots-is-set-text,
        removing-dots-keeps-leading-slash,
      )

  normal-reference-is-fragment-only-as-reference :
      (s a : Option (List ℕ)) (p : List ℕ) (q f : Option (List ℕ))
      → is_set_text kind.path p ≡ true → (is_some (normal (components_of_parts s a p q f)).scheme
      || is_fragment_only (normal (components_of_parts s a p q f)))
      ≡ (is_some s || is_fragment_only (components_of_parts s a p q f))
  normal-reference-is-fragment-only-as-reference s a p q f h =
      grind (arith, common_steps, normal-path-keeps-emptiness, is_none-option_map)

  pub normal-components-are-rejected-alike : (b : List ℕ) (ba : Option (List ℕ)) (bp : List ℕ)
      (bq bf : Option (List ℕ)) (s a : Option (List ℕ)) (p : List ℕ) (q f : Option (List ℕ))
      → is_set_text kind.path bp ≡ true → is_set_text kind.path p ≡ true
      → is_opaque_rejection (normal (components_of_parts (Some b) ba bp bq bf))
      (normal (components_of_parts s a p q f)) ≡ is_opaque_rejection
      (components_of_parts (Some b) ba bp bq bf) (components_of_parts s a p q f)
  normal-components-are-rejected-alike b ba bp bq bf s a p q f hb hp = cc (
    normal-base-is-opaque-as-base b ba bp bq bf hb,
    normal-reference-is-fragment-only-as-reference s a p q f hp,
  )

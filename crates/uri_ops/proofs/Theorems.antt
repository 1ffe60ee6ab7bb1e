-- What the crate is for, theorem by theorem. Each group is what a law states as its contract.
use Rattle.uri_ops.proofs.TextKinds.FourKinds.{uri-has-component-sets, uri_ref-has-component-sets, iri-has-component-sets, iri_ref-has-component-sets}
use Rattle.uri_ops.proofs.TextKinds.GrammarTexts.{uris-are-texts-of-grammar, uri_refs-are-texts-of-grammar, iris-are-texts-of-grammar, iri_refs-are-texts-of-grammar, uri-authority-splits-in-one-way, iri-authority-splits-in-one-way, uri-host-is-of-one-kind, iri-host-is-of-one-kind}
use Rattle.uri_ops.proofs.Paths.DotRuns.{removal-loop-empties-its-input}
use Rattle.uri_ops.proofs.Paths.DotLaws.{removing-dots-leaves-no-dot-segment, removing-dots-keeps-absolute, removing-dots-lengthens-no-path, remove-dots-of-dotless, dotless-path-does-not-underflow, directory-is-absolute, directory-ends-in-slash, removing-dots-and-directory-swap, directory-underflows-as-path, prefix-dots-may-be-removed-first, path-underflows-as-prefix-or-remainder, base-dots-may-be-removed-before-merging, merged-path-underflows-as-base-or-remainder}
use Rattle.uri_ops.proofs.Meanings.PortMeanings.{meaning_of-from-bare-meaning}
use Rattle.uri_ops.proofs.Meanings.SameMeanings.{same_meaning-decides-equality}
use Rattle.uri_ops.proofs.SchemeRules.RuledMeanings.{meaning-under-ports-alone}
use Rattle.uri_ops.proofs.SchemeRules.RuledTexts.{normal-text-under-rules-is-text-of-kind, meaning_under-normal_text, normal_text-is-idempotent, same-normal-text-same-meaning}
use Rattle.uri_ops.proofs.Targeting.Targets.{target-components-are-split, target-text-has-target-components}
-- The target of a reference against a base of a kind is a text of that kind: RFC 3986, section 5.2.
pub use Rattle.uri_ops.proofs.Targeting.TargetTexts.{target-is-of-kind-of-base}
-- Resolution respects equivalence under any rules of schemes, so resolving and normalising swap: RFC
-- 3986, sections 5.2, 6.2.2 and 6.2.3.
pub use Rattle.uri_ops.proofs.SchemeRules.RuledTargets.{resolving-respects-meaning}
pub use Rattle.uri_ops.proofs.SchemeRules.RuledTargets.{normal-texts-resolve-to-same-meaning}
-- A text with its characters past ASCII as octets is of the kind of URIs that goes with its kind.
-- It is equivalent to the text: RFC 3987, section 3.1.
pub use Rattle.uri_ops.proofs.AsciiForms.EncodedMeanings.{encoded-text-is-of-ascii_kind}
pub use Rattle.uri_ops.proofs.AsciiForms.EncodedMeanings.{encoding-keeps-meaning_of-text, encoding-keeps-meaning_under-text}
-- If a base and a reference change so, the target changes so, and underflows in the same cases.
pub use Rattle.uri_ops.proofs.AsciiForms.EncodedTargets.{resolving-and-encoding-swap}
pub use Rattle.uri_ops.proofs.AsciiForms.EncodedTargets.{encoding-keeps-target-underflow}

-- The sets of the four kinds are what the laws ask of the sets of a kind: RFC 3986, sections 2.2,
-- 2.3 and 3, and RFC 3987, section 2.2.
pub ruleset four_sets = (
  uri-has-component-sets,
  uri_ref-has-component-sets,
  iri-has-component-sets,
  iri_ref-has-component-sets,
)

-- The texts of a kind are those of the RFCs' grammars: RFC 3986, sections 3 and 4.2.
pub ruleset grammar_laws = (
  uris-are-texts-of-grammar,
  uri_refs-are-texts-of-grammar,
  iris-are-texts-of-grammar,
  iri_refs-are-texts-of-grammar,
)

-- An authority has one cut, and a host is of one kind: RFC 3986, sections 3.2 and 3.2.2.
pub ruleset cut_laws = (
  uri-authority-splits-in-one-way,
  iri-authority-splits-in-one-way,
  uri-host-is-of-one-kind,
  iri-host-is-of-one-kind,
)

-- The loop that removes dot segments ends with an empty input: RFC 3986, section 5.2.4.
pub ruleset dot_runs = (removal-loop-empties-its-input)

-- What it leaves has no dot segment, begins with `/` and is no longer than the path.
pub ruleset removed_laws = (
  removing-dots-leaves-no-dot-segment,
  removing-dots-keeps-absolute,
  removing-dots-lengthens-no-path,
)

-- A path without dot segments is left as it is.
pub ruleset dotless_laws = (remove-dots-of-dotless, dotless-path-does-not-underflow)

-- Dot segments may be removed before a directory is taken, or after.
pub ruleset directory_laws = (
  directory-is-absolute,
  directory-ends-in-slash,
  removing-dots-and-directory-swap,
  directory-underflows-as-path,
)

-- They may be removed from the prefix of a path first,
pub ruleset piece_laws = (prefix-dots-may-be-removed-first, path-underflows-as-prefix-or-remainder)

-- and from a base's path before a reference's is merged with it: RFC 3986, section 5.2.3.
pub ruleset merging_laws =
    (base-dots-may-be-removed-before-merging, merged-path-underflows-as-base-or-remainder)

-- Under any rules of schemes, a normal text has the meaning it is of, and two texts have the same
-- normal text exactly where they have the same meaning: RFC 3986, sections 6.2.2 and 6.2.3.
pub ruleset canonical = (
  meaning_of-from-bare-meaning,
  meaning-under-ports-alone,
  normal-text-under-rules-is-text-of-kind,
  meaning_under-normal_text,
  normal_text-is-idempotent,
  same-normal-text-same-meaning,
)

-- Meanings are equal exactly if each part is: RFC 3986, section 6.2.2.
pub ruleset comparing = (same_meaning-decides-equality)

-- A target's text has the components that were put into it: RFC 3986, sections 5.2.2 and 5.3.
pub ruleset target_laws = (target-components-are-split, target-text-has-target-components)

-- What the crate is for, theorem by theorem.
use Rattle.uri_parts.proofs.Common.{◌≡◌, ℕ, true, List, sym, ap, subst, ◌∙◌, arith, IfOk, Result, Ok, Err, is_ok, IsUtf8, nat_tests, TableSet, components, Kind, first_segment_set, is_of_kind, kind_by_flags, ArePackedPositionsOf, packed, positions_of, parsed_positions}
use Rattle.uri_parts.specs.declared.packed_positions.PackedPositions.{PackedPositions}
use Rattle.uri_parts.proofs.Parsing.Acceptance.{parses}
use Rattle.uri_parts.proofs.TextKinds.KindSets.{each_kind_separates_components}
use Rattle.uri_parts.proofs.Parsing.ParsedPositions.{parsed_positions-are-those-of-components}
use Rattle.uri_parts.proofs.TextKinds.Separations.{SeparatesComponents}
use Rattle.uri_parts.proofs.Parsing.WholeTexts.{parses-is-is_of_kind}
-- The components of a text are a split of it, and its only one, and are together the text: RFC
-- 3986, appendix B and section 5.3.
pub use Rattle.uri_parts.proofs.Splitting.Recompose.{components-are-split-of-text}
pub use Rattle.uri_parts.proofs.Splitting.Recompose.{recompose-components}
pub use Rattle.uri_parts.proofs.Splitting.Splits.{only-split-is-components}
-- An authority has one cut, and passes its test exactly where that cut meets the grammar: RFC 3986,
-- section 3.2.
pub use Rattle.uri_parts.proofs.Authorities.Authority.{authority_parts-are-unique}
pub use Rattle.uri_parts.proofs.Authorities.Authority.{is_authority_for-complete}
pub use Rattle.uri_parts.proofs.Authorities.Authority.{is_authority_for-sound}
-- A host is of one kind, and passes its test exactly where it is of that: RFC 3986, section 3.2.2.
pub use Rattle.uri_parts.proofs.HostForms.Hosts.{is_host-complete, is_host-sound}

-- main theorem on kinds: by tables of a kind's sets, each component ends where the next begins
pub tables_of_kind_separate : (kind tables : Kind) (segment : TableSet)
    → kind ≡ kind_by_flags kind.path.ucschar kind.needs_scheme → tables ≡ kind
    → segment ≡ first_segment_set kind → SeparatesComponents segment tables
tables_of_kind_separate kind tables segment known k s = subst (λ v. SeparatesComponents v tables)
    (sym s) (subst (SeparatesComponents (first_segment_set kind))
    (sym k) (each_kind_separates_components kind known))

-- main theorem on parsing: a text is parsed exactly if it is of the kind
pub parses-exactly-texts-of-kind : (kind tables : Kind) (segment : TableSet)
    → kind ≡ kind_by_flags kind.path.ucschar kind.needs_scheme → tables ≡ kind
    → segment ≡ first_segment_set kind
    → (text : List ℕ) → IsUtf8 text → parses segment tables text ≡ is_of_kind kind text
parses-exactly-texts-of-kind kind tables segment known k s text u =
    grind (arith, nat_tests, parses-is-is_of_kind, tables_of_kind_separate)

-- main theorem on parsing: the positions that are parsed are those of the text's components
pub parsed_positions-are-positions_of : (kind tables : Kind) (segment : TableSet)
    → kind ≡ kind_by_flags kind.path.ucschar kind.needs_scheme → tables ≡ kind
    → segment ≡ first_segment_set kind → (text : List ℕ) → IsUtf8 text → parses segment tables text
    ≡ true → parsed_positions segment tables text ≡ positions_of (components text)
parsed_positions-are-positions_of kind tables segment known k s =
    grind (arith, nat_tests, parsed_positions-are-those-of-components, tables_of_kind_separate)

-- main theorem on parsing: a result that is Ok exactly if the text is parsed,
-- and has the parsed positions, has those of the components
pub parse_result_is_right : {E : Type 0}
    (segment : TableSet) (tables : Kind) (text : List ℕ) (result : Result PackedPositions E)
    → is_ok result ≡ parses segment tables text → (parses segment tables text ≡ true
    → parsed_positions segment tables text ≡ positions_of (components text)) → IfOk result (λ p. p
    ≡ packed (parsed_positions segment tables text)) → IfOk result (ArePackedPositionsOf text)
parse_result_is_right segment tables text (Ok p) accepts whole places =
    places ∙ ap packed (whole (sym accepts))
parse_result_is_right segment tables text (Err e) accepts whole places = places

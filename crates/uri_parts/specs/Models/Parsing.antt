-- Where the parser finds the components, as functions of the text that is left: RFC 3986, sections
-- 3 and 4.1.
use Rattle.std.specs.Prelude.{ℕ, ◌+◌, ◌&&◌, ◌==◌, List, drop, Option, Some, None, if◌then◌else◌}
use Rattle.uri_pct.specs.Prelude.{TableSet, after, colon, question_mark, scheme_set, valid_prefix}
use Rattle.uri_parts.specs.Models.AuthorityParsing.{found_authority_length, found_authority}
use Rattle.uri_parts.specs.Components.{starts, has_authority}
use Rattle.uri_parts.specs.Grammar.{Kind}
use Rattle.uri_parts.specs.declared.positions.Positions.{Positions}
use Rattle.uri_parts.specs.declared.positions.AuthorityPositions.{AuthorityPositions}

-- where the query ends if the text rest, which is at the position place, begins with `?`, or `None`
-- if it does not
unfoldable pub query_end_at : Kind → ℕ → List ℕ → Option ℕ
query_end_at kind place rest =
    if starts question_mark rest then Some (place + 1 + valid_prefix kind.query (drop 1 rest))
    else None

-- the positions, where scheme_end and authority are found, the path begins at start, the text is
-- parsed up to place within it, and rest is left
unfoldable pub path_positions : Kind → Option ℕ → Option AuthorityPositions → ℕ → ℕ → List ℕ
    → Positions
path_positions kind scheme_end authority start place rest =
    let end = place + valid_prefix kind.path rest in
    record {
      scheme_end = scheme_end;
      authority = authority;
      path_start = start;
      path_end = end;
      query_end = query_end_at kind end (after kind.path rest);
    }

-- the positions, where the scheme ends at scheme_end, the authority begins at place, after its
-- `//`, and the text from place on is rest
unfoldable pub authority_positions : Kind → Option ℕ → ℕ → List ℕ → Positions
authority_positions kind scheme_end place rest =
    let end = place + found_authority_length kind rest in
    path_positions kind scheme_end (Some (found_authority kind place rest)) end end
    (drop (found_authority_length kind rest) rest)

-- the positions, where the scheme ends at scheme_end, and the text from place on is rest
unfoldable pub hier_part_positions : Kind → Option ℕ → ℕ → List ℕ → Positions
hier_part_positions kind scheme_end place rest =
    if has_authority rest then authority_positions kind scheme_end (place + 2) (drop 2 rest)
    else path_positions kind scheme_end None place place rest

-- the positions of a text that begins with its path, parsed up to place; rest is what is left, and
-- segment the set of a first segment without `:`
unfoldable pub relative_positions : TableSet → Kind → ℕ → List ℕ → Positions
relative_positions segment kind place rest =
    path_positions kind None None 0 (place + valid_prefix segment rest) (after segment rest)

-- the positions of a text without a scheme: `passed` bytes of it may be in one and rest is what is
-- left; segment: the set of a first segment without `:`
unfoldable pub schemeless_positions : TableSet → Kind → ℕ → List ℕ → Positions
schemeless_positions segment kind passed rest =
    if passed == 0 && has_authority rest then authority_positions kind None 2 (drop 2 rest)
    else relative_positions segment kind passed rest

-- the positions that the parser finds in a text; segment: the kind's set of a first segment without
-- `:`
unfoldable pub parsed_positions : TableSet → Kind → List ℕ → Positions
parsed_positions segment kind text =
    let passed = valid_prefix scheme_set text in
    if starts colon (after scheme_set text)
    then hier_part_positions kind (Some passed) (passed + 1) (drop 1 (after scheme_set text))
    else schemeless_positions segment kind passed (after scheme_set text)

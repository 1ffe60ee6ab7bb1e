-- What the code returns for the groups of an IPv6 address.
use Rattle.std.specs.Prelude.{ℕ, List, ⊤}
use Rattle.std.specs.Str.{IsCharBoundary}
use Rattle.uri_parts.specs.declared.ip_literal.GroupsEnd.{GroupsEnd}
use Rattle.uri_parts.specs.declared.ip_literal.GroupsEnd.TheVariants as Of
use Rattle.uri_parts.specs.LiteralErrors.{Groups, Groups_end, Elision, Malformed}

-- what a `GroupsEnd` says of the groups of an IPv6 address: where they end, or that they are
-- malformed
abbrev pub groups_of_end : GroupsEnd → Groups
groups_of_end (Of.End room end) = Groups_end room end
groups_of_end (Of.Elision room end) = Elision room end
groups_of_end Of.Malformed = Malformed

-- the groups of an IPv6 address end at a character boundary of the text, if they are not malformed
abbrev pub EndsAtBoundary : List ℕ → GroupsEnd → Type 0
EndsAtBoundary text (Of.End room end) = IsCharBoundary text end
EndsAtBoundary text (Of.Elision room end) = IsCharBoundary text end
EndsAtBoundary text Of.Malformed = ⊤

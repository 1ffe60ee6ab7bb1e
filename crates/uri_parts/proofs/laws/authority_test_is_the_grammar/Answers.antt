use Rattle.uri_parts.proofs.Common.{authority_parts}
use Rattle.uri_parts.proofs.Theorems.{is_authority_for-sound, is_authority_for-complete}
use Rattle.uri_parts.proofs.laws.authority_test_is_the_grammar.Goals as goal

pub returns : goal.returns
returns c = λ users names text apart u. (
  is_authority_for-sound users names text,
  is_authority_for-complete users names apart text (authority_parts text) u,
)

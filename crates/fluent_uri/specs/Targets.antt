-- The target of a reference, for the contracts of callers: RFC 3986, section 5.2.
use Rattle.std.specs.Prelude.{ℕ, List, Option}
use Rattle.std.specs.Result.{result_ok}
use Rattle.uri_ops.specs.Prelude.{resolution_of_texts}

-- The text of the target of a reference, the second text, against a base, the first, if it has one
-- (section 5.2).
-- A search doesn't look into it. It looks into `resolution_of_texts`, and stops at its limit where
-- it has to compare two of them.
unfoldable pub target_of_texts : List ℕ → List ℕ → Option (List ℕ)
target_of_texts base reference = result_ok (resolution_of_texts base reference)

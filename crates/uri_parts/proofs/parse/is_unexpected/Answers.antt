use Rattle.uri_parts.proofs.Common.{◌≡◌, ◌<◌, ℕ, List, false, drop, arith, Ok, Some, TableSet, is_end, starts, unexpected, Kind, error_from_end, error_from_fragment, error_from_path, error_from_query, error_from_relative_path, scan}
use Rattle.uri_parts.proofs.parse.is_unexpected.Goals as goal

-- where neither a first segment nor a path goes on, and no delimiter is next, what is next is
-- unexpected
unexpected_where_no_path_begins : (segment : TableSet) (kind : Kind) (text : List ℕ) (i : ℕ)
    → scan text segment i ≡ Ok i → scan text kind.path i ≡ Ok i → ((mark : ℕ)
    → 32 < mark → mark < 128 → starts mark (drop i text) ≡ false) → is_end (drop i text) ≡ false
    → error_from_relative_path kind text segment i ≡ Some (unexpected i)
unfolding error_from_relative_path error_from_path error_from_query error_from_fragment
    error_from_end
unexpected_where_no_path_begins segment kind text i first path other some = grind arith

pub returns : goal.returns
returns g c t = grind (arith, unexpected_where_no_path_begins)

use Rattle.uri_parts.proofs.Theorems.{is_host-complete}
use Rattle.uri_parts.proofs.Authorities.Authority.{names_exclude_delimiters}
use Rattle.uri_parts.proofs.laws.a_host_is_of_one_kind.Goals as goal

pub returns : goal.returns
returns c = λ users names text host apart u h. (is_host-complete names apart.names_percent
    (names_exclude_delimiters users names apart) text host u h).kind

use Rattle.uri_parts.proofs.Common.{host_kind}
use Rattle.uri_parts.proofs.Theorems.{is_host-complete, is_host-sound}
use Rattle.uri_parts.proofs.Authorities.Authority.{names_exclude_delimiters}
use Rattle.uri_parts.proofs.laws.host_test_is_the_grammar.Goals as goal

pub returns : goal.returns
returns c = λ users names text apart u. (
  λ t. (host_kind text, is_host-sound names text t),
  λ (host, h). (is_host-complete
      names apart.names_percent (names_exclude_delimiters users names apart) text host u h).test,
)

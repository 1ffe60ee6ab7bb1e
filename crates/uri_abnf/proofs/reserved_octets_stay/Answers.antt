use Rattle.uri_abnf.proofs.PartRules.{unreserved-is-rule, reserved-octets-stay}
use Rattle.uri_abnf.proofs.reserved_octets_stay.Goals as goal

pub returns-clause-unreserved : goal.returns-clause-unreserved
returns-clause-unreserved c = unreserved-is-rule

pub returns-clause-reserved : goal.returns-clause-reserved
returns-clause-reserved c = reserved-octets-stay

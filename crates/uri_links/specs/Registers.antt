-- The contents of a register.
use Rattle.std.specs.Prelude.{ℕ, List, map}
use Rattle.fluent_uri.specs.Normalizers.{scheme_rules_of}
use Rattle.fluent_uri.specs.SchemeRules.{Rules}
use Rattle.fluent_uri.specs.Uris.{uri_text}
use Rattle.uri_links.specs.declared.links.Register.{Register}

-- the texts of the targets in a register of links, in the order in which each was first noted; an
-- id is an index into them
abbrev pub texts_of : {S : _} {g : _} → Register S g → List (List ℕ)
texts_of register = map uri_text register.targets.items

-- the rules by which a register of links normalises targets
abbrev pub target_rules : {S : _} {g : _} → Register S g → Rules
target_rules {g = g} register = g.rules_of (scheme_rules_of register.normalizer)

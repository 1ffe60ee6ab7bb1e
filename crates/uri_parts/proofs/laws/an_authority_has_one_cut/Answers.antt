use Rattle.uri_parts.proofs.Theorems.{authority_parts-are-unique}
use Rattle.uri_parts.proofs.laws.an_authority_has_one_cut.Goals as goal

pub returns : goal.returns
returns c = λ users names text p apart u h. authority_parts-are-unique users names apart text p u h

-- What is left of a text that is split at a delimiter.
use Rattle.uri_pct.proofs.Common.{◌≡◌, eqb, Some, refl, slice_split, text_of, substrings_left}
use Rattle.uri_pct.specs.declared.pct_enc.EStr.{EStr}
use Rattle.uri_pct.specs.declared.split.Split.{Split}

pub substrings_left_are_split_of_rest : {E : _} {g : _} (s : Split E g) (e : EStr E g)
    → s.rest ≡ Some e → substrings_left s ≡ slice_split (λ b. eqb b s.delimiter) (text_of e)
substrings_left_are_split_of_rest s e h = rw h refl

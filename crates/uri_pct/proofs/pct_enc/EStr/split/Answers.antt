use Rattle.uri_pct.proofs.Common.{arith, AllPass-from_list_all, lacks}
use Rattle.std.proofs.lemmas.List.Splits.{join_with_byte-slice_split}
use Rattle.uri_pct.proofs.Decodings.Counts.{split_pieces_are_at_most_length_plus_one}
use Rattle.uri_pct.proofs.ValidTexts.Delimiters.{substrings_lack_delimiter}
use Rattle.uri_pct.proofs.pct_enc.EStr.split.Goals as goal

pub returns-clause-joined : goal.returns-clause-joined
returns-clause-joined g c = join_with_byte-slice_split c.args.delimiter _

pub returns-clause-apart : goal.returns-clause-apart
returns-clause-apart g c = AllPass-from_list_all (lacks c.args.delimiter) _
    (substrings_lack_delimiter c.args.delimiter _)

pub returns-clause-fits : goal.returns-clause-fits
returns-clause-fits g c = grind (arith, split_pieces_are_at_most_length_plus_one)

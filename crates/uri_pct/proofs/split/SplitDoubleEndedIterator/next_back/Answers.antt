use Rattle.uri_pct.proofs.Common.{◌≡◌, ◌∷◌, ◌++◌, [], eqb, length, rules, ap, ◌∙◌, length-append, slice_split, text_of, substrings_left}
use Rattle.uri_pct.proofs.ValidTexts.Delimiters.{split_piece_after_last_delimiter_is_last, text_without_delimiter_is_one_piece}
use Rattle.uri_pct.proofs.Decodings.Splits.{substrings_left_are_split_of_rest}
use Rattle.uri_pct.proofs.split.SplitDoubleEndedIterator.next_back.Goals as goal

cut : (g : _) (c : goal.After-self-1 g) → substrings_left c.args.self.now ≡ slice_split
    (λ b. eqb b c.args.self.now.delimiter) (text_of c.in-Some.rest) ++ text_of c.in-Some.piece ∷ []
cut g c = substrings_left_are_split_of_rest c.args.self.now c.in_ok-text.text c.in_ok-text.was
    ∙ split_piece_after_last_delimiter_is_last c.args.self.now.delimiter
    (text_of c.in_ok-text.text) (text_of c.in-Some.rest) (text_of c.in-Some.piece) c.in-Some.ensures

whole : (g : _) (c : goal.After-self-in-None-1 g)
    → substrings_left c.args.self.now ≡ text_of c.in_ok-text.text ∷ []
whole g c = substrings_left_are_split_of_rest c.args.self.now c.in_ok-text.text c.in_ok-text.was
    ∙ text_without_delimiter_is_one_piece c.args.self.now.delimiter
    (text_of c.in_ok-text.text) c.in-None.ensures

pub returns-in-Some-clause-steps : goal.returns-in-Some-clause-steps
returns-in-Some-clause-steps g c = cut g c

pub returns-in-Some-clause-goes : goal.returns-in-Some-clause-goes
returns-in-Some-clause-goes g c = let shorter = ap length (cut g c)
    ∙ length-append (slice_split (λ b. eqb b c.args.self.now.delimiter) (text_of c.in-Some.rest))
    (text_of c.in-Some.piece ∷ []) in search rules

pub returns-in-None-clause-steps : goal.returns-in-None-clause-steps
returns-in-None-clause-steps g c = whole g c

pub returns-in-None-clause-goes : goal.returns-in-None-clause-goes
returns-in-None-clause-goes g c = let shorter = ap length (whole g c) in search rules

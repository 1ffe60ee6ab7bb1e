-- The last character of a text that no octet ends is its last token.
use Rattle.uri_ops.proofs.Common.{◌++◌, sym, ap, ◌∙◌, encode_utf8}
use Rattle.uri_ops.proofs.FromEnd.LastTokens.{last_char_is_last_token}
use Rattle.uri_ops.proofs.read_back.last_tokens.split_last_char.Goals as goal

pub returns : goal.returns
returns c = last_char_is_last_token c.args.text.now c.as_str.result.now c.in-Some.ch
    c.utf8.text c.as_str.utf8 (sym c.chars-chars.ensures.rest ∙ c.in-Some.ensures.steps ∙ ap (λ t. t
    ++ encode_utf8 c.in-Some.ch) (sym c.as_str.ensures)) c.requires.valid c.requires.char

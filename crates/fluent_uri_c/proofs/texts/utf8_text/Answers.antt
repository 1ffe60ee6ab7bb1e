use Rattle.fluent_uri_c.proofs.Common.{IsUtf8-from_ascii, refl, rules}
use Rattle.fluent_uri_c.proofs.ValidBytes.{utf8_error-of-utf8}
use Rattle.fluent_uri_c.proofs.texts.utf8_text.Goals as goal

pub returns-in-None-clause-rejected : goal.returns-in-None-clause-rejected
returns-in-None-clause-rejected c =
    utf8_error-of-utf8 c.args.bytes.now (c.in-None.ensures.valid refl) (search rules)

pub returns-then-is_ascii-clause-rejected : goal.returns-then-is_ascii-clause-rejected
returns-then-is_ascii-clause-rejected c = utf8_error-of-utf8 c.args.bytes.now
    (IsUtf8-from_ascii c.args.bytes.now (c.is_ascii.ensures c.if-is_ascii.true)) (search rules)

pub from_utf8_unchecked-requires : goal.from_utf8_unchecked-requires
from_utf8_unchecked-requires c =
    IsUtf8-from_ascii c.args.bytes.now (c.is_ascii.ensures c.if-is_ascii.true)

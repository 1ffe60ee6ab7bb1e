use Rattle.uri_streams.proofs.Common.{arith, IsUtf8-from_ascii}
use Rattle.uri_streams.proofs.LineResults.{bytes_result-of-mended, bytes_result-of-non-utf8, bytes_result-of-text}
use Rattle.uri_streams.proofs.Tasks.{IsResult-that-remembers-the-same}
use Rattle.uri_streams.proofs.task.Task.bytes_result.Goals.{else-is_ascii+in-Ok, then-is_ascii}
use Rattle.uri_streams.proofs.task.Task.bytes_result.Goals as goal

pub from_utf8_unchecked-requires : goal.from_utf8_unchecked-requires
from_utf8_unchecked-requires c = IsUtf8-from_ascii c.args.bytes.now (c.requires c.if-is_ascii.true)

pub returns-in-Err : goal.returns-in-Err
returns-in-Err c = grind (arith, IsResult-that-remembers-the-same, bytes_result-of-non-utf8)

pub returns-then-job : goal.returns-then-job
returns-then-job c = grind (arith, bytes_result-of-mended)

pub returns : goal.returns
returns c = grind (arith, bytes_result-of-text)

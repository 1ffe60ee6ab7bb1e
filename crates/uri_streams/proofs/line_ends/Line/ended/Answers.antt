use Rattle.std.proofs.Common.{refl}
use Rattle.uri_streams.proofs.AsciiLines.{IsCutLine-of-text}
use Rattle.uri_streams.proofs.EndedLines.{end-after-text, text-before-end}
use Rattle.uri_streams.proofs.line_ends.Line.ended.Goals as goal

pub returns-clause-cut : goal.returns-clause-cut
returns-clause-cut c = IsCutLine-of-text c.args.is_null _ (text-before-end c.args.is_null _
    c.args.bytes.now _ c.requires.ended c.saturating_sub.ensures refl) c.requires.ascii

pub returns-clause-end : goal.returns-clause-end
returns-clause-end c = end-after-text c.args.is_null _ c.args.bytes.now _ c.requires.ended
    c.saturating_sub.ensures refl

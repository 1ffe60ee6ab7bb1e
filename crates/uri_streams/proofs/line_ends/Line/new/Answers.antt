use Rattle.uri_streams.proofs.Common.{◌≡◌, rules, subst, sym, IsAscii, line_text}
use Rattle.uri_streams.proofs.AsciiLines.{line_text-ascii}
use Rattle.uri_streams.proofs.line_ends.Line.new.Goals as goal

pub returns-clause-cut : goal.returns-clause-cut
returns-clause-cut c =
    let text : c.if-is_return.result.now ≡ line_text c.args.is_null c.args.bytes.now =
    search rules in
    record {
      text = text;
      ascii = λ ascii. subst IsAscii (sym text)
          (line_text-ascii c.args.is_null c.args.bytes.now (c.requires ascii));
    }

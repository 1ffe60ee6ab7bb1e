use Rattle.uri_streams.proofs.Uniques.{contains_text-after-insertion}
use Rattle.uri_streams.proofs.met.MetTexts.note.Goals as goal

pub returns : goal.returns
returns c = contains_text-after-insertion c.args.text c.args.self.now.texts c.insert.new.self
    c.in_ok-insert.ensures.updates

use Rattle.error_laws.proofs.Rows.{example-texts-have-late-errors}
use Rattle.error_laws.proofs.some_texts_have_late_errors.Goals as goal

pub returns : goal.returns
returns c = example-texts-have-late-errors

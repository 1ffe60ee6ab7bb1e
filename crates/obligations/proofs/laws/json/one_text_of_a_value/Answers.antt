use Rattle.obligations.proofs.laws.json.one_text_of_a_value.Goals as goal

pub returns : goal.returns
returns c = λ value one other.
    c.parse_lines_determine_their_texts.ensures c.args.name c.args.name c.args.one.now
    c.args.other.now value c.requires.one c.requires.other one other

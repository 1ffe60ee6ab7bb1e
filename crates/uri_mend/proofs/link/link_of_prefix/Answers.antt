use Rattle.uri_mend.proofs.Common.{drop, sym, take, take-append-drop}
use Rattle.uri_mend.proofs.LinkPrefixes.{link-of-prefix, prefix-shows-path, text-with-prefix-can-be-mended}
use Rattle.uri_mend.proofs.link.link_of_prefix.Goals as goal

pub returns-clause-link : goal.returns-clause-link
returns-clause-link c =
    let text = c.args.text.now in
    let index = c.args.index in
    link-of-prefix text (take index text) (drop index text) c.args.before c.utf8.text
    (sym (take-append-drop index text)) c.requires.positions c.requires.scheme
    (prefix-shows-path text index c.args.before c.requires.boundary.0 c.requires.positions
    (c.shows_path.ensures.some c.if-not-shows_path.false)
    (c.shows_path.ensures.two c.if-not-shows_path.false)
    (c.shows_path.ensures.mark c.if-not-shows_path.false))

pub returns-clause-mendable : goal.returns-clause-mendable
returns-clause-mendable c kind is =
    let text = c.args.text.now in
    let index = c.args.index in
    text-with-prefix-can-be-mended kind text (take index text) (drop index text)
    (sym (take-append-drop index text)) c.requires.scheme
    (prefix-shows-path text index c.args.before c.requires.boundary.0 c.requires.positions
    (c.shows_path.ensures.some c.if-not-shows_path.false)
    (c.shows_path.ensures.two c.if-not-shows_path.false)
    (c.shows_path.ensures.mark c.if-not-shows_path.false)) is

use Rattle.std.proofs.Common.{rules, ◌≡◌, codes, string_bytes}
use Rattle.uri_commands.proofs.Commands.{bytes-of-three-and-others}
use Rattle.uri_commands.proofs.command.links_from_words.Goals as goal

pub returns-in-len3-up : goal.returns-in-len3-up
returns-in-len3-up c =
    let words = bytes-of-three-and-others _ _ _ _ c.in-len3-up.len_at_least c.command-item.is
    c.base-item.is c.reference-item.is in
    let command : string_bytes c.command-item.result ≡ codes "links" = search rules in
    cc (c.as_str-in-len3-up.ensures.value, c.as_str-in-len3-up-2.ensures.value)

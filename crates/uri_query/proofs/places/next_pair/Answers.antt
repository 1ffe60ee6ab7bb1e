use Rattle.std.proofs.Common.{◌∙◌, ◌<◌, arith, eqb, length, not, take}
use Rattle.uri_pct.specs.Models.ByteRuns.{IsLongestRun}
use Rattle.uri_query.proofs.PairPlaces.{name-is-before-equals, name-ends-within, next-substring-is-first, run-passes-other-byte, value-is-that-of-pair}
use Rattle.uri_query.proofs.places.next_pair.Goals as goal

pub returns : goal.returns
returns c =
    let query = c.args.query.now in
    let start = c.skip_ampersands-start.result in
    let end = c.find_byte-end.result in
    let name_end = c.find_byte-name_end.result in
    let run = c.find_byte-end.ensures in
    let inside : start < length query =
    omega (arith, c.skip_ampersands-start.ensures.within, c.if-start-query.false) in
    let some = run-passes-other-byte 38 query start end run inside
    (c.skip_ampersands-start.ensures.other inside) in
    let named : IsLongestRun (λ b. not (eqb b 61)) (take end query) start name_end =
    c.find_byte-name_end.ensures in
    record {
      start = c.skip_ampersands-start.ensures.from;
      some = some;
      within = run.within;
      name_start = named.from;
      name_end = name-ends-within query start name_end end run.within named;
      name = name-is-before-equals query start name_end end run.within named;
      value = value-is-that-of-pair query start name_end end run.within named;
      rest = c.skip_ampersands-start.ensures.left
          ∙ next-substring-is-first query start end some run;
    }

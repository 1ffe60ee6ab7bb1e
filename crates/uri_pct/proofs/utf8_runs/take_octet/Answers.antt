use Rattle.uri_pct.proofs.Common.{◌<◌, List, [], ◌∷◌, ◌++◌, map, sym, ◌∙◌, subst, ltb-true, on_ok_weaker, Byte, window_bytes, Part, Decoded, parts_from, utf8_pieces}
use Rattle.uri_pct.specs.declared.window.Window.{Window}
use Rattle.uri_pct.proofs.Unicode.AsciiOctets.{parts_from-ascii-octet}
use Rattle.uri_pct.proofs.utf8_runs.take_octet.Goals as goal
use Rattle.uri_pct.proofs.utf8_runs.take_octet.Goals.{then-is_full+in_ok-take_full_window, else-is_full}

pub returns-then-is_ascii : goal.returns-then-is_ascii
returns-then-is_ascii g c = on_ok_weaker c.take_ascii.result (λ taken u suffix h.
    let took = g.T.TakeParts.took in
    let on = g.met.T.TakeParts.takes_appended_parts in
    let run = map Decoded (utf8_pieces (window_bytes c.args.window.now)) in
    let character = map Decoded (utf8_pieces (c.args.byte ∷ [])) in
    let start = c.args.taker.now in
    let middle = c.take_window.new.taker in
    let end = c.take_ascii.new.self in
    let small : c.args.byte < 128 = ltb-true _ _ (sym c.is_ascii.ensures ∙ c.if-is_ascii.true) in
    let left : took end (parts_from [] suffix) u =
    subst (λ bytes. took end (parts_from bytes suffix) u) c.in_ok-take_window.ensures.emptied h in
    let rest = on middle end u character (parts_from [] suffix) taken left in
    let parted = parts_from-ascii-octet (window_bytes c.args.window.now) c.args.byte suffix small in
    subst (λ ps. took start ps u) (sym parted) (on start middle u run (character
    ++ parts_from [] suffix) c.in_ok-take_window.ensures.taken rest)) c.take_ascii.ensures

pub returns : goal.returns
unfolding parts_from
returns g c = λ u suffix h.
    let from : Window → List Part =
    λ window. parts_from (window_bytes window) (Byte c.args.byte ∷ suffix) in
    let took = g.T.TakeParts.took in
    let taker = c.if-is_full.taker in
    let put : took taker (from c.if-is_full.window) u =
    subst (λ bytes. took taker (parts_from bytes suffix) u) c.push.ensures h in
    elim c.if-is_full.branch [
      | then-is_full+in_ok-take_full_window w ↦ w.in_ok-take_full_window.ensures.taken u
          (Byte c.args.byte ∷ suffix) (subst (λ t. took t (from w.take_full_window.new.window) u)
          w.taker-is (subst (λ x. took taker (from x) u) w.window-is put))
      | else-is_full w ↦ subst (λ t. took t (from c.args.window.now) u) w.taker-is
          (subst (λ x. took taker (from x) u) w.window-is put)
    ]
